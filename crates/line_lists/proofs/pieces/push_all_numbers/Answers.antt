use Rattle.line_lists.proofs.Common.{◌++◌, ap, ◌∙◌, append_assoc, named, numbers_of}
use Rattle.line_lists.proofs.GatherLaws.{numbers-next}
use Rattle.line_lists.proofs.pieces.push_all_numbers.Goals as goal

pub loop-line-preserved : goal.loop-line-preserved
loop-line-preserved c =
    let old = named c.args.numbers.now.items in
    c.in_ok-push_numbers.ensures ∙ ap (λ xs. xs ++ numbers_of c.line-item.result) c.loop-line.invariant
    ∙ append_assoc old _ (numbers_of c.line-item.result)
    ∙ ap (λ xs. old ++ xs)
    (numbers-next c.args.lines.now c.loop-line.line-index c.line-item.result c.loop-line-test.true c.line-item.is)
