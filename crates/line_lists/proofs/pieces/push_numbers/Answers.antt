use Rattle.line_lists.proofs.Common.{◌++◌, ◌∷◌, [], sym, ap, ◌∙◌, map-append, MarkNo, named}
use Rattle.line_lists.proofs.FreedLaws.{numbers-all, numbers-more}
use Rattle.line_lists.proofs.pieces.push_numbers.Goals as goal

pub loop-number-preserved : goal.loop-number-preserved
loop-number-preserved c =
    ap named c.in_ok-push.ensures.items
    ∙ map-append (λ (number : MarkNo). number.0) c.loop-number.numbers.items (c.in-Some.number ∷ [])
    ∙ ap (λ xs. xs ++ c.in-Some.number.0 ∷ []) c.loop-number.invariant
    ∙ sym (numbers-more c.args.line.now (named c.args.numbers.now.items) c.loop-number.index c.in-Some.number.0
    c.in-Some.field-0-1 c.in-Some.ensures.value)

pub returns : goal.returns
returns c =
    c.loop-number.invariant ∙ ap (λ xs. named c.args.numbers.now.items ++ xs)
    (numbers-all c.args.line.now c.loop-number.index c.in_default.ensures.value)
