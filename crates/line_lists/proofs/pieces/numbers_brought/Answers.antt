use Rattle.line_lists.proofs.Common.{◌++◌, ◌∙◌, numbers_in}
use Rattle.line_lists.proofs.GatherLaws.{numbers-piece}
use Rattle.line_lists.proofs.pieces.numbers_brought.Goals as goal

pub loop-piece-preserved : goal.loop-piece-preserved
loop-piece-preserved c =
    let piece = c.piece-item.result in
    let so_far = c.loop-piece.invariant in
    c.in_ok-push_all_numbers.ensures
    ∙ (λ i. so_far i ++ numbers_in (c.deref.ensures.value i))
    ∙ numbers-piece c.args.pieces.now c.loop-piece.piece-index piece c.loop-piece-test.true c.piece-item.is
