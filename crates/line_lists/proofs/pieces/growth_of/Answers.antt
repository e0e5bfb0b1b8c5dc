use Rattle.line_lists.proofs.Common.{◌≡◌, ◌+◌, ◌-◌, ◌^◌, length, take, arith}
use Rattle.line_lists.proofs.GrowthLaws.{lines-next, rows-few, rows-next}
use Rattle.line_lists.proofs.StepTexts.{sum-there}
use Rattle.line_lists.proofs.pieces.growth_of.Goals as goal

pub overflow_add-growth : goal.overflow_add-growth
overflow_add-growth c =
    let more = sum-there c.checked_add.result _ (2 ^ 64) (c.loop-piece.growth.lines + c.saturating_sub-more.result)
    c.in_ok-growth.field-0 c.checked_add.ensures c.in_ok-growth.ensures.value in
    omega (
      arith,
      more.0,
      c.min.ensures,
      c.loop-piece.invariant.lines,
      c.loop-piece.invariant.rows,
      rows-few (take c.loop-piece.piece-index c.args.pieces.now),
    )

pub loop-piece-preserved : goal.loop-piece-preserved
loop-piece-preserved c =
    let pieces = c.args.pieces.now in
    let i = c.loop-piece.piece-index in
    let piece = c.piece-item.result in
    let so_far = c.loop-piece.invariant in
    let more = sum-there c.checked_add.result _ (2 ^ 64) (c.loop-piece.growth.lines + c.saturating_sub-more.result)
    c.in_ok-growth.field-0 c.checked_add.ensures c.in_ok-growth.ensures.value in
    let beyond : c.saturating_sub-more.result ≡ length piece.lines.items - piece.count = omega (
      arith,
      c.saturating_sub-more.ensures,
      c.len.ensures,
      piece.lines.ok.0,
    ) in
    record {
      lines = omega (arith, more.1, so_far.lines, beyond, lines-next pieces i piece c.loop-piece-test.true c.piece-item.is);
      rows = omega (
        arith,
        so_far.rows,
        c.min.ensures,
        beyond,
        rows-next pieces i piece c.loop-piece-test.true
            c.piece-item.is,
      );
    }
