use Rattle.edit_ops.proofs.Common.{◌^◌, ◌<◌, arith, sum_by_more_le}
use Rattle.edit_ops.proofs.DeltaLaws.{apart-at, counted, long}
use Rattle.edit_ops.proofs.deletions.count_in.Goals as goal

pub overflow_sub-count : goal.overflow_sub-count
overflow_sub-count c =
    let is = apart-at (2 ^ 64) c.args.spans.now c.loop-span.span-index (record { from = 0; to = 0 }) c.loop-span-test.true
    c.requires in
    let some = is.some in
    omega (arith, some)

pub overflow_add-count : goal.overflow_add-count
overflow_add-count c =
    let spans = c.args.spans.now in
    let some : 0 < 2 ^ 64 = omega arith in
    let whole = counted (2 ^ 64) spans some c.requires in
    let so_far = sum_by_more_le long spans c.loop-span.span-index (record { from = 0; to = 0 }) c.loop-span-test.true in
    omega (arith, c.loop-span.invariant, so_far, whole)
