use Rattle.segments.proofs.Common.{◌≡◌, true, false, ltb, ltb-true, ltb-false, arith, rules}
use Rattle.segments.proofs.Common.{IsPartitionPoint-from_clause, IsPartitionedBy-ltb, IsPartitionPoint, Mark}
use Rattle.segments.proofs.MarkLaws.{all_below, next_above, numbers_rise}
use Rattle.segments.proofs.marks.count_below.Goals.{After-partition_point}
use Rattle.segments.proofs.marks.count_below.Goals as goal

-- the marks before the place have lower numbers, and those from it on haven't
parted : (c : After-partition_point)
    → IsPartitionPoint (λ (mark : Mark). ltb mark.number.0 c.args.number.0
    ≡ true) (λ mark. ltb mark.number.0 c.args.number.0 ≡ false) c.args.marks.now c.partition_point.result
parted c =
    let rise = IsPartitionedBy-ltb (λ (mark : Mark). mark.number.0) c.args.marks.now c.args.number.0
    (numbers_rise c.args.marks.now c.requires) in
    IsPartitionPoint-from_clause (λ (mark : Mark). ltb mark.number.0 c.args.number.0) _ _
    c.partition_point.ensures.partitioned rise (λ a r q k. search rules)

pub returns-clause-below : goal.returns-clause-below
returns-clause-below c =
    all_below c.args.marks.now c.partition_point.result c.args.number.0 c.partition_point.ensures.bound (λ k d less.
    ltb-true _ _ ((parted c).0 k d (omega arith) less))

pub returns-clause-above : goal.returns-clause-above
returns-clause-above c =
    next_above c.args.marks.now c.partition_point.result c.args.number.0 (λ k d order within.
    ltb-false _ _ ((parted c).1 k d order within))
