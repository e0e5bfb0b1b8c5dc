use Rattle.segments.proofs.Common.{◌≡◌, ℕ, ◌+◌, ◌*◌, true, false, ltb, ltb-true, ltb-false, arith, rules}
use Rattle.segments.proofs.Common.{IsPartitionPoint-from_clause, IsPartitionedBy-ltb, IsPartitionPoint, WORDS, Toggled}
use Rattle.segments.proofs.Common.{RiseIn, place_of}
use Rattle.segments.proofs.EntryLaws.{before_point, behind_point, places_rise, told}
use Rattle.segments.proofs.toggles.count_before_word.Goals.{After-partition_point}
use Rattle.segments.proofs.toggles.count_before_word.Goals as goal

-- the entries before the index stand before the place, and those from it on don't
parted : (c : After-partition_point) (from to : ℕ) → RiseIn from to c.args.toggles.now
    → IsPartitionPoint (λ (entry : Toggled). ltb (place_of entry) (WORDS * c.args.column + c.args.word) ≡ true)
    (λ entry. ltb (place_of entry) (WORDS * c.args.column + c.args.word) ≡ false)
    c.args.toggles.now c.partition_point.result
parted c from to rise =
    let place = WORDS * c.args.column + c.args.word in
    let order = IsPartitionedBy-ltb place_of c.args.toggles.now place (places_rise from to c.args.toggles.now rise) in
    IsPartitionPoint-from_clause (λ (entry : Toggled). ltb (place_of entry) place) _ _
    c.partition_point.ensures.partitioned order (λ a r q k. search (rules, told))

pub returns-clause-before : goal.returns-clause-before
returns-clause-before c = λ from to rise.
    let place = WORDS * c.args.column + c.args.word in
    before_point from to place c.args.toggles.now c.partition_point.result rise c.partition_point.ensures.bound
    (λ k d less. ltb-true _ _ ((parted c from to rise).0 k d (omega arith) less))

pub returns-clause-behind : goal.returns-clause-behind
returns-clause-behind c = λ from to rise above.
    behind_point from to (WORDS * c.args.column + c.args.word) c.args.toggles.now c.partition_point.result rise
    (λ k d order within. ltb-false _ _ ((parted c from to rise).1 k d order within))
