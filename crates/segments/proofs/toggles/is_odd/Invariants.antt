use Rattle.segments.proofs.Common.{◌≡◌, drop, either, odd_of}
use Rattle.std.specs.FinSet as set
use Rattle.segments.proofs.toggles.is_odd.Given as goal

abbrev pub invariant-loop-entry : goal.invariant-loop-entry
invariant-loop-entry l =
    either l.is_odd (set.contains (odd_of (drop l.entry-index l.toggles)) l.slot.0)
    ≡ set.contains (odd_of l.toggles) l.slot.0
