use Rattle.segments.proofs.Common.{◌≡◌, drop, differing, odd_of}
use Rattle.segments.proofs.toggles.turn_odd.Given as goal

abbrev pub invariant-loop-entry : goal.invariant-loop-entry
invariant-loop-entry l = differing l.slots (odd_of (drop l.entry-index l.toggles)) ≡ differing l.initial.slots (odd_of l.toggles)
