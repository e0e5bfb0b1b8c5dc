use Rattle.segments.proofs.Common.{◌≡◌, ℕ, ◌≤◌, length, take, LieIn, previous_entry}
use Rattle.segments.proofs.toggles.previous_toggle.Given as goal

abbrev pub invariant-loop-index : goal.invariant-loop-index
invariant-loop-index l =
    (l.index ≤ length l.toggles)
    × ((from to : ℕ) → LieIn from to l.toggles
    → LieIn from l.column (take l.index l.toggles)
    × (previous_entry l.slot.0 l.column l.toggles ≡ previous_entry l.slot.0 l.column (take l.index l.toggles)))

abbrev pub decreases-loop-index : goal.decreases-loop-index
decreases-loop-index l = l.index
