use Rattle.segments.proofs.Common.{◌≡◌, drop, next_entry}
use Rattle.segments.proofs.toggles.next_toggle.Given as goal

abbrev pub invariant-loop-entry : goal.invariant-loop-entry
invariant-loop-entry l =
    next_entry l.slot.0 l.column (drop l.entry-index l.toggles) ≡ next_entry l.slot.0 l.column l.toggles
