use Rattle.segments.proofs.Common.{◌≡◌, ◌++◌, map, take, drop, moved_on}
use Rattle.segments.proofs.toggles.move_on.Given as goal

abbrev pub invariant-loop-entry : goal.invariant-loop-entry
invariant-loop-entry l =
    l.toggles ≡ map (moved_on l.count) (take l.entry-index l.initial.toggles) ++ drop l.entry-index l.initial.toggles
