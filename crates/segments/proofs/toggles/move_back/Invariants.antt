use Rattle.segments.proofs.Common.{◌≡◌, ◌++◌, map, take, drop, moved_back}
use Rattle.segments.proofs.toggles.move_back.Given as goal

abbrev pub invariant-loop-entry : goal.invariant-loop-entry
invariant-loop-entry l =
    l.toggles ≡ map (moved_back l.count) (take l.entry-index l.initial.toggles) ++ drop l.entry-index l.initial.toggles
