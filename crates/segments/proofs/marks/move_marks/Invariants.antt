use Rattle.segments.proofs.Common.{◌≡◌, ◌++◌, map, take, drop, moved, with_place}
use Rattle.segments.proofs.marks.move_marks.Given as goal

abbrev pub invariant-loop-mark : goal.invariant-loop-mark
invariant-loop-mark l = l.marks ≡ map (with_place (moved l.at l.count)) (take l.mark-index l.initial.marks)
    ++ drop l.mark-index l.initial.marks
