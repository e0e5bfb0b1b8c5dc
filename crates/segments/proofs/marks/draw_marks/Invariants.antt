use Rattle.segments.proofs.Common.{◌≡◌, ◌++◌, map, take, drop, drawn, with_place}
use Rattle.segments.proofs.marks.draw_marks.Given as goal

abbrev pub invariant-loop-mark : goal.invariant-loop-mark
invariant-loop-mark l = l.marks ≡ map (with_place (drawn l.from l.to)) (take l.mark-index l.initial.marks)
    ++ drop l.mark-index l.initial.marks
