use Rattle.line_lists.proofs.Common.{◌≡◌, ◌++◌, map, take, drop, without_mark}
use Rattle.line_lists.proofs.line_vec.take_marks.Given as goal

abbrev pub invariant-loop-line : goal.invariant-loop-line
invariant-loop-line l =
    l.lines ≡ map (without_mark l.number.0) (take l.line-index l.initial.lines) ++ drop l.line-index l.initial.lines
