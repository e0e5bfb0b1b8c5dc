use Rattle.line_lists.proofs.Common.{take, plus, copies_of, IsCounted, SameNumbers, count_of, copied_lines}
use Rattle.line_lists.proofs.pieces.count.Given as goal

abbrev pub invariant-loop-stop : goal.invariant-loop-stop
invariant-loop-stop g l =
    SameNumbers l.sum (plus (count_of (g.L.LineList.lines l.list))
    (count_of (copied_lines (copies_of (take l.stop-index l.stops)))))
    × IsCounted l.sum
