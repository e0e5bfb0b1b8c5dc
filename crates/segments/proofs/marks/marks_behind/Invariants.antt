use Rattle.segments.proofs.Common.{◌≡◌, map, take, nat_le, filter, Mark, earlier, with_place}
use Rattle.segments.proofs.marks.marks_behind.Given as goal

abbrev pub invariant-loop-mark : goal.invariant-loop-mark
invariant-loop-mark l =
    l.behind.items ≡ map (with_place (earlier l.column))
    (filter (λ (mark : Mark). nat_le l.column mark.place.offset) (take l.mark-index l.fn.marks))
