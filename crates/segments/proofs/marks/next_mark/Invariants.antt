use Rattle.segments.proofs.Common.{◌≡◌, min, drop, next_mark, reduced_from, marks_of}
use Rattle.segments.proofs.MarkOrderLaws.{offsets_above}
use Rattle.segments.proofs.marks.next_mark.Given as goal

abbrev pub invariant-loop-mark : goal.invariant-loop-mark
invariant-loop-mark l =
    next_mark l.fn.column (marks_of l.fn.marks)
    ≡ reduced_from min l.next (offsets_above l.fn.column (drop l.mark-index l.fn.marks))
