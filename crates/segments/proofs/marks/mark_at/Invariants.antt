use Rattle.segments.proofs.Common.{◌≡◌, drop, slice_get, marks_at, marks_of}
use Rattle.segments.proofs.MarkOrderLaws.{numbers_at}
use Rattle.segments.proofs.marks.mark_at.Given as goal

abbrev pub invariant-loop-mark : goal.invariant-loop-mark
invariant-loop-mark l =
    slice_get (marks_at l.fn.column (marks_of l.fn.marks)) l.fn.index
    ≡ slice_get (numbers_at l.fn.column (drop l.mark-index l.fn.marks)) l.left
