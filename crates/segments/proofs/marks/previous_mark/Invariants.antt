use Rattle.segments.proofs.Common.{◌≡◌, max, drop, previous_mark, reduced_from, marks_of}
use Rattle.segments.proofs.MarkOrderLaws.{offsets_below}
use Rattle.segments.proofs.marks.previous_mark.Given as goal

abbrev pub invariant-loop-mark : goal.invariant-loop-mark
invariant-loop-mark l =
    previous_mark l.fn.column (marks_of l.fn.marks)
    ≡ reduced_from max l.previous (offsets_below l.fn.column (drop l.mark-index l.fn.marks))
