use Rattle.text_model.proofs.Common.{◌≡◌, drop, slice_get, marks_at, plain_marks}
use Rattle.text_model.proofs.MarkOrderLaws.{marks_from}
use Rattle.text_model.proofs.plain_store.find_mark.Given as goal

abbrev pub invariant-loop-number : goal.invariant-loop-number
invariant-loop-number l =
    slice_get (marks_at l.fn.offset (plain_marks l.fn.places)) l.fn.index
    ≡ slice_get (marks_from l.fn.offset l.number (drop l.number l.fn.places)) l.left
