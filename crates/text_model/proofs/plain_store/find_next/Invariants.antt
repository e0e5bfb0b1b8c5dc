use Rattle.text_model.proofs.Common.{◌≡◌, min, drop, next_mark, plain_marks}
use Rattle.text_model.proofs.MarkOrderLaws.{offsets_above, reduced_from}
use Rattle.text_model.proofs.plain_store.find_next.Given as goal

abbrev pub invariant-loop-place : goal.invariant-loop-place
invariant-loop-place l = next_mark l.fn.offset (plain_marks l.fn.places)
    ≡ reduced_from min l.next (offsets_above l.fn.offset l.place-index (drop l.place-index l.fn.places))
