use Rattle.text_model.proofs.Common.{◌≡◌, max, drop, previous_mark, plain_marks}
use Rattle.text_model.proofs.MarkOrderLaws.{offsets_below, reduced_from}
use Rattle.text_model.proofs.plain_store.find_previous.Given as goal

abbrev pub invariant-loop-place : goal.invariant-loop-place
invariant-loop-place l = previous_mark l.fn.offset (plain_marks l.fn.places)
    ≡ reduced_from max l.previous (offsets_below l.fn.offset l.place-index (drop l.place-index l.fn.places))
