use Rattle.text_model.proofs.PlaceLaws.{plain_marks-take, plain_marks_none}
use Rattle.text_model.proofs.plain_store.take_place.Goals as goal

pub returns-then-index-places : goal.returns-then-index-places
returns-then-index-places c = plain_marks-take c.args.places.now c.args.number.0 c.if-index-places.true

pub returns-else-index-places : goal.returns-else-index-places
returns-else-index-places c = plain_marks_none c.args.places.now c.args.number.0 c.if-index-places.false
