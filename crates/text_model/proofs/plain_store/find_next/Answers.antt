use Rattle.text_model.proofs.MarkOrderLaws.{next_mark_from}
use Rattle.text_model.proofs.plain_store.find_next.Goals as goal

pub loop-place-init : goal.loop-place-init
loop-place-init c = next_mark_from c.args.offset c.args.places.now
