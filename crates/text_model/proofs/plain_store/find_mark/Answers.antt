use Rattle.text_model.proofs.Common.{ap, slice_get}
use Rattle.text_model.proofs.MarkOrderLaws.{marks_at_from}
use Rattle.text_model.proofs.plain_store.find_mark.Goals as goal

pub loop-number-init : goal.loop-number-init
loop-number-init c = ap (λ marks. slice_get marks c.args.index) (marks_at_from c.args.offset c.args.places.now)
