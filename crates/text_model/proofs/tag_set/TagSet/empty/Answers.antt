use Rattle.text_model.proofs.Common.{slot_count}
use Rattle.text_model.proofs.TagSteps.{slots_below-zeros}
use Rattle.text_model.proofs.tag_set.TagSet.empty.Goals as goal

pub returns : goal.returns
returns c = slots_below-zeros slot_count
