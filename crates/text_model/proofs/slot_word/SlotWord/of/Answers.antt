use Rattle.text_model.proofs.Common.{◌∙◌}
use Rattle.text_model.proofs.OneWordSteps.{one_slot}
use Rattle.text_model.proofs.slot_word.SlotWord.of.Goals as goal

pub returns-clause-slots : goal.returns-clause-slots
returns-clause-slots c = c.of_bits.ensures.slots ∙ one_slot c.args.slot.0 c.requires
