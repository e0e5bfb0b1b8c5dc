use Rattle.text_model.proofs.Common.{◌∙◌, subst, IsOneWord}
use Rattle.text_model.proofs.OneWordSteps.{one_word, slot_cleared, slot_kept}
use Rattle.text_model.proofs.slot_word.SlotWord.without.Goals as goal

pub returns-then-slot-self-clause-slots : goal.returns-then-slot-self-clause-slots
returns-then-slot-self-clause-slots c =
    rw (← c.self.view_is)
    (slot_kept c.self.inside.index c.self.inside.bits c.args.slot.0 c.self.invariant.within c.if-slot-self.true)

pub returns-then-slot-self-clause-word : goal.returns-then-slot-self-clause-word
returns-then-slot-self-clause-word c =
    subst IsOneWord c.self.view_is (one_word c.self.inside.index c.self.inside.bits c.self.invariant)

pub returns-clause-slots : goal.returns-clause-slots
returns-clause-slots c =
    rw (← c.self.view_is)
    (c.of_bits.ensures.slots
    ∙ slot_cleared c.self.inside.index c.self.inside.bits c.args.slot.0 c.self.invariant.within c.if-slot-self.false)
