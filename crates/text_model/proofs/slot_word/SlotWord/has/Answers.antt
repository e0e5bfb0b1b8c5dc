use Rattle.text_model.proofs.OneWordSteps.{found_here, not_found}
use Rattle.text_model.proofs.slot_word.SlotWord.has.Goals as goal

pub returns-then-slot-self : goal.returns-then-slot-self
returns-then-slot-self c =
    rw (← c.self.view_is)
    (found_here c.self.inside.index c.self.inside.bits c.args.slot.0 c.self.invariant.within c.if-slot-self.true)

pub returns-else-slot-self : goal.returns-else-slot-self
returns-else-slot-self c =
    rw (← c.self.view_is)
    (not_found c.self.inside.index c.self.inside.bits c.args.slot.0 c.self.invariant.within c.if-slot-self.false)
