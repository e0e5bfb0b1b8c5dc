use Rattle.text_model.proofs.TagSteps.{AreWords-differing, slots_of-differing}
use Rattle.text_model.proofs.tag_set.TagSet.flip.Goals as goal

pub invariant_of-self : goal.invariant_of-self
invariant_of-self c =
    AreWords-differing c.self.inside.words c.other.inside.words c.turn.new.words c.self.invariant c.other.invariant.each
    c.turn.array_long c.turn.ensures

pub returns : goal.returns
returns c =
    rw (← c.self.view_is, ← c.other.view_is)
    (slots_of-differing c.self.inside.words c.other.inside.words c.turn.new.words c.turn.ensures)
