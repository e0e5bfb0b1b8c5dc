use Rattle.text_model.proofs.TagSteps.{found_bit}
use Rattle.text_model.proofs.tag_set.TagSet.has.Goals as goal

pub returns : goal.returns
returns c = rw (← c.self.view_is) (found_bit c.self.inside.words c.args.slot.0 c.requires)
