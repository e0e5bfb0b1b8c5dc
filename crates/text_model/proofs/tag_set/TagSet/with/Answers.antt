use Rattle.text_model.proofs.TagSteps.{AreWords-with_word, word_with, word_with_lt, slots_of-with}
use Rattle.text_model.proofs.tag_set.TagSet.with.Goals as goal

pub invariant_of-result : goal.invariant_of-result
invariant_of-result c =
    let words = c.self.inside.words in
    let slot = c.args.slot.0 in
    AreWords-with_word words slot (word_with words slot) c.self.invariant c.requires
    (word_with_lt words slot c.self.invariant c.requires)

pub returns : goal.returns
returns c = rw (← c.self.view_is) (slots_of-with c.self.inside.words c.args.slot.0 c.self.invariant c.requires)
