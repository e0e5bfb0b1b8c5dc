use Rattle.text_model.proofs.Common.{◌<◌, ◌∙◌, ap, ap₂, length, length-set, slots_in, AreWords-alone, differing, WORDS}
use Rattle.text_model.proofs.OneWordSteps.{slots_of-turned, turned-word}
use Rattle.text_model.proofs.TagSteps.{AreWords-differing}
use Rattle.text_model.proofs.tag_set.TagSet.flip_word.Goals as goal

pub invariant_of-self : goal.invariant_of-self
invariant_of-self c =
    let words = c.self.inside.words in
    let index = c.index.result in
    let bits = c.bits.result in
    let within : index < WORDS = rw c.index.ensures.index c.index.ensures.word.within in
    let long : index < length words = rw c.self.invariant.count within in
    AreWords-differing words _ _ c.self.invariant (AreWords-alone index bits within c.bits.type_inv).each
    (length-set words index _ ∙ c.self.invariant.count) (λ i _. turned-word words index bits long within i)

pub returns : goal.returns
returns c =
    let words = c.self.inside.words in
    let index = c.index.result in
    let bits = c.bits.result in
    let within : index < WORDS = rw c.index.ensures.index c.index.ensures.word.within in
    let long : index < length words = rw c.self.invariant.count within in
    slots_of-turned words index bits long within
    ∙ ap₂ differing c.self.view_is (ap (λ n. slots_in n bits) c.index.ensures.index ∙ c.bits.ensures)
