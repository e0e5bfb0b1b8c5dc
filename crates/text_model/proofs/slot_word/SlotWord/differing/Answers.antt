use Rattle.text_model.proofs.Common.{◌≡◌, ◌∙◌, ap, ap₂, sym, slots_in, word_index, word_index-slots_in, differing}
use Rattle.text_model.proofs.OneWordSteps.{slots_in-differing}
use Rattle.text_model.proofs.slot_word.SlotWord.differing.Goals as goal

pub returns-clause-slots : goal.returns-clause-slots
returns-clause-slots c =
    let one = c.self.inside in
    let two = c.other.inside in
    let same : two.index ≡ one.index =
    sym (word_index-slots_in two.index two.bits c.other.invariant) ∙ ap word_index c.other.view_is ∙ sym c.requires
    ∙ ap word_index (sym c.self.view_is) ∙ word_index-slots_in one.index one.bits c.self.invariant in
    c.of_bits.ensures.slots
    ∙ slots_in-differing one.index one.bits two.bits c.self.invariant.within
    ∙ ap₂ differing c.self.view_is (ap (λ n. slots_in n two.bits) (sym same) ∙ c.other.view_is)
