use Rattle.text_model.proofs.Common.{◌∙◌, ap, sym, slots_in, word_index, word_index-slots_in}
use Rattle.text_model.proofs.slot_word.SlotWord.bits.Goals as goal

pub returns : goal.returns
returns c =
    let word = c.self.inside.index in
    let bits = c.self.inside.bits in
    ap (λ n. slots_in n bits) (ap word_index (sym c.self.view_is) ∙ word_index-slots_in word bits c.self.invariant)
    ∙ c.self.view_is
