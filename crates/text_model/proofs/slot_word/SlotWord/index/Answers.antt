use Rattle.text_model.proofs.Common.{◌∙◌, ap, sym, subst, IsOneWord, word_index, word_index-slots_in}
use Rattle.text_model.proofs.OneWordSteps.{one_word}
use Rattle.text_model.proofs.slot_word.SlotWord.index.Goals as goal

pub returns-clause-index : goal.returns-clause-index
returns-clause-index c =
    sym (word_index-slots_in c.self.inside.index c.self.inside.bits c.self.invariant) ∙ ap word_index c.self.view_is

pub returns-clause-word : goal.returns-clause-word
returns-clause-word c =
    subst IsOneWord c.self.view_is (one_word c.self.inside.index c.self.inside.bits c.self.invariant)
