use Rattle.text_model.proofs.Common.{◌∙◌, ap, sym, replicate, slot_count, slots_of, WORDS}
use Rattle.std.proofs.lemmas.Slice.Eq.{bytes_eq-Decides}
use Rattle.text_model.proofs.TagSteps.{slots_below-zeros, zeros_of-slots_of}
use Rattle.text_model.proofs.tag_set.TagSet.is_empty.Goals as goal

pub returns-clause-none : goal.returns-clause-none
returns-clause-none c = λ yes.
    let none = (bytes_eq-Decides c.self.inside.words (replicate WORDS 0)).0 (sym c.eq.ensures ∙ yes) in
    sym c.self.view_is ∙ ap slots_of none ∙ slots_below-zeros slot_count

pub returns-clause-some : goal.returns-clause-some
returns-clause-some c = λ none.
    let words = c.self.inside.words in
    c.eq.ensures ∙ (bytes_eq-Decides words (replicate WORDS 0)).1
    (zeros_of-slots_of words c.self.invariant (c.self.view_is ∙ none))
