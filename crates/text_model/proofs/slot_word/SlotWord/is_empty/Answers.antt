use Rattle.text_model.proofs.Common.{◌≡◌, ◌∙◌, ℕ, true, nat_eq, sym, arith, nat_tests}
use Rattle.text_model.proofs.OneWordSteps.{bits-none, slots_in-none}
use Rattle.text_model.proofs.slot_word.SlotWord.is_empty.Goals as goal

is_none : (n : ℕ) → nat_eq n 0 ≡ true → n ≡ 0
is_none n is = grind (arith, nat_tests)

none_is : (n : ℕ) → n ≡ 0 → nat_eq n 0 ≡ true
none_is n none = grind (arith, nat_tests)

pub returns-clause-none : goal.returns-clause-none
returns-clause-none c = λ is.
    sym c.self.view_is ∙ slots_in-none c.self.inside.index c.self.inside.bits c.self.invariant.within
    (is_none c.self.inside.bits is)

pub returns-clause-some : goal.returns-clause-some
returns-clause-some c = λ none.
    none_is c.self.inside.bits
    (bits-none c.self.inside.index c.self.inside.bits c.self.invariant (c.self.view_is ∙ none))
