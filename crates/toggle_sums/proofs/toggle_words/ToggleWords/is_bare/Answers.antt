use Rattle.toggle_sums.proofs.Common.{◌∙◌, ap, sym, arith, nat_tests, ToggleSets}
use Rattle.toggle_sums.proofs.UsedLaws.{none_toggled, none_used}
use Rattle.toggle_sums.proofs.toggle_words.ToggleWords.is_bare.Goals as goal

pub returns-clause-yes : goal.returns-clause-yes
returns-clause-yes g c = λ yes.
    let now = c.self.inside in
    let none = none_toggled g.row.K now.used now.parity now.presence c.self.invariant (grind (arith, nat_tests, yes)) in
    record {
      parity = ap (λ (count : ToggleSets). count.parity) (sym c.self.view_is) ∙ none.0;
      presence = ap (λ (count : ToggleSets). count.presence) (sym c.self.view_is) ∙ none.1;
    }

pub returns-clause-no : goal.returns-clause-no
returns-clause-no g c = λ bare.
    let now = c.self.inside in
    let none = none_used g.row.K now.used now.parity now.presence c.self.invariant
    (ap (λ (count : ToggleSets). count.parity) c.self.view_is ∙ bare.parity)
    (ap (λ (count : ToggleSets). count.presence) c.self.view_is ∙ bare.presence) in
    grind (arith, nat_tests, none)
