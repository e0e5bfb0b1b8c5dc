use Rattle.toggle_sums.proofs.Common.{◌∙◌, ap, rules, sym, bytes_eq-Decides, take, EndBy, ToggleSets, slots_of, subst}
use Rattle.toggle_sums.proofs.UsedLaws.{ends-parity, ends-presence, same-used_words, same_used, used-le}
use Rattle.toggle_sums.proofs.WordSteps.{same_words}
use Rattle.toggle_sums.proofs.toggle_words.ToggleWords.is_level.Goals as goal

pub shared_whole_as_front-eq : goal.shared_whole_as_front-eq
shared_whole_as_front-eq g c = (used-le g.row.K _ _ _ c.self.invariant, search rules)

pub returns-then-eq-clause-yes : goal.returns-then-eq-clause-yes
returns-then-eq-clause-yes g c = λ yes.
    let now = c.self.inside in
    let other = c.others.inside in
    let used = c.self.inside.used in
    let same = c.if-used-others.false in
    let odd = same-used_words g.row.K used now.parity other.parity c.self.invariant.parity.long
    c.others.invariant.parity.long (ends-parity g.row.K _ _ _ c.self.invariant)
    (subst (λ n. EndBy n other.parity) (sym same) (ends-parity g.row.K _ _ _ c.others.invariant))
    ((bytes_eq-Decides (take used now.parity) (take used other.parity)).0 (sym c.eq.ensures ∙ c.if-eq.true)) in
    let any = same-used_words g.row.K used now.presence other.presence c.self.invariant.presence.long
    c.others.invariant.presence.long (ends-presence g.row.K _ _ _ c.self.invariant)
    (subst (λ n. EndBy n other.presence) (sym same) (ends-presence g.row.K _ _ _ c.others.invariant))
    ((bytes_eq-Decides (take used now.presence) (take used other.presence)).0 (sym c.eq-then-eq.ensures ∙ yes)) in
    rw (← c.self.view_is, ← c.others.view_is)
    (λ i. record { parity = ap (slots_of g.row.K) odd i; presence = ap (slots_of g.row.K) any i })

pub returns-then-eq-clause-no : goal.returns-then-eq-clause-no
returns-then-eq-clause-no g c = λ same.
    let now = c.self.inside in
    let other = c.others.inside in
    let seen = λ (count : ToggleSets). count.presence in
    c.eq-then-eq.ensures ∙ (bytes_eq-Decides (take now.used now.presence) (take now.used other.presence)).1
    (ap (take now.used) (same_words g.row.K now.presence other.presence c.self.invariant.presence
    c.others.invariant.presence (ap seen c.self.view_is ∙ ap seen same ∙ ap seen (sym c.others.view_is))))

pub returns-else-eq-clause-no : goal.returns-else-eq-clause-no
returns-else-eq-clause-no g c = λ same.
    let now = c.self.inside in
    let other = c.others.inside in
    let seen = λ (count : ToggleSets). count.parity in
    c.eq.ensures ∙ (bytes_eq-Decides (take now.used now.parity) (take now.used other.parity)).1
    (ap (take now.used) (same_words g.row.K now.parity other.parity c.self.invariant.parity
    c.others.invariant.parity (ap seen c.self.view_is ∙ ap seen same ∙ ap seen (sym c.others.view_is))))

pub returns-then-used-others-clause-no : goal.returns-then-used-others-clause-no
returns-then-used-others-clause-no g c = λ same.
    let odd = λ (count : ToggleSets). count.parity in
    let any = λ (count : ToggleSets). count.presence in
    absurd (c.if-used-others.true (same_used g.row.K _ _ _ _ _ _ c.self.invariant c.others.invariant
    (ap odd c.self.view_is ∙ ap odd same ∙ ap odd (sym c.others.view_is))
    (ap any c.self.view_is ∙ ap any same ∙ ap any (sym c.others.view_is))))
