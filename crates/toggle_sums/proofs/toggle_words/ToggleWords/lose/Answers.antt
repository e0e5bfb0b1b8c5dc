use Rattle.toggle_sums.proofs.Common.{rules, ap, bit_xor, refl, sym, ◌∙◌, differing, differing-empty, ToggleSets}
use Rattle.toggle_sums.proofs.Common.{slots_of}
use Rattle.toggle_sums.proofs.UsedLaws.{EndBy-both, EndBy-max, ends-parity, ends-presence, max-le, none_toggled}
use Rattle.toggle_sums.proofs.UsedLaws.{used-le}
use Rattle.toggle_sums.proofs.WordSteps.{AreWords-differing, slots_of-differing}
use Rattle.toggle_sums.proofs.toggle_words.ToggleWords.lose.Goals as goal

pub turn_words-requires : goal.turn_words-requires
turn_words-requires g c =
    (search rules, (used-le g.row.K _ _ _ c.gone.invariant, ends-parity g.row.K _ _ _ c.gone.invariant))

pub used_words-self-inside-requires : goal.used_words-self-inside-requires
used_words-self-inside-requires g c =
    let now = c.self.inside in
    let gone = c.gone.inside in
    rw c.max.ensures (
      search rules,
      (
        max-le _ _ _ (used-le g.row.K _ _ _ c.self.invariant) (used-le g.row.K _ _ _ c.gone.invariant),
        (
          EndBy-both bit_xor refl g.row.K now.used gone.used now.parity gone.parity _ c.turn_words.ensures.long
              (ends-parity g.row.K _ _ _ c.self.invariant) (ends-parity g.row.K _ _ _ c.gone.invariant)
              c.turn_words.ensures.words,
          EndBy-max now.used gone.used now.presence (ends-presence g.row.K _ _ _ c.self.invariant),
        ),
      ),
    )

pub invariant_of-self : goal.invariant_of-self
invariant_of-self g c =
    let now = c.self.inside in
    let gone = c.gone.inside in
    record {
      parity = AreWords-differing g.row.K now.parity gone.parity _ c.self.invariant.parity c.gone.invariant.parity.each
          c.turn_words.ensures.long c.turn_words.ensures.words;
      presence = c.self.invariant.presence;
      used = c.used_words-self-inside.ensures;
    }

pub returns : goal.returns
returns g c =
    let now = c.self.inside in
    let gone = c.gone.inside in
    rw (← c.self.view_is, ← c.gone.view_is) (λ i. record {
      parity = slots_of-differing g.row.K now.parity gone.parity _ c.turn_words.ensures.words i;
      presence = slots_of g.row.K now.presence;
    })

pub returns-then-gone-eq0 : goal.returns-then-gone-eq0
returns-then-gone-eq0 g c =
    let now = c.args.self.now in
    let none = none_toggled g.row.K _ _ _ c.gone.invariant c.if-gone-eq0.true in
    let odd = ap (λ (t : ToggleSets). t.parity) (sym c.gone.view_is) ∙ none.0 in
    λ i. record now { parity = sym (ap (differing now.parity) odd ∙ differing-empty now.parity) i }
