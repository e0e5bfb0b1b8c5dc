use Rattle.toggle_sums.proofs.Common.{rules, ap, bit_or, bit_xor, refl, sym, ◌∙◌, differing, differing-empty}
use Rattle.toggle_sums.proofs.Common.{union-empty, ToggleSets}
use Rattle.toggle_sums.proofs.UsedLaws.{EndBy-both, ends-parity, ends-presence, max-le, none_toggled, used-le}
use Rattle.toggle_sums.proofs.WordSteps.{AreWords-differing, AreWords-joined, slots_of-differing, slots_of-joined}
use Rattle.std.specs.FinSet as set
use Rattle.toggle_sums.proofs.toggle_words.ToggleWords.add.Goals as goal

pub turn_words-requires : goal.turn_words-requires
turn_words-requires g c =
    (search rules, (used-le g.row.K _ _ _ c.more.invariant, ends-parity g.row.K _ _ _ c.more.invariant))

pub join_words-requires : goal.join_words-requires
join_words-requires g c =
    (search rules, (used-le g.row.K _ _ _ c.more.invariant, ends-presence g.row.K _ _ _ c.more.invariant))

pub used_words-self-inside-requires : goal.used_words-self-inside-requires
used_words-self-inside-requires g c =
    let now = c.self.inside in
    let more = c.more.inside in
    rw c.max.ensures (
      search rules,
      (
        max-le _ _ _ (used-le g.row.K _ _ _ c.self.invariant) (used-le g.row.K _ _ _ c.more.invariant),
        (
          EndBy-both bit_xor refl g.row.K now.used more.used now.parity more.parity _ c.turn_words.ensures.long
              (ends-parity g.row.K _ _ _ c.self.invariant) (ends-parity g.row.K _ _ _ c.more.invariant)
              c.turn_words.ensures.words,
          EndBy-both bit_or refl g.row.K now.used more.used now.presence more.presence _ c.join_words.ensures.long
              (ends-presence g.row.K _ _ _ c.self.invariant) (ends-presence g.row.K _ _ _ c.more.invariant)
              c.join_words.ensures.words,
        ),
      ),
    )

pub invariant_of-self : goal.invariant_of-self
invariant_of-self g c =
    let now = c.self.inside in
    let more = c.more.inside in
    record {
      parity = AreWords-differing g.row.K now.parity more.parity _ c.self.invariant.parity c.more.invariant.parity.each
          c.turn_words.ensures.long c.turn_words.ensures.words;
      presence = AreWords-joined g.row.K now.presence more.presence _ c.self.invariant.presence
          c.more.invariant.presence.each c.join_words.ensures.long c.join_words.ensures.words;
      used = c.used_words-self-inside.ensures;
    }

pub returns : goal.returns
returns g c =
    let now = c.self.inside in
    let more = c.more.inside in
    rw (← c.self.view_is, ← c.more.view_is) (λ i. record {
      parity = slots_of-differing g.row.K now.parity more.parity _ c.turn_words.ensures.words i;
      presence = slots_of-joined g.row.K now.presence more.presence _ c.join_words.ensures.words i;
    })

pub returns-then-more-eq0 : goal.returns-then-more-eq0
returns-then-more-eq0 g c =
    let now = c.args.self.now in
    let none = none_toggled g.row.K _ _ _ c.more.invariant c.if-more-eq0.true in
    let odd = ap (λ (t : ToggleSets). t.parity) (sym c.more.view_is) ∙ none.0 in
    let any = ap (λ (t : ToggleSets). t.presence) (sym c.more.view_is) ∙ none.1 in
    λ i. record {
      parity = sym (ap (differing now.parity) odd ∙ differing-empty now.parity) i;
      presence = sym (ap (set.union now.presence) any ∙ union-empty now.presence) i;
    }
