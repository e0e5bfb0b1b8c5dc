use Rattle.toggle_sums.proofs.Common.{rules, ◌/◌, arith}
use Rattle.toggle_sums.proofs.UsedLaws.{EndBy-set, ends-parity, ends-presence, max-le, used-le}
use Rattle.toggle_sums.proofs.WordSteps.{AreWords-or, AreWords-xor, slots_of-or, slots_of-xor}
use Rattle.toggle_sums.proofs.toggle_words.ToggleWords.toggle.Goals as goal

pub used_words-self-inside-requires : goal.used_words-self-inside-requires
used_words-self-inside-requires g c =
    let now = c.self.inside in
    let word = c.args.slot.0 / 64 in
    rw c.max.ensures (
      search rules,
      (
        max-le _ _ _ (used-le g.row.K _ _ _ c.self.invariant) (omega (arith, c.requires)),
        (
          EndBy-set now.used word _ now.parity (ends-parity g.row.K _ _ _ c.self.invariant),
          EndBy-set now.used word _ now.presence (ends-presence g.row.K _ _ _ c.self.invariant),
        ),
      ),
    )

pub invariant_of-self : goal.invariant_of-self
invariant_of-self g c =
    let now = c.self.inside in
    let slot = c.args.slot.0 in
    record {
      parity = AreWords-xor g.row.K now.parity slot c.self.invariant.parity c.requires;
      presence = AreWords-or g.row.K now.presence slot c.self.invariant.presence c.requires;
      used = c.used_words-self-inside.ensures;
    }

pub returns : goal.returns
returns g c =
    let now = c.self.inside in
    let slot = c.args.slot.0 in
    rw (← c.self.view_is) (λ i. record {
      parity = slots_of-xor g.row.K now.parity slot c.self.invariant.parity c.requires i;
      presence = slots_of-or g.row.K now.presence slot c.self.invariant.presence c.requires i;
    })
