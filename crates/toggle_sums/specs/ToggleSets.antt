-- Which slots are toggled in some lines of text, and how that joins.
use Rattle.std.specs.Prelude.{◌≡◌, ℕ, refl}
use Rattle.std.specs.Coded.{Coded, code_by, coded×, coded_ℕ}
use Rattle.std.specs.FinSet as set
use Rattle.text_model.specs.Content.{Slots}
use Rattle.text_model.specs.SlotSets.{differing}

-- the slots that are toggled an odd number of times, and those that are toggled at all
pub record ToggleSets : Type 0 where
  pub parity : Slots
  pub presence : Slots

-- the two are stored as a pair
abbrev pub sets_code : Coded ToggleSets
sets_code =
    code_by (Slots × Slots) (coded× (set.code coded_ℕ) (set.code coded_ℕ)) (λ t. (t.parity, t.presence))
    (λ p. record { parity = p.0; presence = p.1 }) (λ _. refl)

abbrev pub no_toggles : ToggleSets
no_toggles = record { parity = set.empty; presence = set.empty }

-- no slot is toggled
pub record AreBare (sets : ToggleSets) : Type 0 where
  pub parity : sets.parity ≡ set.empty
  pub presence : sets.presence ≡ set.empty

-- the toggles of both
abbrev pub joined : ToggleSets → ToggleSets → ToggleSets
joined first second = record {
  parity = differing first.parity second.parity;
  presence = set.union first.presence second.presence;
}

-- without the toggles of others, where the slots that are toggled at all stay
abbrev pub turned : ToggleSets → ToggleSets → ToggleSets
turned sets others = record sets { parity = differing sets.parity others.parity }

-- one toggle of a slot more
abbrev pub with_slot : ToggleSets → ℕ → ToggleSets
with_slot sets slot = record {
  parity = differing sets.parity (set.insert set.empty slot);
  presence = set.insert sets.presence slot;
}

-- one toggle more of each slot of a set
abbrev pub with_slots : ToggleSets → Slots → ToggleSets
with_slots sets slots = record {
  parity = differing sets.parity slots;
  presence = set.union sets.presence slots;
}
