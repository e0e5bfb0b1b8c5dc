-- What is counted of some lines of text, and how it adds up.
use Rattle.std.specs.Prelude.{◌≡◌, ℕ, ◌+◌, ◌-◌, ◌<◌, ◌≤◌, ◌^◌, refl, Bool, true}
use Rattle.std.specs.Coded.{Coded, code_by, coded×, coded_ℕ}
use Rattle.std.specs.FinSet as set
use Rattle.text_model.specs.Content.{Slots}
use Rattle.text_model.specs.SlotSets.{differing}
use Rattle.toggle_sums.specs.ToggleSets.{ToggleSets}

-- how many lines, characters and marks there are, the slots that are toggled an odd number of times, and those that
-- are toggled at all
pub record Count : Type 0 where
  pub lines : ℕ
  pub characters : ℕ
  pub marks : ℕ
  pub parity : Slots
  pub presence : Slots

-- a count is stored as its fields
abbrev pub count_code : Coded Count
count_code =
    code_by (ℕ × (ℕ × (ℕ × (Slots × Slots))))
    (coded× coded_ℕ (coded× coded_ℕ (coded× coded_ℕ (coded× (set.code coded_ℕ) (set.code coded_ℕ)))))
    (λ c. (c.lines, (c.characters, (c.marks, (c.parity, c.presence)))))
    (λ p. record { lines = p.0; characters = p.1.0; marks = p.1.1.0; parity = p.1.1.1.0; presence = p.1.1.1.1 })
    (λ _. refl)

-- so many lines, characters and marks, and no toggles
abbrev pub counting : ℕ → ℕ → ℕ → Count
counting lines characters marks =
    record { lines = lines; characters = characters; marks = marks; parity = set.empty; presence = set.empty }

-- so many lines, characters and marks, and these toggles
abbrev pub count_of : ℕ → ℕ → ℕ → ToggleSets → Count
count_of lines characters marks toggles = record {
  lines = lines;
  characters = characters;
  marks = marks;
  parity = toggles.parity;
  presence = toggles.presence;
}

-- the toggles of a count
abbrev pub toggles_of : Count → ToggleSets
toggles_of count = record { parity = count.parity; presence = count.presence }

abbrev pub no_text : Count
no_text = counting 0 0 0

-- numbers are added, parity is joined by exclusive or, and presence by or
abbrev pub plus : Count → Count → Count
plus first second = record {
  lines = first.lines + second.lines;
  characters = first.characters + second.characters;
  marks = first.marks + second.marks;
  parity = differing first.parity second.parity;
  presence = set.union first.presence second.presence;
}

-- the numbers of both together fit
pub record CountsFit (first second : Count) : Type 0 where
  pub lines : first.lines + second.lines < 2 ^ 64
  pub characters : first.characters + second.characters < 2 ^ 64
  pub marks : first.marks + second.marks < 2 ^ 64

-- no slot is toggled
pub record IsBare (count : Count) : Type 0 where
  pub parity : count.parity ≡ set.empty
  pub presence : count.presence ≡ set.empty

-- two sets, slot by slot
abbrev pub AreSame : Slots → Slots → Type 0
AreSame s t = (q : ℕ) → set.contains s q ≡ set.contains t q

-- each slot of one is in the other too
abbrev pub ArePart : Slots → Slots → Type 0
ArePart s t = (q : ℕ) → set.contains s q ≡ true → set.contains t q ≡ true

-- the same slots are toggled an odd number of times, and the same at all
abbrev pub AreLevel : Count → Count → Type 0
AreLevel first second = AreSame first.parity second.parity × AreSame first.presence second.presence

-- each slot that is toggled in one is toggled in the other too
abbrev pub IsWithin : Count → Count → Type 0
IsWithin part whole = set.union whole.presence part.presence ≡ whole.presence

-- the same slots are toggled an odd number of times, and the same at all
pub record HaveSameToggles (first second : Count) : Type 0 where
  pub parity : first.parity ≡ second.parity
  pub presence : first.presence ≡ second.presence

-- there are no more lines, characters and marks than in a whole
pub record HasCounts (part whole : Count) : Type 0 where
  pub lines : part.lines ≤ whole.lines
  pub characters : part.characters ≤ whole.characters
  pub marks : part.marks ≤ whole.marks

-- so many lines, characters and marks less
abbrev pub less : ℕ → ℕ → ℕ → Count → Count
less lines characters marks count = record count {
  lines = count.lines - lines;
  characters = count.characters - characters;
  marks = count.marks - marks;
}

-- so much less, where the slots that are toggled at all stay
abbrev pub without : Count → Count → Count
without gone count = record count {
  lines = count.lines - gone.lines;
  characters = count.characters - gone.characters;
  marks = count.marks - gone.marks;
  parity = differing count.parity gone.parity;
}

-- of a sum so much can go where so much more comes; where it is level, what comes is toggled in the sum already
pub record CanExchange (gone more : Count) (is_level : Bool) (old : Count) : Type 0 where
  pub fits : CountsFit old more
  pub counts : HasCounts gone (plus old more)
  pub level : is_level ≡ true → IsWithin more old

-- so much more, and so much less
abbrev pub exchanged : Count → Count → Count → Count
exchanged gone more old = without gone (plus old more)

-- one toggle of a slot more
abbrev pub toggled : ℕ → Count → Count
toggled slot count = record count {
  parity = differing count.parity (set.insert set.empty slot);
  presence = set.insert count.presence slot;
}

-- the toggles of more lines, and nothing else of theirs
abbrev pub with_toggles_of : Count → Count → Count
with_toggles_of more count = record count {
  parity = differing count.parity more.parity;
  presence = set.union count.presence more.presence;
}

-- one toggle more of each slot of a set
abbrev pub with_toggles : Slots → Count → Count
with_toggles slots count = record count {
  parity = differing count.parity slots;
  presence = set.union count.presence slots;
}
