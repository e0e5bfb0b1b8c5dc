-- The toggles of a line by their columns and words, which rise.
use Rattle.std.specs.Prelude.{ℕ, suc, ◌+◌, ◌-◌, ◌*◌, ◌<◌, ◌≤◌, ◌^◌, ◌==◌, ◌&&◌, nat_lt, nat_le, Bool, Option, None}
use Rattle.std.specs.Prelude.{Some, List, [], ◌∷◌, ⊤, if◌then◌else◌}
use Rattle.std.specs.List.{filter}
use Rattle.std.specs.FinSet as set
use Rattle.text_model.specs.Content.{Slots}
use Rattle.text_model.specs.OneWord.{IsOneWord, word_index}
use Rattle.text_model.specs.SlotSets.{differing}
use Rattle.text_model.specs.declared.tag_set.TheConstants.{WORDS}
use Rattle.segments.specs.declared.toggles.Toggled.{Toggled}

-- the slots that are toggled at a column
abbrev pub toggled_at : List Toggled → ℕ → Slots
toggled_at [] at = set.empty
toggled_at (entry ∷ entries) at =
    if entry.column == at then differing entry.slots (toggled_at entries at) else toggled_at entries at

-- the place of an entry, by its column and the word of its slots
abbrev pub place_of : Toggled → ℕ
place_of entry = WORDS * entry.column + word_index entry.slots

abbrev pub HasOneWord : Toggled → Type 0
HasOneWord entry = IsOneWord entry.slots

-- the places rise, from one on, and lie below another
abbrev pub RiseIn : ℕ → ℕ → List Toggled → Type 0
RiseIn from to [] = ⊤
RiseIn from to (entry ∷ entries) =
    (from ≤ place_of entry) × (place_of entry < to) × HasOneWord entry × RiseIn (suc (place_of entry)) to entries

-- the columns rise, from one on, and lie below another, and so do the words of each column
abbrev pub LieIn : ℕ → ℕ → List Toggled → Type 0
LieIn from to entries = RiseIn (WORDS * from) (WORDS * to) entries

-- the slots that are toggled an odd number of times, and those that are toggled at all
abbrev pub odd_of : List Toggled → Slots
odd_of [] = set.empty
odd_of (entry ∷ entries) = differing entry.slots (odd_of entries)

abbrev pub any_of : List Toggled → Slots
any_of [] = set.empty
any_of (entry ∷ entries) = set.union entry.slots (any_of entries)

-- so many columns on, and so many back
abbrev pub CanMoveOn : ℕ → Toggled → Type 0
CanMoveOn count entry = entry.column + count < 2 ^ 64

abbrev pub moved_on : ℕ → Toggled → Toggled
moved_on count entry = record entry { column = entry.column + count }

abbrev pub CanMoveBack : ℕ → Toggled → Type 0
CanMoveBack count entry = count ≤ entry.column

abbrev pub moved_back : ℕ → Toggled → Toggled
moved_back count entry = record entry { column = entry.column - count }

-- what is toggled at a column, once a set is toggled at one of them
abbrev pub flipped : ℕ → Slots → ℕ → Slots → Slots
flipped column slots at old = if at == column then differing slots old else old

-- the same, if it is to be toggled
abbrev pub flipped_if : Bool → ℕ → Slots → ℕ → Slots → Slots
flipped_if is_flipped column slots at old = if is_flipped then flipped column slots at old else old

-- the toggles of the columns from one to another
abbrev pub entries_in : ℕ → ℕ → List Toggled → List Toggled
entries_in from to entries = filter (λ (entry : Toggled). nat_le from entry.column && nat_lt entry.column to) entries

-- what is toggled at a column, once the columns from one to another lose their toggles to the second
abbrev pub without_span : ℕ → ℕ → ℕ → List Toggled → Slots
without_span from to at entries =
    if at == to then differing (odd_of (entries_in from to entries)) (toggled_at entries at)
    else (if nat_le from at && nat_lt at to then set.empty else toggled_at entries at)

-- what is toggled at a column, once a slot is toggled nowhere from one column to another
abbrev pub slots_cleared : ℕ → ℕ → ℕ → ℕ → Slots → Slots
slots_cleared slot from to at old = if nat_le from at && nat_lt at to then set.remove old slot else old

-- the first column from one on at which a slot is toggled, and the last below one, if any
abbrev pub next_entry : ℕ → ℕ → List Toggled → Option ℕ
next_entry slot column [] = None
next_entry slot column (entry ∷ entries) =
    if nat_le column entry.column && set.contains entry.slots slot then Some entry.column
    else next_entry slot column entries

abbrev pub later_of : Option ℕ → Option ℕ → Option ℕ
later_of first None = first
later_of first (Some second) = Some second

abbrev pub previous_entry : ℕ → ℕ → List Toggled → Option ℕ
previous_entry slot column [] = None
previous_entry slot column (entry ∷ entries) =
    later_of (if nat_lt entry.column column && set.contains entry.slots slot then Some entry.column else None)
    (previous_entry slot column entries)
