-- Where the tags of a view change behind a place.
use Rattle.std.specs.Prelude.{◌≡◌, ℕ, ◌<◌, ◌≤◌, ◌⊎◌, ◌==◌, Bool, not, List, length, slice_index_or, if◌then◌else◌}
use Rattle.std.specs.FinSet as set
use Rattle.tag_table.specs.Tags.{slots_of}
use Rattle.text_model.specs.Changes.{flag_at, next_change}
use Rattle.text_model.specs.Content.{Slots}
use Rattle.text_model.specs.Steps.{set_slot}
use Rattle.text_index.specs.Views.{Part, shown_flags}
use Rattle.search_dump.specs.Dump.{Outlook, flag_before, own_slot}

-- the slot of the tag at a place of the table
abbrev pub slot_of_row : ℕ → List ℕ → ℕ → ℕ
slot_of_row widget slots at = own_slot widget (slice_index_or slots at 0)

-- where a slot changes next behind a place
abbrev pub change_after : Part → ℕ → ℕ → ℕ
change_after part place slot = next_change (shown_flags slot part) place

-- the slot of the tag at a row of the table of the widget
abbrev pub slot_at : Outlook → ℕ → ℕ
slot_at outlook at = slot_of_row outlook.widget (slots_of outlook.tags) at

-- the next change that is kept for a row of the table is that of its slot behind a place
abbrev pub IsKnown : Outlook → ℕ → List ℕ → ℕ → Type 0
IsKnown outlook place next at = slice_index_or next at 0 ≡ change_after outlook.part place (slot_at outlook at)

-- what is kept of each row stands at the place or before it, or is the next change behind it
pub record AreAhead (outlook : Outlook) (place : ℕ) (next : List ℕ) : Type 0 where
  pub rows : length next ≡ length outlook.tags
  pub each : (at : ℕ) → at < length outlook.tags → place < slice_index_or next at 0 → IsKnown outlook place next at

-- the first of the changes that are kept for some rows, or a place before all of them
pub record IsNearest (next : List ℕ) (rows place nearest : ℕ) : Type 0 where
  pub within : nearest ≤ place
  pub each : (at : ℕ) → at < rows → nearest ≤ slice_index_or next at 0
  pub reached : (nearest ≡ place) ⊎ ((at : ℕ) × (at < rows) × (slice_index_or next at 0 ≡ nearest))

-- a set of slots tells of each tag of the table whether it is on the character before a place
abbrev pub AreBefore : Outlook → ℕ → Slots → Type 0
AreBefore outlook place slots = (at : ℕ) → at < length outlook.tags
    → set.contains slots (slot_at outlook at) ≡ flag_before (shown_flags (slot_at outlook at) outlook.part) place

-- the same of the character at a place
abbrev pub AreAt : Outlook → ℕ → Slots → Type 0
AreAt outlook place slots = (at : ℕ) → at < length outlook.tags
    → set.contains slots (slot_at outlook at) ≡ flag_at (shown_flags (slot_at outlook at) outlook.part) place

-- the next change of each row behind a place is known, and none of them stands before a stop
pub record AreKnownTo (outlook : Outlook) (place stop : ℕ) (next : List ℕ) : Type 0 where
  pub rows : length next ≡ length outlook.tags
  pub each : (at : ℕ) → at < length outlook.tags
      → IsKnown outlook place next at × (stop ≤ slice_index_or next at 0)

-- what is kept of each row is what a function tells of its slot
abbrev pub AreKept : (ℕ → ℕ) → ℕ → List ℕ → ℕ → List ℕ → Type 0
AreKept change widget slots rows next =
    (at : ℕ) → at < rows → slice_index_or next at 0 ≡ change (slot_of_row widget slots at)

-- a set is another one in which a slot is turned from how it is in a third
abbrev pub IsTurned : ℕ → Slots → Slots → Slots → Type 0
IsTurned slot tags old new = new ≡ set_slot slot (not (set.contains tags slot)) old

-- whether a slot is in a set once the slots that change at a place are turned
abbrev pub turned_at : (ℕ → ℕ) → ℕ → Slots → ℕ → Bool
turned_at change place slots slot =
    if change slot == place then not (set.contains slots slot) else set.contains slots slot

-- a set is another one in which the slots of some rows that change at a place are turned
abbrev pub AreTurned : (ℕ → ℕ) → ℕ → List ℕ → ℕ → ℕ → Slots → Slots → Type 0
AreTurned change widget slots rows place old new =
    (at : ℕ) → at < rows → set.contains new (slot_of_row widget slots at)
    ≡ turned_at change place old (slot_of_row widget slots at)
