-- The next place at which tags begin or end, with rows of the table of tags.
use Rattle.std.specs.Prelude.{◌≡◌, ℕ, ◌<◌, ◌≤◌, ◌⊎◌, ◌==◌, List, length, slice_index_or, if◌then◌else◌}
use Rattle.std.specs.FinSet as set
use Rattle.text_model.specs.Changes.{flag_at}
use Rattle.text_model.specs.Content.{Slots}
use Rattle.text_index.specs.Views.{shown_flags}
use Rattle.search_dump.specs.Ahead.{slot_at, slot_of_row, IsKnown, IsNearest}
use Rattle.search_dump.specs.Dump.{Outlook, flag_before}
use Rattle.search_dump.specs.declared.turns.Rows.{Rows}
use Rattle.search_dump.specs.declared.turns.Turn.{Turn}

-- the rows of a turn at a place, if it stands there, and else none
abbrev pub rows_at : Turn → ℕ → Rows
rows_at turn place = if turn.place == place then turn.rows else (record { first = 0; end = 0 })

-- a row of the table is none of some rows
abbrev pub IsApart : Rows → ℕ → Type 0
IsApart rows at = (at < rows.first) ⊎ (rows.end ≤ at)

-- what is kept of each row besides some stands behind a place
abbrev pub AreBehind : Rows → List ℕ → ℕ → ℕ → Type 0
AreBehind rows next count place = (at : ℕ) → at < count → IsApart rows at → place < slice_index_or next at 0

-- the next change of each tag behind a place is known, and a turn is the first of them, if it stands before another
-- place: with all rows whose tags change there
pub record IsTurnBehind (outlook : Outlook) (place to : ℕ) (next : List ℕ) (turn : Turn) : Type 0 where
  pub rows : length next ≡ length outlook.tags
  pub known : (at : ℕ) → at < length outlook.tags → IsKnown outlook place next at
  pub nearest : IsNearest next (length outlook.tags) to turn.place
  pub apart : AreBehind turn.rows next (length outlook.tags) turn.place

-- no tag besides those of some rows begins or ends at a place
abbrev pub AreQuiet : Outlook → Rows → ℕ → Type 0
AreQuiet outlook rows place = (at : ℕ) → at < length outlook.tags → IsApart rows at
    → flag_before (shown_flags (slot_at outlook at) outlook.part) place
    ≡ flag_at (shown_flags (slot_at outlook at) outlook.part) place

-- two sets have the same slots but for those of some rows
abbrev pub AreAlike : ℕ → List ℕ → ℕ → Rows → Slots → Slots → Type 0
AreAlike widget slots count rows first second =
    (at : ℕ) → at < count → IsApart rows at
    → set.contains first (slot_of_row widget slots at) ≡ set.contains second (slot_of_row widget slots at)
