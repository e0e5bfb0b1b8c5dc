-- What the steps of an edit make of the columns of a text. Each is made of a few: a text without toggles goes in,
-- columns go out, a slot's toggles are cleared, and a set of slots is toggled before a column.
use Rattle.std.specs.Prelude.{ℕ, ◌+◌, Bool, false, List, ◌++◌, length, take, drop}
use Rattle.text_model.specs.Content.{Slots}
use Rattle.text_model.specs.SlotSets.{differing}
use Rattle.text_model.specs.Splices.{changed, inserted}
use Rattle.text_model.specs.Steps.{set_slot}
use Rattle.toggle_sums.specs.Toggles.{parity}
use Rattle.segments.specs.Columns.{Column, plain_columns, tags_before, toggled_first, toggles, with_toggle}

-- the slots that are on behind columns
abbrev pub tags_left_of : List Column → Slots
tags_left_of columns = parity (toggles columns)

-- a set of slots is toggled before a column; behind the last one it stands nowhere
abbrev pub toggled_before : ℕ → Slots → List Column → List Column
toggled_before at slots columns = take at columns ++ toggled_first slots (drop at columns)

-- no toggle of a slot is left in the columns from one to another
abbrev pub cleared : ℕ → ℕ → ℕ → List Column → List Column
cleared slot from to columns = changed (with_toggle slot false) from to columns

-- the slots that change where the slots behind so many columns are to become others
abbrev pub switched : (Slots → Slots) → ℕ → List Column → Slots
switched f at columns = let before = tags_left_of (take at columns) in differing before (f before)

-- a text with slots is put in: the slots that differ from those before it are toggled at its two ends
abbrev pub columns_inserted : ℕ → List ℕ → Slots → List Column → List Column
columns_inserted at text slots columns =
    let differ = switched (λ _. slots) at columns in
    toggled_before at differ (toggled_before (at + length text) differ (inserted at (plain_columns text) columns))

-- a slot is put on the columns from one to another, or taken off: no toggle of it is left there, and it is toggled
-- at the two ends where it isn't so before them
abbrev pub columns_tagged : ℕ → ℕ → ℕ → Bool → List Column → List Column
columns_tagged from to slot on columns =
    toggled_before from (switched (set_slot slot on) from columns)
    (toggled_before to (switched (set_slot slot on) to columns) (cleared slot from to columns))

-- the slots of a column are taken off: they are toggled at its two ends
abbrev pub columns_bare : ℕ → List Column → List Column
columns_bare at columns =
    let here = tags_before at columns in toggled_before at here (toggled_before (at + 1) here columns)
