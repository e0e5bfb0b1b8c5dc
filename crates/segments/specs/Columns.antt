-- A line of text as contracts see it: its columns, each a character with the slots that are toggled before it, and its
-- marks by their numbers, whose places are columns.
use Rattle.std.specs.Prelude.{ℕ, ◌+◌, ◌-◌, Bool, false, not, nat_lt, nat_le, Option, None, Some, List, [], ◌∷◌, ◌++◌}
use Rattle.std.specs.Prelude.{map, length, take, drop, slice_range, option_map, if◌then◌else◌}
use Rattle.std.specs.List.{filter, position, suffix_len}
use Rattle.std.specs.FinMap as finite
use Rattle.std.specs.FinSet as set
use Rattle.text_model.specs.declared.places.Place.{Place}
use Rattle.text_model.specs.Content.{Marks, Slots, map_marks}
use Rattle.text_model.specs.SlotSets.{differing}
use Rattle.text_model.specs.Splices.{changed, inserted, moved, drawn}
use Rattle.text_model.specs.Steps.{set_slot}
use Rattle.toggle_sums.specs.Counts.{Count}
use Rattle.toggle_sums.specs.Toggles.{parity, presence}

pub record Column : Type 0 where
  pub character : ℕ
  pub toggled : Slots

pub record LineContent : Type 0 where
  pub columns : List Column
  pub marks : Marks

abbrev pub characters : List Column → List ℕ
characters columns = map (λ (column : Column). column.character) columns

-- the slots that are toggled before each character
abbrev pub toggles : List Column → List Slots
toggles columns = map (λ (column : Column). column.toggled) columns

-- characters before which nothing is toggled
abbrev pub plain_columns : List ℕ → List Column
plain_columns text = map (λ character. record { character = character; toggled = set.empty }) text

abbrev pub plain_line : List ℕ → LineContent
plain_line text = record { columns = plain_columns text; marks = finite.empty }

-- each slot of a set is toggled before a column
abbrev pub toggled_more : Slots → Column → Column
toggled_more slots column = record column { toggled = differing slots column.toggled }

-- the columns with slots toggled before the first of them; where there is none they stand nowhere
abbrev pub toggled_first : Slots → List Column → List Column
toggled_first slots [] = []
toggled_first slots (column ∷ columns) = toggled_more slots column ∷ columns

-- the columns without those from one to another: what was toggled an odd number of times in these is toggled behind
-- them
abbrev pub without_columns : ℕ → ℕ → List Column → List Column
without_columns from to columns =
    take from columns ++ toggled_first (parity (toggles (slice_range columns from to))) (drop to columns)

-- a slot is toggled before a column, or it isn't
abbrev pub with_toggle : ℕ → Bool → Column → Column
with_toggle slot on column = record column { toggled = set_slot slot on column.toggled }

-- a slot is toggled before a column, if it is to be
abbrev pub toggled_if : Bool → ℕ → ℕ → List Column → List Column
toggled_if is_toggled slot at columns =
    if is_toggled then changed (toggled_more (set.insert set.empty slot)) at (at + 1) columns else columns

-- no toggle of a slot is left from one column to another, and before each of the two it is toggled, if it is to be
abbrev pub reset : ℕ → ℕ → ℕ → Bool → Bool → List Column → List Column
reset slot from to first last columns =
    toggled_if last slot to (toggled_if first slot from (changed (with_toggle slot false) from to columns))

-- the slots that are toggled an odd number of times before the character at a column
abbrev pub tags_before : ℕ → List Column → Slots
tags_before at columns = parity (toggles (take (at + 1) columns))

-- the first column from one on before which a slot is toggled, if any
abbrev pub next_toggle : ℕ → ℕ → List Column → Option ℕ
next_toggle slot at columns =
    option_map (λ n. at + n) (position (λ (column : Column). set.contains column.toggled slot) (drop at columns))

-- how many columns from the last back have no toggle of a slot
abbrev pub free_behind : ℕ → List Column → ℕ
free_behind slot columns = suffix_len (λ (column : Column). not (set.contains column.toggled slot)) columns

-- the last column below one before which a slot is toggled, if any
abbrev pub previous_toggle : ℕ → ℕ → List Column → Option ℕ
previous_toggle slot at columns =
    let free = free_behind slot (take at columns) in
    if nat_lt free at then Some (at - free - 1) else None

-- the marks whose places pass a test
abbrev pub marks_where : (Place → Bool) → Marks → Marks
marks_where test marks = finite.from_entries (filter (λ (entry : ℕ × Place). test entry.1) (finite.entries marks))

-- a place so many columns on, and so many back
abbrev pub later : ℕ → Place → Place
later count place = record place { offset = place.offset + count }

abbrev pub earlier : ℕ → Place → Place
earlier count place = record place { offset = place.offset - count }

-- the marks of two texts, of which the first has so many characters; a number that stands in both is that of the second
abbrev pub joined_marks : ℕ → Marks → Marks → Marks
joined_marks len first second =
    finite.from_entries (finite.entries (map_marks (later len) second) ++ finite.entries first)

-- the line before a column, and the line from it on, to which the marks at it go
abbrev pub line_before : ℕ → LineContent → LineContent
line_before at line = record {
  columns = take at line.columns;
  marks = marks_where (λ place. nat_lt place.offset at) line.marks;
}

abbrev pub line_behind : ℕ → LineContent → LineContent
line_behind at line = record {
  columns = drop at line.columns;
  marks = map_marks (earlier at) (marks_where (λ place. nat_le at place.offset) line.marks);
}

abbrev pub joined : LineContent → LineContent → LineContent
joined first second = record {
  columns = first.columns ++ second.columns;
  marks = joined_marks (length first.columns) first.marks second.marks;
}

-- a text without toggles is put in before a column
abbrev pub after_text : ℕ → List ℕ → LineContent → LineContent
after_text at text line = record {
  columns = inserted at (plain_columns text) line.columns;
  marks = map_marks (moved at (length text)) line.marks;
}

-- the columns from one to another are taken out
abbrev pub after_removal : ℕ → ℕ → LineContent → LineContent
after_removal from to line = record {
  columns = without_columns from to line.columns;
  marks = map_marks (drawn from to) line.marks;
}

-- what is counted of a line
abbrev pub line_count : LineContent → Count
line_count line = record {
  lines = 1;
  characters = length line.columns;
  marks = finite.len line.marks;
  parity = parity (toggles line.columns);
  presence = presence (toggles line.columns);
}
