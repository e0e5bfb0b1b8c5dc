-- What a text that is one long line becomes. A step of an edit is made of these.
use Rattle.std.specs.Prelude.{ℕ, false, length, map}
use Rattle.std.specs.FinMap as finite
use Rattle.text_model.specs.declared.places.Place.{Place}
use Rattle.text_model.specs.declared.edits.Step.{Step}
use Rattle.text_model.specs.declared.edits.Step.TheVariants.{Remove, Insert, SetTag, ClearTags, ClearSlot, PutMark}
use Rattle.text_model.specs.declared.edits.Step.TheVariants.{TakeMark}
use Rattle.text_model.specs.Content.{Slots, map_marks}
use Rattle.text_model.specs.Splices.{moved}
use Rattle.segments.specs.Columns.{LineContent, after_removal, with_toggle}
use Rattle.line_lists.specs.Toggling.{cleared, columns_bare, columns_inserted, columns_tagged, toggled_before}

-- a set of slots is toggled before a column
abbrev pub with_toggled : ℕ → Slots → LineContent → LineContent
with_toggled at slots line = record line { columns = toggled_before at slots line.columns }

-- a slot is toggled nowhere from one column to another
abbrev pub with_cleared : ℕ → ℕ → ℕ → LineContent → LineContent
with_cleared slot from to line = record line { columns = cleared slot from to line.columns }

-- the mark of a number stands at a place, and nowhere
abbrev pub with_mark : ℕ → Place → LineContent → LineContent
with_mark number place line = record line { marks = finite.insert line.marks number place }

abbrev pub without_mark : ℕ → LineContent → LineContent
without_mark number line = record line { marks = finite.remove line.marks number }

-- a step of an edit
abbrev pub made : Step → LineContent → LineContent
made (Remove from to) line = after_removal from to line
made (Insert at text slots) line = record {
  columns = columns_inserted at text slots line.columns;
  marks = map_marks (moved at (length text)) line.marks;
}
made (SetTag from to slot on) line = record line { columns = columns_tagged from to slot.0 on line.columns }
made (ClearTags at) line = record line { columns = columns_bare at line.columns }
made (ClearSlot slot) line = record line { columns = map (with_toggle slot.0 false) line.columns }
made (PutMark number place) line = with_mark number.0 place line
made (TakeMark number) line = without_mark number.0 line
