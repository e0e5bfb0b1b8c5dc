-- The steps of an edit: when they fit a content, and the content after them.
use Rattle.std.specs.Prelude.{ℕ, ◌+◌, ◌-◌, ◌<◌, ◌≤◌, Bool, false, List, [], ◌∷◌, length, map, ⊤, if◌then◌else◌}
use Rattle.std.specs.Char.{IsScalar}
use Rattle.std.specs.FinSet as set
use Rattle.std.specs.FinMap as finite
use Rattle.std.specs.List.{All}
use Rattle.text_model.specs.declared.cells.Cell.{Cell}
use Rattle.text_model.specs.declared.edits.Step.{Step}
use Rattle.text_model.specs.declared.edits.Step.TheVariants.{Remove, Insert, SetTag, ClearTags, ClearSlot, PutMark}
use Rattle.text_model.specs.declared.edits.Step.TheVariants.{TakeMark}
use Rattle.text_model.specs.Content.{Content, Slots, map_marks}
use Rattle.text_model.specs.Splices.{inserted, removed, changed, moved, drawn}
use Rattle.text_model.specs.TagBits.{slot_count}

-- a cell for each character of a text, with these slots
abbrev pub cells_of : List ℕ → Slots → List Cell
cells_of text slots = map (λ character. record { character = character; tags = slots }) text

-- a set of slots with one of them in it, or out of it
abbrev pub set_slot : ℕ → Bool → Slots → Slots
set_slot slot on slots = if on then set.insert slots slot else set.remove slots slot

abbrev pub with_slot : ℕ → Bool → Cell → Cell
with_slot slot on cell = record cell { tags = set_slot slot on cell.tags }

abbrev pub without_slots : Cell → Cell
without_slots cell = record cell { tags = set.empty }

-- Where a step may be made in a text of so many cells: its places lie in it, nothing is taken out or put in behind
-- the last cell, and its slot is one that a set can hold.
abbrev pub StepFitsIn : Step → ℕ → Type 0
StepFitsIn (Remove from to) len = (from ≤ to) × (to < len)
StepFitsIn (Insert at text slots) len = at < len
StepFitsIn (SetTag from to slot on) len = (from ≤ to) × (to ≤ len) × (slot.0 < slot_count)
StepFitsIn (ClearTags at) len = at < len
StepFitsIn (ClearSlot slot) len = slot.0 < slot_count
StepFitsIn (PutMark number place) len = place.offset ≤ len
StepFitsIn (TakeMark number) len = ⊤

abbrev pub StepFits : Step → Content → Type 0
StepFits step content = StepFitsIn step (length content.cells)

-- the cells from one offset to another are taken out, and each mark goes where the kept cells before it end
abbrev pub after_removal : ℕ → ℕ → Content → Content
after_removal from to content = record {
  cells = removed from to content.cells;
  marks = map_marks (drawn from to) content.marks;
}

-- a text is put in before the cell at an offset, and each mark moves with it
abbrev pub after_insertion : ℕ → List ℕ → Slots → Content → Content
after_insertion at text slots content = record {
  cells = inserted at (cells_of text slots) content.cells;
  marks = map_marks (moved at (length text)) content.marks;
}

abbrev pub after_step : Step → Content → Content
after_step (Remove from to) content = after_removal from to content
after_step (Insert at text slots) content = after_insertion at text slots content
after_step (SetTag from to slot on) content =
    record content { cells = changed (with_slot slot.0 on) from to content.cells }
after_step (ClearTags at) content = record content { cells = changed without_slots at (at + 1) content.cells }
after_step (ClearSlot slot) content = record content { cells = map (with_slot slot.0 false) content.cells }
after_step (PutMark number place) content = record content { marks = finite.insert content.marks number.0 place }
after_step (TakeMark number) content = record content { marks = finite.remove content.marks number.0 }

-- how many cells there are after a step
abbrev pub length_after : Step → ℕ → ℕ
length_after (Remove from to) len = len - (to - from)
length_after (Insert at text slots) len = len + length text
length_after (SetTag from to slot on) len = len
length_after (ClearTags at) len = len
length_after (ClearSlot slot) len = len
length_after (PutMark number place) len = len
length_after (TakeMark number) len = len

-- what a step puts in, if it does, is Unicode scalar values
abbrev pub InsertsScalars : Step → Type 0
InsertsScalars (Remove from to) = ⊤
InsertsScalars (Insert at text slots) = All IsScalar text
InsertsScalars (SetTag from to slot on) = ⊤
InsertsScalars (ClearTags at) = ⊤
InsertsScalars (ClearSlot slot) = ⊤
InsertsScalars (PutMark number place) = ⊤
InsertsScalars (TakeMark number) = ⊤

-- each step fits what the steps before it leave
abbrev pub Fits : List Step → Content → Type 0
Fits [] content = ⊤
Fits (step ∷ steps) content = StepFits step content × Fits steps (after_step step content)

abbrev pub after : List Step → Content → Content
after [] content = content
after (step ∷ steps) content = after steps (after_step step content)

-- the same as `Fits`, over the number of cells alone
abbrev pub FitsIn : List Step → ℕ → Type 0
FitsIn [] len = ⊤
FitsIn (step ∷ steps) len = StepFitsIn step len × FitsIn steps (length_after step len)
