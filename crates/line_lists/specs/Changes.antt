-- What an edit makes of a list of lines: one line changes, or pieces come in.
use Rattle.std.specs.Prelude.{◌≡◌, ℕ, ◌<◌, ◌≤◌, List, [], ◌∷◌, Some, length, map, option_to_list, slice_get}
use Rattle.text_model.specs.declared.edits.Step.{Step}
use Rattle.text_model.specs.declared.places.Place.{Place}
use Rattle.text_model.specs.Content.{Content}
use Rattle.toggle_sums.specs.Counts.{plus}
use Rattle.segments.specs.Columns.{LineContent}
use Rattle.line_lists.specs.declared.line_changes.LineChange.{LineChange}
use Rattle.line_lists.specs.declared.store.Change.{Change}
use Rattle.line_lists.specs.declared.store.Change.TheVariants.{Line, Pieces}
use Rattle.line_lists.specs.Edits.{made, with_mark, without_mark}
use Rattle.line_lists.specs.Lists.{AreLines, AreRows, IsCounted, NumbersBelow, count_of, has_mark, spliced}
use Rattle.line_lists.specs.Pieces.{IsReady, content_made, freed, named}
use Rattle.line_lists.specs.Texts.{content_of, whole}

-- the lines in which one changes, from which its mark is taken, and the lines with the changed one
abbrev pub lines_freed : LineChange → List LineContent → List LineContent
lines_freed change lines = freed (named (option_to_list change.taken)) lines

abbrev pub lines_changed : LineChange → List LineContent → List LineContent
lines_changed change lines = spliced change.index 1 (change.line ∷ []) (lines_freed change lines)

-- the changed line makes a step of the text
pub record IsChangedBy (step : Step) (lines : List LineContent) (change : LineChange) : Type 0 where
  pub within : change.index < length lines
  pub rows : AreRows (lines_changed change lines)
  pub whole : whole (lines_changed change lines) ≡ made step (whole lines)

-- the lines with it are those of a text, and it can be counted together with all that are there before
pub record CanChange (lines : List LineContent) (change : LineChange) : Type 0 where
  pub within : change.index < length (lines_freed change lines)
  pub are : AreLines (lines_changed change lines)
  pub counted : IsCounted (plus (count_of (lines_freed change lines)) (count_of (change.line ∷ [])))

-- a line can be edited where it lies: with the edited line the lines are those of a text, it can be counted together
-- with all that are there, and it has the same marks
pub record CanEdit (lines : List LineContent) (index : ℕ) (Fits : LineContent → Type 0)
    (edited : LineContent → LineContent) : Type 0 where
  pub line : LineContent
  pub is : slice_get lines index ≡ Some line
  pub fits : Fits line
  pub are : AreLines (spliced index 1 (edited line ∷ []) lines)
  pub counted : IsCounted (plus (count_of lines) (count_of (edited line ∷ [])))
  pub marks : (number : ℕ) → has_mark number (edited line) ≡ has_mark number line

-- and the numbers of its marks are below a bound
pub record IsLineReady (lines : List LineContent) (bound : ℕ) (change : LineChange) : Type 0 where
  pub can : CanChange lines change
  pub below : NumbersBelow bound change.line.marks

-- the lines with the mark of a number in this one, and in no other
abbrev pub lines_marked : ℕ → ℕ → Place → LineContent → List LineContent → List LineContent
lines_marked number index place line lines =
    spliced index 1 (with_mark number place line ∷ []) (map (without_mark number) lines)

-- the mark of a number can be put into a line: the lines are those of a text then, and the line with the mark can be
-- counted together with all that are there
pub record CanMark (lines : List LineContent) (number index : ℕ) (place : Place) : Type 0 where
  pub line : LineContent
  pub is : slice_get lines index ≡ Some line
  pub fits : place.offset ≤ length line.columns
  pub are : AreLines (lines_marked number index place line lines)
  pub counted : IsCounted (plus (count_of lines) (count_of (with_mark number place line ∷ [])))

abbrev pub IsChangeReady : List LineContent → (ℕ → ℕ → Type 0) → ℕ → Change → Type 0
IsChangeReady lines has_room bound (Line change) = IsLineReady lines bound change
IsChangeReady lines has_room bound (Pieces change) =
    IsReady lines has_room bound (named change.taken.items) change.pieces.items

-- what a change makes of the text
abbrev pub outcome_of : Change → List LineContent → Content
outcome_of (Line change) lines = content_of (lines_changed change lines)
outcome_of (Pieces change) lines = content_made change lines
