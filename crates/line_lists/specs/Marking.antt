-- Where the mark of a number stands in lines.
use Rattle.std.specs.Prelude.{◌≡◌, ℕ, ◌+◌, ◌-◌, min, List, [], ◌∷◌, ◌++◌, Some, length, take, drop}
use Rattle.std.specs.FinMap as finite
use Rattle.text_model.specs.declared.places.Place.{Place}
use Rattle.segments.specs.Columns.{LineContent}
use Rattle.line_lists.specs.declared.drafts.Copied.{Copied}
use Rattle.line_lists.specs.declared.drafts.Reached.{Reached}
use Rattle.line_lists.specs.Texts.{whole}

-- it stands in one of the lines, at an offset; a mark at the end of this line counts as one before its last character
pub record StandsIn (number offset : ℕ) (lines : List LineContent) : Type 0 where
  pub before : List LineContent
  pub line : LineContent
  pub behind : List LineContent
  pub place : Place
  pub all : lines ≡ before ++ line ∷ behind
  pub here : finite.get line.marks number ≡ Some place
  pub at : offset ≡ length (whole before).columns + min place.offset (length line.columns - 1)

-- the lines that are kept before a copy that follows what is covered, and its line
abbrev pub lines_with : Reached → Copied → List LineContent → List LineContent
lines_with reached copy lines = take copy.kept (drop reached.used lines) ++ copy.line ∷ []
