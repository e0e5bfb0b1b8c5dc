-- Characters are taken out of a draft of a text while the copy of a line is held out of it.
use Rattle.std.specs.Prelude.{◌≡◌, ℕ, ◌+◌, ◌<◌, List, length, take, drop}
use Rattle.segments.specs.Columns.{LineContent, joined}
use Rattle.line_lists.specs.declared.drafts.Copied.{Copied}
use Rattle.line_lists.specs.declared.drafts.Stop.{Stop}
use Rattle.line_lists.specs.Drafts.{IsTaken, copies_of, lines_before, taken_lines}
use Rattle.line_lists.specs.Lists.{AreRows}
use Rattle.line_lists.specs.Texts.{whole}

-- the text with the copy, and where a column of its line stands there
abbrev pub held_text : List LineContent → List Stop → List Copied → Copied → LineContent
held_text lines front back copy = whole (taken_lines lines front back copy)

abbrev pub held_at : List LineContent → List Stop → Copied → ℕ → ℕ
held_at lines front copy column = length (whole (lines_before (copies_of front) copy lines)).columns + column

-- so many characters stand from there on, and one more
abbrev pub HoldsMore : List LineContent → List Stop → List Copied → Copied → ℕ → ℕ → Type 0
HoldsMore lines front back copy column count =
    held_at lines front copy column + count < length (held_text lines front back copy).columns

-- a copy that is held out of the draft of a text, and a column of its line
pub record IsHeld (lines : List LineContent) (front : List Stop) (back : List Copied) (stop : Stop) (column : ℕ)
    : Type 0 where
  pub taken : IsTaken lines front back stop
  pub rows : AreRows (taken_lines lines front back stop.copy)
  pub inside : column < length stop.copy.line.columns

-- a line with the first of the lines behind it, and the rest of these
pub record JoinsNext (old new : LineContent) (behind rest : List LineContent) : Type 0 where
  pub line : new ≡ joined old (whole (take 1 behind))
  pub others : rest ≡ drop 1 behind
