-- Pieces of a list of lines, in whose place others come.
use Rattle.std.specs.Prelude.{◌≡◌, ℕ, ◌+◌, ◌<◌, ◌≤◌, ◌++◌, List, [], ◌∷◌, ⊤, length, map, take}
use Rattle.std.specs.FinMap as finite
use Rattle.std.specs.List.{All}
use Rattle.text_model.specs.declared.places.MarkNo.{MarkNo}
use Rattle.text_model.specs.declared.places.Place.{Place}
use Rattle.text_model.specs.Content.{Content}
use Rattle.toggle_sums.specs.Counts.{Count, plus}
use Rattle.segments.specs.Columns.{LineContent}
use Rattle.line_lists.specs.declared.drafts.Copied.{Copied}
use Rattle.line_lists.specs.declared.pieces.Piece.{Piece}
use Rattle.line_lists.specs.declared.store.PieceChange.{PieceChange}
use Rattle.line_lists.specs.Edits.{without_mark}
use Rattle.line_lists.specs.Lists.{AreApart, AreLines, AreRows, IsCounted, NumbersBelow, count_of, more_lines, row_of}
use Rattle.line_lists.specs.Lists.{spliced}
use Rattle.line_lists.specs.Texts.{content_of, whole}

-- the lines with each piece in its place, from the last to the first
abbrev pub placed : List Piece → List LineContent → List LineContent
placed [] lines = lines
placed (piece ∷ pieces) lines = spliced piece.from piece.count piece.lines.items (placed pieces lines)

-- a piece finds the lines in whose place it comes, the lines with it are those of a text, and it can be counted
-- together with all that are there before
pub record FitsIn (piece : Piece) (lines : List LineContent) : Type 0 where
  pub within : piece.from + piece.count ≤ length lines
  pub are : AreLines (spliced piece.from piece.count piece.lines.items lines)
  pub counted : IsCounted (plus (count_of lines) (count_of piece.lines.items))

-- each piece fits in where those behind it are placed
abbrev pub CanPlace : List Piece → List LineContent → Type 0
CanPlace [] lines = ⊤
CanPlace (piece ∷ pieces) lines = CanPlace pieces lines × FitsIn piece (placed pieces lines)

-- the lines that pieces bring
abbrev pub piece_lines : List Piece → List LineContent
piece_lines [] = []
piece_lines (piece ∷ pieces) = piece.lines.items ++ piece_lines pieces

-- how many lines pieces bring beyond those in whose place they come, and in how many rows these stand
abbrev pub lines_more : List Piece → ℕ
lines_more [] = 0
lines_more (piece ∷ pieces) = more_lines piece.count piece.lines.items + lines_more pieces

abbrev pub rows_more : List Piece → ℕ
rows_more [] = 0
rows_more (piece ∷ pieces) = row_of piece.count piece.lines.items + rows_more pieces

-- the numbers of the marks of a line, and of lines
abbrev pub numbers_of : LineContent → List ℕ
numbers_of line = map (λ (entry : ℕ × Place). entry.0) (finite.entries line.marks)

abbrev pub numbers_in : List LineContent → List ℕ
numbers_in [] = []
numbers_in (line ∷ lines) = numbers_of line ++ numbers_in lines

abbrev pub named : List MarkNo → List ℕ
named numbers = map (λ (number : MarkNo). number.0) numbers

-- lines without the marks of some numbers
abbrev pub freed : List ℕ → List LineContent → List LineContent
freed [] lines = lines
freed (number ∷ numbers) lines = freed numbers (map (without_mark number) lines)

-- the lines that copies bring
abbrev pub copied_lines : List Copied → List LineContent
copied_lines copies = map (λ (copy : Copied). copy.line) copies

-- lines that follow so many of a list, in whose place pieces made others
pub record Follows (used : ℕ) (made base : List LineContent) (sum : Count) (rest : List LineContent) : Type 0 where
  pub rows : AreRows (made ++ rest)
  pub apart : AreApart (whole (take used base)).marks (whole rest).marks
  pub counted : IsCounted (plus (count_of (take used base ++ rest)) sum)

-- what pieces make of so many lines of a list, whatever follows; of the lines that they bring so much is counted
pub record Covers (pieces : List Piece) (used : ℕ) (made base : List LineContent) (sum : Count) : Type 0 where
  pub places : (rest : List LineContent) → placed pieces (take used base ++ rest) ≡ made ++ rest
  pub can : (rest : List LineContent) → Follows used made base sum rest → CanPlace pieces (take used base ++ rest)

-- a change can be made of lines, and what it brings is counted
pub record CanMake (base : List LineContent) (change : PieceChange) : Type 0 where
  pub can : CanPlace change.pieces.items (freed (named change.taken.items) base)
  pub lines : change.growth.lines ≡ lines_more change.pieces.items
  pub rows : change.growth.rows ≡ rows_more change.pieces.items
  pub below : All (λ number. number < change.bound) (numbers_in (piece_lines change.pieces.items))

-- what it makes of them
abbrev pub content_made : PieceChange → List LineContent → Content
content_made change lines = content_of (placed change.pieces.items (freed (named change.taken.items) lines))

-- a list with such room takes pieces, once the marks of some numbers are taken off
pub record IsReady (lines : List LineContent) (has_room : ℕ → ℕ → Type 0) (bound : ℕ) (gone : List ℕ)
    (pieces : List Piece) : Type 0 where
  pub can : CanPlace pieces (freed gone lines)
  pub room : has_room (lines_more pieces) (rows_more pieces)
  pub below : All (λ (line : LineContent). NumbersBelow bound line.marks) (piece_lines pieces)
