-- The lists of lines that texts are kept as.
use Rattle.std.specs.Prelude.{◌≡◌, ℕ, ◌+◌, ◌-◌, ◌<◌, ◌≤◌, ◌^◌, Bool, true, not, nat_lt, List, [], ◌∷◌, ◌++◌, ⊤, Option}
use Rattle.std.specs.Prelude.{None, Some, IfSome, length, min, take, drop, slice_get, is_some, option_map}
use Rattle.std.specs.Prelude.{if◌then◌else◌}
use Rattle.std.specs.FinMap as finite
use Rattle.std.specs.FinSet as set
use Rattle.std.specs.List.{position, suffix_len}
use Rattle.text_model.specs.declared.places.Place.{Place}
use Rattle.text_model.specs.Content.{Marks}
use Rattle.text_model.specs.Documents.{ends_in_newline}
use Rattle.text_model.specs.Lines.{lines}
use Rattle.toggle_sums.specs.Counts.{Count, no_text, plus}
use Rattle.toggle_sums.specs.Toggles.{presence}
use Rattle.segments.specs.Columns.{LineContent, characters, line_count, toggles}
use Rattle.line_lists.specs.Texts.{whole}

-- no mark stands at or behind a column, and none behind it
abbrev pub StandBefore : ℕ → Marks → Type 0
StandBefore end marks = (number : ℕ) (place : Place) → finite.get marks number ≡ Some place → place.offset < end

abbrev pub StandWithin : ℕ → Marks → Type 0
StandWithin end marks = (number : ℕ) (place : Place) → finite.get marks number ≡ Some place → place.offset ≤ end

-- no number is that of a mark in both
abbrev pub AreApart : Marks → Marks → Type 0
AreApart first second =
    (number : ℕ) (place : Place) → finite.get first number ≡ Some place → finite.get second number ≡ None

-- the characters of a line: the last is its newline, and it has no other
pub record IsLine (line : LineContent) : Type 0 where
  pub ends : ends_in_newline (characters line.columns) ≡ true
  pub once : lines (characters line.columns) ≡ 1

-- a line may stand before these: where there are some, no mark of it stands at its end, and none in them
abbrev pub GoesBefore : LineContent → List LineContent → Type 0
GoesBefore line [] = StandWithin (length line.columns) line.marks
GoesBefore line (next ∷ others) =
    StandBefore (length line.columns) line.marks × AreApart line.marks (whole (next ∷ others)).marks

abbrev pub AreRows : List LineContent → Type 0
AreRows [] = ⊤
AreRows (line ∷ others) = IsLine line × GoesBefore line others × AreRows others

-- what is counted of lines
abbrev pub count_of : List LineContent → Count
count_of [] = no_text
count_of (line ∷ others) = plus (line_count line) (count_of others)

-- each number of a count is one of 64 bits
pub record IsCounted (count : Count) : Type 0 where
  pub lines : count.lines < 2 ^ 64
  pub characters : count.characters < 2 ^ 64
  pub marks : count.marks < 2 ^ 64

-- two counts that differ in their toggles alone
pub record SameNumbers (first second : Count) : Type 0 where
  pub lines : first.lines ≡ second.lines
  pub characters : first.characters ≡ second.characters
  pub marks : first.marks ≡ second.marks

-- the lines of a text
pub record AreLines (lines : List LineContent) : Type 0 where
  pub some : 0 < length lines
  pub rows : AreRows lines
  pub counted : IsCounted (count_of lines)

-- a column of a line holds an offset of the text
pub record Holds (lines : List LineContent) (offset line column : ℕ) : Type 0 where
  pub behind : offset ≡ length (whole (take line lines)).columns + column
  pub inside : IfSome (slice_get lines line) (λ (here : LineContent). column < length here.columns)
  pub within : line < length lines

-- whether a slot is toggled in a line, and whether a mark stands in it
abbrev pub has_toggle : ℕ → LineContent → Bool
has_toggle slot line = set.contains (presence (toggles line.columns)) slot

abbrev pub has_marks : LineContent → Bool
has_marks line = nat_lt 0 (finite.len line.marks)

abbrev pub has_mark : ℕ → LineContent → Bool
has_mark number line = is_some (finite.get line.marks number)

-- the first line from one on, and the last below one, that passes a test
abbrev pub next_line : (LineContent → Bool) → ℕ → List LineContent → Option ℕ
next_line test from lines = option_map (λ n. from + n) (position test (drop from lines))

abbrev pub previous_line : (LineContent → Bool) → ℕ → List LineContent → Option ℕ
previous_line test to lines =
    let free = suffix_len (λ line. not (test line)) (take to lines) in
    if nat_lt free to then Some (to - free - 1) else None

-- the first line in which the mark of a number stands, and how many characters stand before it
pub record IsMarked (number : ℕ) (lines : List LineContent) (start : ℕ) (line : LineContent) : Type 0 where
  pub index : ℕ
  pub first : next_line (has_mark number) 0 lines ≡ Some index
  pub starts : start ≡ length (whole (take index lines)).columns
  pub there : slice_get lines index ≡ Some line

-- some lines from one on go, and others come in their place
abbrev pub spliced : ℕ → ℕ → List LineContent → List LineContent → List LineContent
spliced from count new lines = take from lines ++ new ++ drop (from + count) lines

-- how many lines come beyond so many in whose place they come, and in how many rows these stand
abbrev pub more_lines : ℕ → List LineContent → ℕ
more_lines count new = length new - count

abbrev pub row_of : ℕ → List LineContent → ℕ
row_of count new = min 1 (length new - count)

-- the number of each mark is below a bound
abbrev pub NumbersBelow : ℕ → Marks → Type 0
NumbersBelow bound marks = (number : ℕ) (place : Place) → finite.get marks number ≡ Some place → number < bound
