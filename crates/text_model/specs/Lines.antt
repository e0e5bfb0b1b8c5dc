-- The lines of a text, which is a list of characters: each ends with its newline.
use Rattle.std.specs.Prelude.{◌≡◌, ℕ, zero, suc, ◌+◌, ◌≤◌, Bool, List, [], ◌∷◌, ◌==◌, length, take, count_by}
use Rattle.std.specs.Prelude.{if◌then◌else◌}
use Rattle.text_model.specs.declared.places.LineSpan.{LineSpan}

abbrev pub is_newline : ℕ → Bool
is_newline character = character == 10

-- how many lines there are
abbrev pub lines : List ℕ → ℕ
lines text = count_by is_newline text

-- the number of the line that an offset stands in, from 0: the newlines before it
abbrev pub line_of : List ℕ → ℕ → ℕ
line_of text offset = lines (take offset text)

-- the offset at which a line begins, counted from 0: after as many newlines
abbrev pub line_start : ℕ → List ℕ → ℕ
line_start zero text = 0
line_start (suc line) [] = 0
line_start (suc line) (character ∷ text) =
    1 + line_start (if is_newline character then line else suc line) text

-- a line begins there, or the text ends there
pub record IsLineStart (text : List ℕ) (at : ℕ) : Type 0 where
  pub within : at ≤ length text
  pub begins : line_start (line_of text at) text ≡ at

-- the line that an offset stands in: its number, where it begins, and where the one behind it does
pub record IsLineOf (text : List ℕ) (offset : ℕ) (line : LineSpan) : Type 0 where
  pub number : line.number ≡ line_of text offset
  pub start : line.start ≡ line_start line.number text
  pub end : line.end ≡ line_start (line.number + 1) text
