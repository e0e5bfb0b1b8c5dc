-- What a backslash and the characters behind it give (Tcl(n), "Backslash substitution").
use Rattle.std.specs.Prelude.{ℕ, zero, suc, ◌+◌, ◌*◌, Bool, ◌&&◌, ◌||◌, ◌==◌, if◌then◌else◌, List, [], ◌∷◌}
use Rattle.std.specs.Char.{is_digit, digit_value}
use Rattle.std.specs.Bool.{nat_le}
use lib.Utf8.{scalar}

-- A character, and how many characters behind the backslash spell it; a value that is no character; or
-- something that only what follows decides.
pub data Escape : Type 0 where
  Gives : ℕ → ℕ → Escape
  NoCharacter : Escape
  Undecided : Escape

-- one more character belongs to the spelling
abbrev pub further : Escape → Escape
further (Gives c n) = Gives c (suc n)
further NoCharacter = NoCharacter
further Undecided = Undecided

-- the character of this value, spelled so far
abbrev pub valued : ℕ → Escape
valued value = if scalar value then Gives value 0 else NoCharacter

-- a digit that may join the value: none that takes it above the limit
abbrev pub joins : ℕ → ℕ → ℕ → ℕ → Bool
joins base limit value c = is_digit c base && nat_le (value * base + digit_value c) limit

-- the value with the digits that follow, at most so many
unfoldable pub numeral : ℕ → ℕ → Bool → List ℕ → ℕ → ℕ → Escape
numeral base limit ends cs zero value = valued value
numeral base limit ends [] (suc more) value = if ends then valued value else Undecided
numeral base limit ends (c ∷ cs) (suc more) value =
    if joins base limit value c then further (numeral base limit ends cs more (value * base + digit_value c))
    else valued value

-- Behind the letter: a hexadecimal digit and at most so many more give their value, at most 10FFFF; without
-- digits it is the letter.
abbrev pub hexadecimal : ℕ → ℕ → Bool → List ℕ → Escape
hexadecimal letter more ends [] = Gives letter 0
hexadecimal letter more ends (c ∷ cs) =
    if is_digit c 16 then further (numeral 16 1114111 ends cs more (digit_value c)) else Gives letter 0

-- how many spaces and tabs stand at the front
abbrev pub gap : List ℕ → ℕ
gap [] = 0
gap (c ∷ cs) = if c == 32 || c == 9 then suc (gap cs) else 0

-- the character for a letter behind a backslash; any other stands for itself
abbrev pub letter_value : ℕ → ℕ
letter_value c =
    if c == 97 then 7
    else (if c == 98 then 8
    else (if c == 102 then 12
    else (if c == 110 then 10
    else (if c == 114 then 13
    else (if c == 116 then 9
    else (if c == 118 then 11
    else c))))))

-- What the characters behind a backslash give, where `ends` says whether the text ends with them: an octal
-- digit and at most two more, up to 377; `x`, `u` and `U` with digits; a newline with the spaces and tabs after
-- it, which is one space; a letter, or any other character. A lone backslash is itself.
abbrev pub escape : Bool → List ℕ → Escape
escape ends [] = Gives 92 0
escape ends (c ∷ cs) =
    if is_digit c 8 then further (numeral 8 255 ends cs 2 (digit_value c))
    else (if c == 120 then further (hexadecimal c 1 ends cs)
    else (if c == 117 then further (hexadecimal c 3 ends cs)
    else (if c == 85 then further (hexadecimal c 7 ends cs)
    else (if c == 10 then Gives 32 (suc (gap cs))
    else Gives (letter_value c) 1))))
