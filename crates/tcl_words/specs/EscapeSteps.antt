-- How an escape is read one character after the other.
use Rattle.std.specs.Prelude.{ℕ, ◌+◌, ◌*◌, ◌-◌, Bool, ◌||◌, ◌==◌, if◌then◌else◌, Option, Some, None}
use Rattle.std.specs.Char.{is_digit, digit_value}
use lib.Utf8.{scalar}
use Rattle.tcl_words.specs.Escapes.{joins, letter_value}
use Rattle.tcl_words.specs.declared.escapes.Radix.{Radix}
use Rattle.tcl_words.specs.declared.escapes.Radix.TheVariants.{Octal, Hexadecimal}
use Rattle.tcl_words.specs.declared.escapes.EscapeStage.{EscapeStage}
use Rattle.tcl_words.specs.declared.escapes.EscapeStage.TheVariants.{Backslash, Letter, Digits, Gap}
use Rattle.tcl_words.specs.declared.escapes.EscapeStep.{EscapeStep}
use Rattle.tcl_words.specs.declared.escapes.EscapeStep.TheVariants as step

abbrev pub base_of : Radix → ℕ
base_of Octal = 8
base_of Hexadecimal = 16

abbrev pub limit_of : Radix → ℕ
limit_of Octal = 255
limit_of Hexadecimal = 1114111

-- the value with one more digit, if it joins
abbrev pub joined : Radix → ℕ → ℕ → Option ℕ
joined radix value c =
    if joins (base_of radix) (limit_of radix) value c then Some (value * base_of radix + digit_value c) else None

abbrev pub given : ℕ → EscapeStep
given value = if scalar value then step.Gives value else step.NoCharacter

abbrev pub before : ℕ → EscapeStep
before value = if scalar value then step.Before value else step.NoCharacter

abbrev pub digit_step : Radix → ℕ → ℕ → ℕ → EscapeStep
digit_step radix value more c =
    if joins (base_of radix) (limit_of radix) value c
    then (if more == 0 then given (value * base_of radix + digit_value c)
    else step.Goes (Digits radix (value * base_of radix + digit_value c) (more - 1)))
    else before value

abbrev pub letter_step : ℕ → ℕ → ℕ → EscapeStep
letter_step letter more c =
    if is_digit c 16 then step.Goes (Digits Hexadecimal (digit_value c) more) else step.Before letter

abbrev pub is_gap : ℕ → Bool
is_gap c = c == 32 || c == 9

abbrev pub gap_step : ℕ → EscapeStep
gap_step c = if is_gap c then step.Goes Gap else step.Before 32

abbrev pub is_letter : ℕ → Bool
is_letter c = c == 97 || c == 98 || c == 102 || c == 110 || c == 114 || c == 116 || c == 118

-- the character for a letter, or the character itself
abbrev pub plain_step : ℕ → EscapeStep
plain_step c = if is_letter c then step.Gives (letter_value c) else step.Keeps

abbrev pub backslash_step : ℕ → EscapeStep
backslash_step c =
    if is_digit c 8 then step.Goes (Digits Octal (digit_value c) 1)
    else (if c == 120 then step.Goes (Letter c 0)
    else (if c == 117 then step.Goes (Letter c 2)
    else (if c == 85 then step.Goes (Letter c 6)
    else (if c == 10 then step.Goes Gap
    else plain_step c))))

-- the character that an escape gives which ends at this one, if it is whole then
abbrev pub given_at : ℕ → EscapeStep → Option ℕ
given_at c (step.Gives d) = Some d
given_at c step.Keeps = Some c
given_at c _ = None

-- what a backslash and this character give, if they are all of an escape
abbrev pub pair_gives : ℕ → Option ℕ
pair_gives c = given_at c (backslash_step c)

abbrev pub escape_step : EscapeStage → ℕ → EscapeStep
escape_step Backslash c = backslash_step c
escape_step (Letter letter more) c = letter_step letter more c
escape_step (Digits radix value more) c = digit_step radix value more c
escape_step Gap c = gap_step c

-- the character that is given where the text ends
abbrev pub last_given : EscapeStage → Option ℕ
last_given Backslash = Some 92
last_given (Letter letter more) = Some letter
last_given (Digits radix value more) = if scalar value then Some value else None
last_given Gap = Some 32
