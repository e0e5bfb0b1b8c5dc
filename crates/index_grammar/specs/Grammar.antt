-- Which words are which indices (text(n), "INDICES").
use Rattle.std.specs.Prelude.{ℕ, min, ◌++◌, ◌||◌, zero, suc, ◌+◌, ◌-◌, ◌*◌, nat_le, ◌==◌, Bool, true, false, ◌&&◌, not}
use Rattle.std.specs.Prelude.{List, [], ◌∷◌, length, take, drop, fold, position, codes, bytes_eq, encode_utf8_all}
use Rattle.std.specs.Prelude.{Option, None, Some, option_map, option_and_then, nat_eq, if◌then◌else◌}
use Rattle.std.specs.Option.{option_or}
use Rattle.std.specs.List.{list_all, starts_with, ends_with, prefix_len, take_while}
use Rattle.std.specs.Char.{is_ascii_digit}
use Rattle.index_grammar.specs.Characters.{is_blank, is_sign, is_break, closes}
use Rattle.index_grammar.specs.declared.indices.Base.{Base}
use Rattle.index_grammar.specs.declared.indices.Base.TheVariants as base
use Rattle.index_grammar.specs.declared.indices.Modifier.{Modifier}
use Rattle.index_grammar.specs.declared.indices.Modifier.TheVariants as modifier
use Rattle.index_grammar.specs.declared.indices.Unit.{Unit}
use Rattle.index_grammar.specs.declared.indices.Unit.TheVariants as unit

-- ---- numbers

abbrev pub add_digit : ℕ → ℕ → ℕ
add_digit number digit = number * 10 + (digit - 48)

-- the number that one or more digits spell
abbrev pub number_of : List ℕ → Option ℕ
number_of [] = None
number_of (digit ∷ digits) =
    if list_all is_ascii_digit (digit ∷ digits) then Some (fold add_digit 0 (digit ∷ digits)) else None

-- ---- bases: how an index begins, with how many characters that takes

-- what stands behind the dot: a number, or `end`
abbrev pub in_line : ℕ → List ℕ → Option Base
in_line line text =
    if bytes_eq text (codes "end") then Some (base.LineEnd line) else option_map (base.At line) (number_of text)

abbrev pub around_dot : List ℕ → Option ℕ → Option Base
around_dot text None = None
around_dot text (Some dot) = option_and_then (λ line. in_line line (drop (suc dot) text)) (number_of (take dot text))

-- `line.char`, `line.end` or `end`, whole
abbrev pub place_of : List ℕ → Option Base
place_of text = if bytes_eq text (codes "end") then Some base.End else around_dot text (position (λ c. c == 46) text)

-- the characters up to the first blank, `+` or `-`
abbrev pub token : List ℕ → List ℕ
token text = take_while (λ c. not (is_break c)) text

-- the base of so many characters, from the first text on
abbrev pub of_length : ℕ → Base → Base × ℕ
of_length count found = (found, count)

-- the first two forms: a place, closed
abbrev pub place_base : List ℕ → Option (Base × ℕ)
place_base text = option_map (of_length (length (token text))) (place_of (token text))

-- the longest front of at most so many characters that has what is looked for
abbrev pub longest : {A : Type 0} → (ℕ → Option A) → ℕ → Option A
longest found zero = found 0
longest found (suc count) = option_or (found (suc count)) (longest found count)

-- what is looked for in a front that is closed
abbrev pub closed_front : (List ℕ → Option Base) → List ℕ → ℕ → Option (Base × ℕ)
closed_front named text count =
    if closes (drop count text) then option_map (of_length count) (named (take count text)) else None

-- the third form: a mark's name
abbrev pub marked : (List ℕ → Option ℕ) → List ℕ → Option Base
marked marks front = option_map (λ number. base.Mark (record { 0 = number })) (marks front)

abbrev pub without_last : ℕ → List ℕ → List ℕ
without_last count text = take (length text - count) text

abbrev pub first_tagged : List ℕ → ℕ → Base
first_tagged name slot = base.First (record { 0 = slot }) (length (encode_utf8_all name))

abbrev pub last_tagged : List ℕ → ℕ → Base
last_tagged name slot = base.Last (record { 0 = slot }) (length (encode_utf8_all name))

-- the fourth form: a tag's name before `.first` or `.last`; the longer of two such fronts has the longer name
abbrev pub tagged : (List ℕ → Option ℕ) → List ℕ → Option Base
tagged tags front =
    if ends_with nat_eq front (codes ".first")
    then option_map (first_tagged (without_last 6 front)) (tags (without_last 6 front))
    else (if ends_with nat_eq front (codes ".last")
    then option_map (last_tagged (without_last 5 front)) (tags (without_last 5 front))
    else None)

-- the longest closed front
abbrev pub longest_front : (List ℕ → Option Base) → List ℕ → Option (Base × ℕ)
longest_front named text = longest (closed_front named text) (length text)

-- the first of the forms that fits; of the marks and of the tags the one with the longest name
abbrev pub base_of : (List ℕ → Option ℕ) → (List ℕ → Option ℕ) → List ℕ → Option (Base × ℕ)
base_of marks tags text =
    option_or (place_base text) (option_or (longest_front (marked marks) text) (longest_front (tagged tags) text))

-- ---- modifiers

-- what an index is made of behind its base, without the blanks: `+` (true) or `-`, digits, and runs of other characters
pub data Token : Type 0 where
  Sign : Bool → Token
  Digits : List ℕ → Token
  Word : List ℕ → Token

-- the digits at the front of a run, and the word behind them
abbrev pub parts_of : List ℕ → List ℕ → List Token
parts_of [] [] = []
parts_of [] (c ∷ word) = Word (c ∷ word) ∷ []
parts_of (d ∷ digits) [] = Digits (d ∷ digits) ∷ []
parts_of (d ∷ digits) (c ∷ word) = Digits (d ∷ digits) ∷ Word (c ∷ word) ∷ []

-- the run of characters that are neither blanks nor signs, parted behind its first digits
abbrev pub run_tokens : List ℕ → List Token
run_tokens run = parts_of (take_while is_ascii_digit run) (drop (prefix_len is_ascii_digit run) run)

-- the run that a character goes onto, or ends, before the tokens that follow
unfoldable pub tokens_from : List ℕ → List ℕ → List Token
tokens_from run [] = run_tokens run
tokens_from run (c ∷ cs) =
    if is_blank c then run_tokens run ++ tokens_from [] cs
    else (if is_sign c then run_tokens run ++ Sign (c == 43) ∷ tokens_from [] cs
    else tokens_from (run ++ c ∷ []) cs)

abbrev pub tokens_of : List ℕ → List Token
tokens_of text = tokens_from [] text

-- the word is a front of another, of so many characters at least
abbrev pub abbreviates : List ℕ → ℕ → List ℕ → Bool
abbreviates word least whole = nat_le least (length word) && starts_with nat_eq whole word

-- any prefix of `chars` or `indices`, or of `lines`
abbrev pub unit_of : List ℕ → Option Unit
unit_of word =
    if abbreviates word 1 (codes "chars") || abbreviates word 1 (codes "indices") then Some unit.Characters
    else (if abbreviates word 1 (codes "lines") then Some unit.Lines
    else None)

abbrev pub keyword_of : List ℕ → Option Modifier
keyword_of word =
    if abbreviates word 5 (codes "linestart") then Some modifier.LineStart
    else (if abbreviates word 5 (codes "lineend") then Some modifier.LineEnd
    else (if abbreviates word 5 (codes "wordstart") then Some modifier.WordStart
    else (if abbreviates word 5 (codes "wordend") then Some modifier.WordEnd
    else None)))

abbrev pub by_count : Bool → ℕ → Unit → Modifier
by_count true count counted = modifier.Forward counted count
by_count false count counted = modifier.Back counted count

-- a modifier before others
abbrev pub before : Option Modifier → Option (List Modifier) → Option (List Modifier)
before None others = None
before (Some first) None = None
before (Some first) (Some others) = Some (first ∷ others)

-- a count before a unit
abbrev pub counted : Bool → Option ℕ → List ℕ → Option Modifier
counted forward None word = None
counted forward (Some count) word = option_map (by_count forward count) (unit_of word)

-- The modifiers that tokens spell: each a sign with a count and a unit, with `any` before the unit or without, or a
-- keyword.
abbrev pub modifiers_of : List Token → Option (List Modifier)
modifiers_of [] = Some []
modifiers_of (Word word ∷ tokens) = before (keyword_of word) (modifiers_of tokens)
modifiers_of (Sign forward ∷ Digits digits ∷ Word word ∷ Word next ∷ tokens) =
    if bytes_eq word (codes "any") then before (counted forward (number_of digits) next) (modifiers_of tokens)
    else before (counted forward (number_of digits) word) (modifiers_of (Word next ∷ tokens))
modifiers_of (Sign forward ∷ Digits digits ∷ Word word ∷ tokens) =
    before (counted forward (number_of digits) word) (modifiers_of tokens)
modifiers_of _ = None

-- ---- indices

abbrev pub WholeIndex : Type 0
WholeIndex = Base × List Modifier

-- a word is an index if what follows its base is a list of modifiers; the base is never another
abbrev pub index_of : (List ℕ → Option ℕ) → (List ℕ → Option ℕ) → List ℕ → Option WholeIndex
index_of marks tags text =
    option_and_then (λ (found : Base × ℕ). option_map (λ modifiers. (found.0, modifiers))
    (modifiers_of (tokens_of (drop found.1 text)))) (base_of marks tags text)

-- an index whose numbers are at most the greatest that a machine has
abbrev pub saturated_base : Base → Base
saturated_base (base.At line character) = base.At (min 18446744073709551615 line) (min 18446744073709551615 character)
saturated_base (base.LineEnd line) = base.LineEnd (min 18446744073709551615 line)
saturated_base base.End = base.End
saturated_base (base.Mark number) = base.Mark number
saturated_base (base.First slot len) = base.First slot len
saturated_base (base.Last slot len) = base.Last slot len

abbrev pub saturated_modifier : Modifier → Modifier
saturated_modifier (modifier.Forward counted count) = modifier.Forward counted (min 18446744073709551615 count)
saturated_modifier (modifier.Back counted count) = modifier.Back counted (min 18446744073709551615 count)
saturated_modifier modifier.LineStart = modifier.LineStart
saturated_modifier modifier.LineEnd = modifier.LineEnd
saturated_modifier modifier.WordStart = modifier.WordStart
saturated_modifier modifier.WordEnd = modifier.WordEnd
