-- Options with their values, which are taken by twos, and the words of lines.
use Rattle.command_effects.proofs.Common.{◌≡◌, ℕ, ℤ, ◌+◌, ◌-◌, ◌<◌, ◌≤◌, List, [], ◌∷◌, length, drop, refl, sym, ap}
use Rattle.command_effects.proofs.Common.{◌∙◌, arith, Option, None, Some, option_and_then, ok_or, Result, Ok, Err}
use Rattle.command_effects.proofs.Common.{String, chars, string_bytes, take_rest, drop-map, length-map, chars-nil}
use Rattle.command_effects.proofs.Common.{texts_of, Fault, BadInteger, with_value, line_numbered, line_of_word}
use Rattle.command_effects.proofs.Common.{setting_read, settings_read, get_or, take}
use Rattle.std.specs.Prelude.{option_map}
use Rattle.command_table.specs.Numbers.{integer_of}
use Rattle.command_effects.specs.declared.settings.Settings.{Settings}
use Rattle.command_effects.proofs.PairLaws.{word_or}

settings_read-two : (lines position : ℕ) (words : List (List ℕ)) (settings : Settings) → 2 ≤ length words
    → settings_read lines position words settings
    ≡ with_value (setting_read lines (position + 1) (get_or words 0 []) (get_or words 1 []) settings)
    (settings_read lines (position + 2) (drop 2 words))
settings_read-two lines position [] settings two = absurd (omega arith)
settings_read-two lines position (option ∷ []) settings two = absurd (omega arith)
settings_read-two lines position (option ∷ value ∷ words) settings two = refl

-- the first two words of the rest are read
settings_read-first : {Z : Type 0} (lines position : ℕ) (rest : List (String Z)) (settings : Settings)
    (found : Result Settings Fault) → 2 ≤ length rest
    → found ≡ setting_read lines (position + 1) (word_or rest 0) (word_or rest 1) settings
    → settings_read lines position (texts_of rest) settings
    ≡ with_value found (settings_read lines (position + 2) (texts_of (take (length rest - 2) (drop 2 rest))))
settings_read-first {Z} lines position rest settings found two is =
    let many : 2 ≤ length (texts_of rest) = omega (arith, length-map rest (λ word. chars (string_bytes word))) in
    settings_read-two lines position (texts_of rest) settings many
    ∙ ap (λ f. with_value f (settings_read lines (position + 2) (drop 2 (texts_of rest)))) (sym is)
    ∙ ap (λ ws. with_value found (settings_read lines (position + 2) ws))
    (drop-map (λ word. chars (string_bytes word)) 2 rest ∙ ap texts_of (sym (take_rest rest 2)))

-- what they give is followed by what the others do
pub settings_read-next : {Z : Type 0} (lines : ℕ) (all : Result Settings Fault) (position : ℕ) (rest : List (String Z))
    (settings : Settings) (found made : Result Settings Fault) → 2 ≤ length rest
    → all ≡ settings_read lines position (texts_of rest) settings →
    found ≡ setting_read lines (position + 1) (word_or rest 0) (word_or rest 1) settings → found ≡ made
    → all ≡ with_value made (settings_read lines (position + 2) (texts_of (take (length rest - 2) (drop 2 rest))))
settings_read-next {Z} lines all position rest settings found made two is read same =
    is ∙ settings_read-first lines position rest settings found two read
    ∙ ap (λ f. with_value f (settings_read lines (position + 2) (texts_of (take (length rest - 2) (drop 2 rest)))))
    same

-- ---- lines

pub line_of_word-none : (bytes : List ℕ) → length bytes ≡ 0 → line_of_word (chars bytes) ≡ Some None
line_of_word-none [] none = ap line_of_word chars-nil
line_of_word-none (b ∷ bytes) none = absurd (omega (arith, none))

abbrev line_of_integer : Option ℤ → Option (Option ℕ)
line_of_integer integer = option_and_then (λ number. option_map (λ line. Some line) (line_numbered number)) integer

line_of_word-some : (word : List ℕ) → 0 < length word → line_of_word word ≡ line_of_integer (integer_of word)
line_of_word-some [] some = absurd (omega arith)
line_of_word-some (c ∷ cs) some = refl

same_fault : (position : ℕ) (integer : Option ℤ) (found : Result ℤ Fault) (fault : Fault) →
    found ≡ ok_or integer (BadInteger position) → found ≡ Err fault
    → Err fault ≡ ok_or (line_of_integer integer) (BadInteger position)
same_fault position None found fault is err = let same : BadInteger position
    ≡ fault = (let h : Err (BadInteger position) ≡ Err fault = sym is ∙ err in cc) in ap Err (sym same)
same_fault position (Some number) found fault is err = absurd (let h : Ok number ≡ Err fault = sym is ∙ err in cc)

-- a word that is no integer is no line
pub line_of_word-fault : (position : ℕ) (word : List ℕ) (found : Result ℤ Fault) (fault : Fault) → 0 < length word →
    found ≡ ok_or (integer_of word) (BadInteger position) → found ≡ Err fault
    → Err fault ≡ ok_or (line_of_word word) (BadInteger position)
line_of_word-fault position word found fault some is err =
    same_fault position (integer_of word) found fault is err
    ∙ ap (λ line. ok_or line (BadInteger position)) (sym (line_of_word-some word some))
