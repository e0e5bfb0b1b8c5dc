-- The number that the digits at the front of a text spell.
use Rattle.index_grammar.proofs.Common.{◌≡◌, ℕ, ◌+◌, ◌<◌, ◌≤◌, true, false, cond, List, [], ◌∷◌, take, drop, length}
use Rattle.index_grammar.proofs.Common.{get_or, Some, None, refl, sym, ap, ◌∙◌, arith, min, fold, list_all, prefix_len}
use Rattle.index_grammar.proofs.Common.{is_ascii_digit, number_of, add_digit, option_map, if◌then◌else◌}
use Rattle.index_grammar.proofs.Common.{take-append-drop, drop_more, length-take, length-drop, prefix_len-le-length}
use Rattle.index_grammar.proofs.PlaceLaws.{most}
use Rattle.index_grammar.proofs.TokenLaws.{prefix-append}

-- digits are all that a text begins with where none follows them: at its end, or before another character
digits-stop : (text : List ℕ) (at : ℕ) → at ≤ length text → list_all is_ascii_digit (take at text) ≡ true →
    prefix_len is_ascii_digit (drop at text) ≡ 0 → prefix_len is_ascii_digit text ≡ at
digits-stop text at within all none =
    ap (prefix_len is_ascii_digit) (sym (take-append-drop at text))
    ∙ prefix-append is_ascii_digit (take at text) (drop at text) all none ∙ length-take at text ∙ omega (arith, within)

pub digits-end : (text : List ℕ) (at : ℕ) → at ≤ length text → list_all is_ascii_digit (take at text) ≡ true →
    length text ≤ at → prefix_len is_ascii_digit text ≡ at
digits-end text at within all far =
    digits-stop text at within all (omega (
      arith,
      far,
      length-drop at text,
      prefix_len-le-length is_ascii_digit (drop at text),
    ))

pub digits-before : (text : List ℕ) (at : ℕ) → at ≤ length text → list_all is_ascii_digit (take at text) ≡ true →
    at < length text → false ≡ is_ascii_digit (get_or text at 0) → prefix_len is_ascii_digit text ≡ at
digits-before text at within all more other =
    digits-stop text at within all (ap (prefix_len is_ascii_digit) (drop_more text at 0 more)
    ∙ ap (λ b. cond b (1 + prefix_len is_ascii_digit (drop (at + 1) text)) 0) (sym other))

pub number_of-digits : (digits : List ℕ) → (length digits ≡ 0 → ⊥) → list_all is_ascii_digit digits ≡ true →
    number_of digits ≡ Some (fold add_digit 0 digits)
number_of-digits [] some all = absurd (some refl)
number_of-digits (d ∷ digits) some all =
    ap (λ b. if b then Some (fold add_digit 0 (d ∷ digits)) else None) all

pub number-read : (text : List ℕ) (at number : ℕ) → at ≤ length text → (at ≡ 0 → ⊥) →
    list_all is_ascii_digit (take at text) ≡ true → number ≡ min most (fold add_digit 0 (take at text)) →
    prefix_len is_ascii_digit text ≡ at
    → Some number ≡ option_map (min most) (number_of (take (prefix_len is_ascii_digit text) text))
number-read text at number within some all is long =
    ap Some is
    ∙ sym (ap (λ k. option_map (min most) (number_of (take k text))) long
    ∙ ap (option_map (min most)) (number_of-digits (take at text)
    (λ none. some (omega (arith, within, none, length-take at text))) all))

pub number_of-none : (text : List ℕ) → list_all is_ascii_digit text ≡ false → number_of text ≡ None
number_of-none [] other = refl
number_of-none (c ∷ cs) other = ap (λ b. if b then Some (fold add_digit 0 (c ∷ cs)) else None) other
