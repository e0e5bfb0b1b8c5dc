-- Places of bytes, and with numbers up to the greatest that a machine has.
use Rattle.index_grammar.proofs.Common.{◌≡◌, ℕ, suc, ◌+◌, ◌≤◌, min, true, false, ◌&&◌, List, [], ◌∷◌, ◌++◌, Option}
use Rattle.index_grammar.proofs.Common.{Some, None, take, drop, get_or, refl, sym, ap, ◌∙◌, arith, is_ascii_digit, fold}
use Rattle.index_grammar.proofs.Common.{bytes_eq, codes, position, option_map, option_and_then, if◌then◌else◌, IsUtf8}
use Rattle.index_grammar.proofs.Common.{nat_tests, Decides-eqb, drop_more, take-append-drop, list_all-append, list_all}
use Rattle.index_grammar.proofs.Common.{false≢true, bytes_eq-Decides, chars-IsAscii, encodes-IsAscii, encodes-chars}
use Rattle.index_grammar.proofs.Common.{Base, add_digit, number_of, in_line, around_dot, place_of, saturated_base}
use Rattle.index_grammar.proofs.Common.{is_dot}
use Rattle.std.specs.Str.{chars}
use Rattle.std.proofs.lemmas.List.Quantifiers.{position-Some}
use Rattle.index_grammar.proofs.LowLaws.{is_low, ascii_of}
use Rattle.index_grammar.specs.declared.indices.Base.TheVariants as base

abbrev pub most : ℕ
most = 18446744073709551615

-- the word `end` in bytes
pub end_bytes : codes "end" ≡ 101 ∷ 110 ∷ 100 ∷ []
unfolding chars
end_bytes = refl

min_most : (n : ℕ) → n ≤ most → min most n ≡ n
min_most n within = omega arith

min_twice : (n : ℕ) → min most (min most n) ≡ min most n
min_twice n = omega arith

-- what follows a line is `end`
pub in_line-end : (line : ℕ) (text : List ℕ) → line ≤ most → bytes_eq text (101 ∷ 110 ∷ 100 ∷ []) ≡ true →
    Some (base.LineEnd line) ≡ option_map saturated_base (in_line line text)
in_line-end line text within same =
    ap (λ n. Some (base.LineEnd n)) (sym (min_most line within))
    ∙ sym (ap (λ e. option_map saturated_base (if bytes_eq text e then Some (base.LineEnd line)
    else option_map (base.At line) (number_of text))) end_bytes
    ∙ ap (λ b. option_map saturated_base (if b then Some (base.LineEnd line)
    else option_map (base.At line) (number_of text))) same)

saturated_at : (line : ℕ) (found : Option ℕ) → line ≤ most →
    option_map (base.At line) (option_map (min most) found)
    ≡ option_map saturated_base (option_map (base.At line) found)
saturated_at line None within = refl
saturated_at line (Some n) within = ap (λ m. Some (base.At m (min most n))) (sym (min_most line within))

-- what follows a line is a number, or nothing that may
pub in_line-number : (line : ℕ) (text : List ℕ) (found : Option ℕ) → line ≤ most →
    bytes_eq text (101 ∷ 110 ∷ 100 ∷ []) ≡ false
    → found ≡ option_map (min most) (number_of text) → option_map (base.At line) found
    ≡ option_map saturated_base (in_line line text)
in_line-number line text found within other is =
    ap (option_map (base.At line)) is ∙ saturated_at line (number_of text) within
    ∙ sym (ap (λ e. option_map saturated_base (if bytes_eq text e then Some (base.LineEnd line)
    else option_map (base.At line) (number_of text))) end_bytes
    ∙ ap (λ b. option_map saturated_base (if b then Some (base.LineEnd line)
    else option_map (base.At line) (number_of text))) other)

at_saturated : (line : ℕ) (found : Option ℕ) → option_map saturated_base (option_map (base.At (min most line)) found)
    ≡ option_map saturated_base (option_map (base.At line) found)
at_saturated line None = refl
at_saturated line (Some n) = ap (λ m. Some (base.At m (min most n))) (min_twice line)

in_line-saturated : (line : ℕ) (text : List ℕ) → option_map saturated_base (in_line (min most line) text)
    ≡ option_map saturated_base (in_line line text)
in_line-saturated line text =
    elim (bytes_eq text (codes "end")) as (λ b.
    option_map saturated_base (if b then Some (base.LineEnd (min most line))
    else option_map (base.At (min most line)) (number_of text))
    ≡ option_map saturated_base (if b then Some (base.LineEnd line) else option_map (base.At line) (number_of text))) [
      | true ↦ ap (λ m. Some (base.LineEnd m)) (min_twice line)
      | false ↦ at_saturated line (number_of text)
    ]

-- before the dot a number stands
pub around_dot-some : (text : List ℕ) (dot line : ℕ) (place : Option ℕ) (found : Option Base) → place ≡ Some dot
    → Some line ≡ option_map (min most) (number_of (take dot text)) →
    found ≡ option_map saturated_base (in_line line (drop (dot + 1) text))
    → found ≡ option_map saturated_base (around_dot text place)
around_dot-some text dot line place found at some is = rw at
    (elim (number_of (take dot text)) as (λ o. Some line ≡ option_map (min most) o →
    found ≡ option_map saturated_base (option_and_then (λ n. in_line n (drop (suc dot) text)) o)) [
      | None ↦ λ none. absurd (let h : Some line ≡ None = none in cc)
      | Some n ↦ λ same. let line_is : line ≡ min most n = cc in
          is ∙ ap (λ m. option_map saturated_base (in_line m (drop (dot + 1) text))) line_is
          ∙ in_line-saturated n (drop (dot + 1) text)
          ∙ ap (λ k. option_map saturated_base (in_line n (drop k text))) (let e : dot + 1 ≡ suc dot = omega arith in e)
    ] some)

pub place_of-end : (text : List ℕ) → bytes_eq text (101 ∷ 110 ∷ 100 ∷ []) ≡ true →
    Some base.End ≡ option_map saturated_base (place_of text)
place_of-end text same = sym (ap (λ e. option_map saturated_base (if bytes_eq text e then Some base.End
    else around_dot text (position is_dot text))) end_bytes
    ∙ ap (λ b. option_map saturated_base (if b then Some base.End else around_dot text (position is_dot text))) same)

pub place_of-dot : (text : List ℕ) (found : Option Base) → bytes_eq text (101 ∷ 110 ∷ 100 ∷ []) ≡ false →
    found ≡ option_map saturated_base (around_dot text (position is_dot text)) →
    found ≡ option_map saturated_base (place_of text)
place_of-dot text found other is = is
    ∙ sym (ap (λ e. option_map saturated_base (if bytes_eq text e then Some base.End
    else around_dot text (position is_dot text))) end_bytes
    ∙ ap (λ b. option_map saturated_base (if b then Some base.End else around_dot text (position is_dot text))) other)

-- ---- no index has a character beyond ASCII
low_digit : (c : ℕ) → is_ascii_digit c ≡ true → is_low c ≡ true
low_digit c digit = grind (arith, nat_tests)

pub low_digits : (text : List ℕ) → list_all is_ascii_digit text ≡ true → list_all is_low text ≡ true
low_digits [] digits = refl
low_digits (c ∷ text) digits =
    elim (is_ascii_digit c) as (λ b. is_ascii_digit c ≡ b → (b && list_all is_ascii_digit text) ≡ true →
    (is_low c && list_all is_low text) ≡ true) [
      | true ↦ λ here rest. ap (λ b. b && list_all is_low text) (low_digit c here) ∙ low_digits text rest
      | false ↦ λ _ none. absurd (false≢true none)
    ] refl digits

pub digits-of : (text : List ℕ) (n : ℕ) → number_of text ≡ Some n → list_all is_ascii_digit text ≡ true
digits-of [] n is = refl
digits-of (c ∷ text) n is = elim (list_all is_ascii_digit (c ∷ text)) as (λ b.
    (if b then Some (fold add_digit 0 (c ∷ text)) else None) ≡ Some n → b ≡ true) [
      | true ↦ λ _. refl
      | false ↦ λ none. absurd (let h : None ≡ Some n = none in cc)
    ] is

pub low_number : (text : List ℕ) (n : ℕ) → number_of text ≡ Some n → list_all is_low text ≡ true
low_number text n is = low_digits text (digits-of text n is)

low_end : (text : List ℕ) → bytes_eq text (codes "end") ≡ true → list_all is_low text ≡ true
low_end text same = ap (list_all is_low) ((bytes_eq-Decides text (codes "end")).0 same ∙ end_bytes)

low_behind : (line : ℕ) (text : List ℕ) (index : Base) → in_line line text ≡ Some index → list_all is_low text ≡ true
low_behind line text index is =
    elim (bytes_eq text (codes "end")) as (λ b. bytes_eq text (codes "end") ≡ b →
    (if b then Some (base.LineEnd line) else option_map (base.At line) (number_of text)) ≡ Some index →
    list_all is_low text ≡ true) [
      | true ↦ λ same _. low_end text same
      | false ↦ λ _. elim (number_of text) as (λ o. number_of text ≡ o → option_map (base.At line) o ≡ Some index →
          list_all is_low text ≡ true) [
            | None ↦ λ _ none. absurd (let h : None ≡ Some index = none in cc)
            | Some n ↦ λ number _. low_number text n number
          ] refl
    ] refl is

pub dot-split : (text : List ℕ) (dot : ℕ) → position is_dot text ≡ Some dot →
    text ≡ take dot text ++ 46 ∷ drop (suc dot) text
dot-split text dot at =
    let found = position-Some is_dot text dot 0 at in
    let here : get_or text dot 0 ≡ 46 = (Decides-eqb (get_or text dot 0) 46).0 found.1 in
    let rest : drop dot text ≡ 46 ∷ drop (suc dot) text = drop_more text dot 0 found.0
    ∙ ap (λ c. c ∷ drop (dot + 1) text) here
    ∙ ap (λ k. 46 ∷ drop k text) (let e : dot + 1 ≡ suc dot = omega arith in e) in
    sym (take-append-drop dot text) ∙ ap (λ ys. take dot text ++ ys) rest

-- the parts round a dot have no such character, so the whole has none
low_parts : (text : List ℕ) (dot : ℕ) → position is_dot text ≡ Some dot → list_all is_low (take dot text) ≡ true →
    list_all is_low (drop (suc dot) text) ≡ true → list_all is_low text ≡ true
low_parts text dot at before behind =
    ap (list_all is_low) (dot-split text dot at) ∙ list_all-append is_low (take dot text) (46 ∷ drop (suc dot) text)
    ∙ ap (λ b. b && list_all is_low (drop (suc dot) text)) before ∙ behind

low_around : (text : List ℕ) (place : Option ℕ) (index : Base) → position is_dot text ≡ place →
    around_dot text place ≡ Some index → list_all is_low text ≡ true
low_around text None index at is = absurd (let h : None ≡ Some index = is in cc)
low_around text (Some dot) index at is =
    elim (number_of (take dot text)) as (λ o. number_of (take dot text) ≡ o →
    option_and_then (λ line. in_line line (drop (suc dot) text)) o ≡ Some index → list_all is_low text ≡ true) [
      | None ↦ λ _ none. absurd (let h : None ≡ Some index = none in cc)
      | Some line ↦ λ number behind. low_parts text dot at (low_number (take dot text) line number)
          (low_behind line (drop (suc dot) text) index behind)
    ] refl is

pub low_place : (text : List ℕ) (index : Base) → place_of text ≡ Some index → list_all is_low text ≡ true
low_place text index is =
    elim (bytes_eq text (codes "end")) as (λ b. bytes_eq text (codes "end") ≡ b →
    (if b then Some base.End else around_dot text (position is_dot text)) ≡ Some index →
    list_all is_low text ≡ true) [
      | true ↦ λ same _. low_end text same
      | false ↦ λ _ around. low_around text (position is_dot text) index refl around
    ] refl is

-- the index that the bytes of a text are is the one that its characters are
pub place_of-chars : (bytes : List ℕ) → IsUtf8 bytes → place_of bytes ≡ place_of (chars bytes)
place_of-chars bytes text =
    elim (place_of bytes) as (λ o. place_of bytes ≡ o → o ≡ place_of (chars bytes)) [
      | Some index ↦ λ is. sym is ∙ ap place_of (sym (chars-IsAscii bytes (ascii_of bytes (low_place bytes index is))))
      | None ↦ λ none. elim (place_of (chars bytes)) as (λ o. place_of (chars bytes) ≡ o → None ≡ o) [
        | None ↦ λ _. refl
        | Some index ↦ λ is.
            let ascii = ascii_of (chars bytes) (low_place (chars bytes) index is) in
            let same : chars bytes ≡ bytes = sym (encodes-IsAscii (chars bytes) ascii) ∙ encodes-chars bytes text in
            sym none ∙ ap place_of (sym same) ∙ is
      ] refl
    ] refl
