-- Modifiers have no character beyond ASCII, so the bytes of a text stand for its characters.
use Rattle.index_grammar.proofs.Common.{◌≡◌, ℕ, Bool, true, false, ◌&&◌, ◌||◌, List, [], ◌∷◌, ◌++◌, Option, Some, None}
use Rattle.index_grammar.proofs.Common.{take, drop, length, refl, sym, ap, ◌∙◌, arith, chars, codes, IsUtf8, bytes_eq}
use Rattle.index_grammar.proofs.Common.{nat_eq, nat_le, option_map, if◌then◌else◌, list_all, prefix_len, starts_with}
use Rattle.index_grammar.proofs.Common.{is_ascii_digit, nat_tests, Decides-eqb, take-append-drop, list_all-append}
use Rattle.index_grammar.proofs.Common.{starts_is, bytes_eq-Decides, chars-IsAscii, encodes-IsAscii, encodes-chars}
use Rattle.index_grammar.proofs.Common.{is_blank, is_sign, Token, tokens_from, tokens_of, run_tokens, parts_of}
use Rattle.index_grammar.proofs.Common.{modifiers_of, before, counted, by_count, number_of, keyword_of, unit_of}
use Rattle.index_grammar.proofs.Common.{abbreviates, Sign, Digits, Word, Modifier}
use Rattle.index_grammar.specs.declared.indices.Unit.{Unit}
use Rattle.index_grammar.proofs.CharLaws.{both}
use Rattle.index_grammar.proofs.LowLaws.{is_low, ascii_of}
use Rattle.index_grammar.proofs.PlaceLaws.{low_number}
use Rattle.index_grammar.proofs.StepLaws.{any_bytes}
use Rattle.index_grammar.proofs.TokenLaws.{from-nil, from-blank, from-sign, from-inside}
use Rattle.index_grammar.specs.declared.indices.Modifier.TheVariants as modifier
use Rattle.index_grammar.specs.declared.indices.Unit.TheVariants as unit

abbrev low_token : Token → Bool
low_token (Sign plus) = true
low_token (Digits digits) = list_all is_low digits
low_token (Word word) = list_all is_low word

and-true : (b : Bool) → (b && true) ≡ b
and-true true = refl
and-true false = refl

low-parts : (a b : List ℕ) → list_all low_token (parts_of a b) ≡ (list_all is_low a && list_all is_low b)
low-parts [] [] = refl
low-parts [] (c ∷ cs) = and-true (list_all is_low (c ∷ cs))
low-parts (d ∷ ds) [] = refl
low-parts (d ∷ ds) (c ∷ cs) = ap (λ b. list_all is_low (d ∷ ds) && b) (and-true (list_all is_low (c ∷ cs)))

low-run : (run : List ℕ) → list_all low_token (run_tokens run) ≡ list_all is_low run
low-run run =
    let k = prefix_len is_ascii_digit run in
    low-parts (take k run) (drop k run) ∙ sym (list_all-append is_low (take k run) (drop k run))
    ∙ ap (list_all is_low) (take-append-drop k run)

blank-low : (c : ℕ) → is_blank c ≡ true → is_low c ≡ true
blank-low c blank = grind (arith, nat_tests)

sign-low : (c : ℕ) → is_sign c ≡ true → is_low c ≡ true
sign-low c sign = grind (arith, nat_tests)

regroup : (a b c : Bool) → ((a && (b && true)) && c) ≡ (a && (b && c))
regroup true true c = refl
regroup true false c = refl
regroup false b c = refl

low-tokens : (run text : List ℕ) → list_all low_token (tokens_from run text)
    ≡ (list_all is_low run && list_all is_low text)
low-tokens run [] = ap (list_all low_token) (from-nil run) ∙ low-run run ∙ sym (and-true (list_all is_low run))
low-tokens run (c ∷ cs) =
    elim (is_blank c) as (λ b. is_blank c ≡ b → list_all low_token (tokens_from run (c ∷ cs))
    ≡ (list_all is_low run && (is_low c && list_all is_low cs))) [
      | true ↦ λ is. ap (list_all low_token) (from-blank run c cs is)
          ∙ list_all-append low_token (run_tokens run) (tokens_of cs)
          ∙ ap (λ b. b && list_all low_token (tokens_of cs)) (low-run run)
          ∙ ap (λ b. list_all is_low run && b) (low-tokens [] cs)
          ∙ ap (λ b. list_all is_low run && (b && list_all is_low cs)) (sym (blank-low c is))
      | false ↦ λ blank. elim (is_sign c) as (λ b. is_sign c ≡ b →
          list_all low_token (tokens_from run (c ∷ cs)) ≡ (list_all is_low run && (is_low c && list_all is_low cs))) [
            | true ↦ λ is. ap (list_all low_token) (from-sign run c cs blank is)
                ∙ list_all-append low_token (run_tokens run) _
                ∙ ap (λ b. b && list_all low_token (tokens_of cs)) (low-run run)
                ∙ ap (λ b. list_all is_low run && b) (low-tokens [] cs)
                ∙ ap (λ b. list_all is_low run && (b && list_all is_low cs)) (sym (sign-low c is))
            | false ↦ λ sign. ap (list_all low_token) (from-inside run c cs blank sign) ∙ low-tokens (run ++ c ∷ []) cs
                ∙ ap (λ b. b && list_all is_low cs) (list_all-append is_low run (c ∷ []))
                ∙ regroup (list_all is_low run) (is_low c) (list_all is_low cs)
          ] refl
    ] refl

-- ---- what is read

low-front : (word whole : List ℕ) (least : ℕ) → list_all is_low whole ≡ true → abbreviates word least whole ≡ true →
    list_all is_low word ≡ true
low-front word whole least low is =
    let begins = (both (nat_le least (length word)) (starts_with nat_eq whole word) is).1 in
    let split = (starts_is Decides-eqb whole word (starts_with nat_eq whole word) refl).0 begins in
    (both (list_all is_low word) (list_all is_low (drop (length word) whole))
    (sym (ap (list_all is_low) split ∙ list_all-append is_low word (drop (length word) whole)) ∙ low)).0

pick : {A : Type 0} (P : Type 0) (b : Bool) (x : A) (rest : Option A) (y : A) → (if b then Some x else rest) ≡ Some y →
    (b ≡ true → P) → (rest ≡ Some y → P) → P
pick P true x rest y is here there = here refl
pick P false x rest y is here there = there is

either : (P : Type 0) (a b : Bool) → (a || b) ≡ true → (a ≡ true → P) → (b ≡ true → P) → P
either P true b is here there = here refl
either P false b is here there = there is

abbrev IsLow : List ℕ → Type 0
IsLow text = list_all is_low text ≡ true

low-keyword : (word : List ℕ) (m : Modifier) → keyword_of word ≡ Some m → IsLow word
low-keyword word m is =
    pick (IsLow word) (abbreviates word 5 (codes "linestart")) modifier.LineStart _ m is (λ h.
    low-front word (codes "linestart") 5 refl h) (λ is.
    pick (IsLow word) (abbreviates word 5 (codes "lineend")) modifier.LineEnd _ m is (λ h.
    low-front word (codes "lineend") 5 refl h) (λ is.
    pick (IsLow word) (abbreviates word 5 (codes "wordstart")) modifier.WordStart _ m is (λ h.
    low-front word (codes "wordstart") 5 refl h) (λ is.
    pick (IsLow word) (abbreviates word 5 (codes "wordend")) modifier.WordEnd None m is (λ h.
    low-front word (codes "wordend") 5 refl h) (λ none.
    absurd (let h : None ≡ Some m = none in cc)))))

low-unit : (word : List ℕ) (u : Unit) → unit_of word ≡ Some u → IsLow word
low-unit word u is =
    pick (IsLow word) (abbreviates word 1 (codes "chars")
    || abbreviates word 1 (codes "indices")) unit.Characters _ u is
    (λ h. either (IsLow word) (abbreviates word 1 (codes "chars")) (abbreviates word 1 (codes "indices")) h
    (λ h. low-front word (codes "chars") 1 refl h) (λ h. low-front word (codes "indices") 1 refl h))
    (λ is. pick (IsLow word) (abbreviates word 1 (codes "lines")) unit.Lines None u is (λ h.
    low-front word (codes "lines") 1 refl h) (λ none.
    absurd (let h : None ≡ Some u = none in cc)))

low-counted : (forward : Bool) (digits word : List ℕ) (m : Modifier) →
    counted forward (number_of digits) word ≡ Some m → (IsLow digits) × (IsLow word)
low-counted forward digits word m is =
    elim (number_of digits) as (λ o. number_of digits ≡ o → counted forward o word ≡ Some m →
    (IsLow digits) × (IsLow word)) [
      | None ↦ λ _ none. absurd (let h : None ≡ Some m = none in cc)
      | Some n ↦ λ number. elim (unit_of word) as (λ o. unit_of word ≡ o → option_map (by_count forward n) o ≡ Some m →
          (IsLow digits) × (IsLow word)) [
            | None ↦ λ _ none. absurd (let h : None ≡ Some m = none in cc)
            | Some u ↦ λ unit_is _. (low_number digits n number, low-unit word u unit_is)
          ] refl
    ] refl is

before-some : (P : Type 0) (first : Option Modifier) (others : Option (List Modifier)) (ms : List Modifier) →
    before first others ≡ Some ms
    → ((m : Modifier) → first ≡ Some m → (os : List Modifier) → others ≡ Some os → P) → P
before-some P None others ms is go = absurd (let h : None ≡ Some ms = is in cc)
before-some P (Some m) None ms is go = absurd (let h : None ≡ Some ms = is in cc)
before-some P (Some m) (Some os) ms is go = go m refl os refl

join2 : (a b : Bool) → a ≡ true → b ≡ true → (a && b) ≡ true
join2 a b first second = ap (λ x. x && b) first ∙ second

join3 : (a b c : Bool) → a ≡ true → b ≡ true → c ≡ true → (a && (b && c)) ≡ true
join3 a b c first second third = join2 a (b && c) first (join2 b c second third)

abbrev AreLow : List Token → Type 0
AreLow tokens = list_all low_token tokens ≡ true

low-step : (forward : Bool) (digits word : List ℕ) (rest : List Token) (ms : List Modifier) →
    ((os : List Modifier) → modifiers_of rest ≡ Some os → AreLow rest)
    → before (counted forward (number_of digits) word) (modifiers_of rest) ≡ Some ms →
    AreLow (Sign forward ∷ Digits digits ∷ Word word ∷ rest)
low-step forward digits word rest ms later is =
    before-some (AreLow (Sign forward ∷ Digits digits ∷ Word word ∷ rest)) (counted forward (number_of digits) word)
    (modifiers_of rest) ms is (λ m here os there.
    let parts = low-counted forward digits word m here in
    join3 (list_all is_low digits) (list_all is_low word) (list_all low_token rest) parts.0 parts.1 (later os there))

low-modifiers : (tokens : List Token) (ms : List Modifier) → modifiers_of tokens ≡ Some ms → AreLow tokens
low-modifiers [] ms is = refl
low-modifiers (Word word ∷ tokens) ms is =
    before-some (AreLow (Word word ∷ tokens)) (keyword_of word) (modifiers_of tokens) ms is (λ m here os there.
    join2 (list_all is_low word) (list_all low_token tokens) (low-keyword word m here) (low-modifiers tokens os there))
low-modifiers (Digits digits ∷ tokens) ms is = absurd (let h : None ≡ Some ms = is in cc)
low-modifiers (Sign f ∷ []) ms is = absurd (let h : None ≡ Some ms = is in cc)
low-modifiers (Sign f ∷ Sign g ∷ tokens) ms is = absurd (let h : None ≡ Some ms = is in cc)
low-modifiers (Sign f ∷ Word w ∷ tokens) ms is = absurd (let h : None ≡ Some ms = is in cc)
low-modifiers (Sign f ∷ Digits d ∷ []) ms is = absurd (let h : None ≡ Some ms = is in cc)
low-modifiers (Sign f ∷ Digits d ∷ Sign g ∷ tokens) ms is = absurd (let h : None ≡ Some ms = is in cc)
low-modifiers (Sign f ∷ Digits d ∷ Digits e ∷ tokens) ms is = absurd (let h : None ≡ Some ms = is in cc)
low-modifiers (Sign f ∷ Digits d ∷ Word w ∷ []) ms is = low-step f d w [] ms (λ os there. low-modifiers [] os there) is
low-modifiers (Sign f ∷ Digits d ∷ Word w ∷ Sign g ∷ tokens) ms is =
    low-step f d w (Sign g ∷ tokens) ms (λ os there. low-modifiers (Sign g ∷ tokens) os there) is
low-modifiers (Sign f ∷ Digits d ∷ Word w ∷ Digits e ∷ tokens) ms is =
    low-step f d w (Digits e ∷ tokens) ms (λ os there. low-modifiers (Digits e ∷ tokens) os there) is
low-modifiers (Sign f ∷ Digits d ∷ Word w ∷ Word next ∷ tokens) ms is =
    elim (bytes_eq w any_bytes) as (λ b. bytes_eq w any_bytes ≡ b
    → (if b then before (counted f (number_of d) next) (modifiers_of tokens)
    else before (counted f (number_of d) w) (modifiers_of (Word next ∷ tokens))) ≡ Some ms
    → AreLow (Sign f ∷ Digits d ∷ Word w ∷ Word next ∷ tokens)) [
      | true ↦ λ same is. before-some (AreLow (Sign f ∷ Digits d ∷ Word w ∷ Word next ∷ tokens))
          (counted f (number_of d) next) (modifiers_of tokens) ms is (λ m here os there.
          let parts = low-counted f d next m here in
          join3 (list_all is_low d) (list_all is_low w) (list_all low_token (Word next ∷ tokens)) parts.0
          (ap (list_all is_low) ((bytes_eq-Decides w any_bytes).0 same))
          (join2 (list_all is_low next) (list_all low_token tokens) parts.1 (low-modifiers tokens os there)))
      | false ↦ λ _ is. low-step f d w (Word next ∷ tokens) ms (λ os there. low-modifiers (Word next ∷ tokens) os there)
          is
    ] refl is

low-text : (text : List ℕ) (ms : List Modifier) → modifiers_of (tokens_of text) ≡ Some ms → IsLow text
low-text text ms is = sym (low-tokens [] text) ∙ low-modifiers (tokens_of text) ms is

-- the modifiers that the bytes of a text are are those that its characters are
pub modifiers-chars : (bytes : List ℕ) → IsUtf8 bytes → modifiers_of (tokens_of bytes)
    ≡ modifiers_of (tokens_of (chars bytes))
modifiers-chars bytes text =
    elim (modifiers_of (tokens_of bytes)) as (λ o. modifiers_of (tokens_of bytes) ≡ o →
    o ≡ modifiers_of (tokens_of (chars bytes))) [
      | Some ms ↦ λ is. sym is ∙ ap (λ t. modifiers_of (tokens_of t))
          (sym (chars-IsAscii bytes (ascii_of bytes (low-text bytes ms is))))
      | None ↦ λ none. elim (modifiers_of (tokens_of (chars bytes))) as (λ o. modifiers_of (tokens_of (chars bytes))
          ≡ o → None ≡ o) [
            | None ↦ λ _. refl
            | Some ms ↦ λ is.
                let ascii = ascii_of (chars bytes) (low-text (chars bytes) ms is) in
                let same : chars bytes ≡ bytes = sym (encodes-IsAscii (chars bytes) ascii) ∙ encodes-chars bytes text in
                sym none ∙ ap (λ t. modifiers_of (tokens_of t)) (sym same) ∙ is
          ] refl
    ] refl
