-- The tokens at the front of a text.
use Rattle.index_grammar.proofs.Common.{◌≡◌, ℕ, zero, suc, ◌+◌, Bool, true, false, cond, not, ◌&&◌, ◌||◌, ◌==◌, List}
use Rattle.index_grammar.proofs.Common.{[], ◌∷◌, ◌++◌, ◌<◌, ◌≤◌, Some, None, take, drop, length, refl, sym, ap, ◌∙◌}
use Rattle.index_grammar.proofs.Common.{append_assoc, arith, slice_get, list_all, prefix_len, is_ascii_digit, nat_tests}
use Rattle.index_grammar.proofs.Common.{false≢true, append-nil, length-take, list_all-append, is_blank, is_sign}
use Rattle.index_grammar.proofs.Common.{is_break, Token, tokens_of, run_tokens, parts_of, Sign, Digits, Word}
use Rattle.index_grammar.proofs.Common.{length-drop}
use Rattle.index_grammar.specs.Grammar.{tokens_from}

abbrev pub inside : ℕ → Bool
inside c = not (is_break c)

pub one : (n : ℕ) → 1 + n ≡ suc n
one n = omega arith

pub tokens-blank : (c : ℕ) (cs : List ℕ) → is_blank c ≡ true → tokens_of (c ∷ cs) ≡ tokens_of cs
unfolding tokens_from
tokens-blank c cs blank = rw blank refl

pub tokens-sign : (c : ℕ) (cs : List ℕ) → is_blank c ≡ false → is_sign c ≡ true →
    tokens_of (c ∷ cs) ≡ Sign (c == 43) ∷ tokens_of cs
unfolding tokens_from
tokens-sign c cs blank sign = rw blank (rw sign refl)

pub from-inside : (run : List ℕ) (c : ℕ) (cs : List ℕ) → is_blank c ≡ false → is_sign c ≡ false →
    tokens_from run (c ∷ cs) ≡ tokens_from (run ++ c ∷ []) cs
unfolding tokens_from
from-inside run c cs blank sign = rw blank (rw sign refl)

pub from-blank : (run : List ℕ) (c : ℕ) (cs : List ℕ) → is_blank c ≡ true →
    tokens_from run (c ∷ cs) ≡ run_tokens run ++ tokens_of cs
unfolding tokens_from
from-blank run c cs blank = rw blank refl

pub from-sign : (run : List ℕ) (c : ℕ) (cs : List ℕ) → is_blank c ≡ false → is_sign c ≡ true →
    tokens_from run (c ∷ cs) ≡ run_tokens run ++ Sign (c == 43) ∷ tokens_of cs
unfolding tokens_from
from-sign run c cs blank sign = rw blank (rw sign refl)

pub from-nil : (run : List ℕ) → tokens_from run [] ≡ run_tokens run
unfolding tokens_from
from-nil run = refl

of-nil : tokens_of [] ≡ []
unfolding tokens_from
of-nil = refl

pub tokens-blanks : (text : List ℕ) → tokens_of (drop (prefix_len is_blank text) text) ≡ tokens_of text
tokens-blanks [] = refl
tokens-blanks (c ∷ cs) =
    elim (is_blank c) as (λ b. is_blank c ≡ b → tokens_of (drop (cond b (1 + prefix_len is_blank cs) 0) (c ∷ cs))
    ≡ tokens_of (c ∷ cs)) [
      | true ↦ λ is. ap (λ k. tokens_of (drop k (c ∷ cs))) (one (prefix_len is_blank cs)) ∙ tokens-blanks cs
          ∙ sym (tokens-blank c cs is)
      | false ↦ λ _. refl
    ] refl

-- a run goes on to the next blank or sign
abbrev cut : List ℕ → ℕ → List ℕ → List Token
cut run count text = run_tokens (run ++ take count text) ++ tokens_of (drop count text)

runs : (run text : List ℕ) → tokens_from run text ≡ cut run (prefix_len inside text) text
runs run [] =
    from-nil run
    ∙ sym (ap (λ ts. run_tokens (run ++ []) ++ ts) of-nil ∙ append-nil (run_tokens (run ++ []))
    ∙ ap run_tokens (append-nil run))
runs run (c ∷ cs) =
    elim (is_blank c) as (λ b. is_blank c ≡ b → tokens_from run (c ∷ cs)
    ≡ cut run (cond (not (b || is_sign c)) (1 + prefix_len inside cs) 0) (c ∷ cs)) [
      | true ↦ λ is. from-blank run c cs is ∙ sym (ap (λ r. run_tokens r ++ tokens_of (c ∷ cs)) (append-nil run)
          ∙ ap (λ ts. run_tokens run ++ ts) (tokens-blank c cs is))
      | false ↦ λ blank. elim (is_sign c) as (λ b. is_sign c ≡ b →
          tokens_from run (c ∷ cs) ≡ cut run (cond (not b) (1 + prefix_len inside cs) 0) (c ∷ cs)) [
            | true ↦ λ is. from-sign run c cs blank is
                ∙ sym (ap (λ r. run_tokens r ++ tokens_of (c ∷ cs)) (append-nil run)
                ∙ ap (λ ts. run_tokens run ++ ts) (tokens-sign c cs blank is))
            | false ↦ λ sign. from-inside run c cs blank sign ∙ runs (run ++ c ∷ []) cs
                ∙ ap (λ r. run_tokens r ++ tokens_of (drop (prefix_len inside cs) cs))
                (append_assoc run (c ∷ []) (take (prefix_len inside cs) cs))
                ∙ ap (λ k. cut run k (c ∷ cs)) (sym (one (prefix_len inside cs)))
          ] refl
    ] refl

run-word : (c : ℕ) (cs : List ℕ) → is_ascii_digit c ≡ false → run_tokens (c ∷ cs) ≡ Word (c ∷ cs) ∷ []
run-word c cs other = ap (λ b. parts_of (take (cond b (1 + prefix_len is_ascii_digit cs) 0) (c ∷ cs))
    (drop (cond b (1 + prefix_len is_ascii_digit cs) 0) (c ∷ cs))) other

pub tokens-word : (c : ℕ) (cs : List ℕ) → is_break c ≡ false → is_ascii_digit c ≡ false
    → tokens_of (c ∷ cs) ≡ Word (take (prefix_len inside (c ∷ cs)) (c ∷ cs))
    ∷ tokens_of (drop (prefix_len inside (c ∷ cs)) (c ∷ cs))
tokens-word c cs unbroken other =
    let count : prefix_len inside (c ∷ cs)
    ≡ suc (prefix_len inside cs) = ap (λ b. cond (not b) (1 + prefix_len inside cs) 0) unbroken
    ∙ one (prefix_len inside cs) in
    runs [] (c ∷ cs) ∙ ap (λ k. cut [] k (c ∷ cs)) count
    ∙ ap (λ ts. ts ++ tokens_of (drop (prefix_len inside cs) cs)) (run-word c (take (prefix_len inside cs) cs) other)
    ∙ ap (λ k. Word (take k (c ∷ cs)) ∷ tokens_of (drop k (c ∷ cs))) (sym count)

-- ---- digits

pub prefix-append : (p : ℕ → Bool) (xs ys : List ℕ) → list_all p xs ≡ true → prefix_len p ys ≡ 0 →
    prefix_len p (xs ++ ys) ≡ length xs
prefix-append p [] ys all none = none
prefix-append p (x ∷ xs) ys all none =
    elim (p x) as (λ b. (b && list_all p xs) ≡ true → cond b (1 + prefix_len p (xs ++ ys)) 0 ≡ suc (length xs)) [
      | true ↦ λ rest. one (prefix_len p (xs ++ ys)) ∙ ap suc (prefix-append p xs ys rest none)
      | false ↦ λ no. absurd (false≢true no)
    ] all

pub take-front : (xs ys : List ℕ) → take (length xs) (xs ++ ys) ≡ xs
take-front [] ys = refl
take-front (x ∷ xs) ys = ap (λ zs. x ∷ zs) (take-front xs ys)

pub drop-front : (xs ys : List ℕ) → drop (length xs) (xs ++ ys) ≡ ys
drop-front [] ys = refl
drop-front (x ∷ xs) ys = drop-front xs ys

parts-digits : (d : ℕ) (run ys : List ℕ) → prefix_len is_ascii_digit ys ≡ 0 →
    parts_of (d ∷ run) ys ≡ Digits (d ∷ run) ∷ run_tokens ys
parts-digits d run [] none = refl
parts-digits d run (c ∷ cs) none = ap (λ k. Digits (d ∷ run) ∷ parts_of (take k (c ∷ cs)) (drop k (c ∷ cs))) (sym none)

run-digits : (d : ℕ) (run ys : List ℕ) → list_all is_ascii_digit (d ∷ run) ≡ true → prefix_len is_ascii_digit ys ≡ 0
    → run_tokens ((d ∷ run) ++ ys) ≡ Digits (d ∷ run) ∷ run_tokens ys
run-digits d run ys all none =
    ap (λ k. parts_of (take k ((d ∷ run) ++ ys)) (drop k ((d ∷ run) ++ ys)))
    (prefix-append is_ascii_digit (d ∷ run) ys all none)
    ∙ ap (λ xs. parts_of xs (drop (length (d ∷ run)) ((d ∷ run) ++ ys))) (take-front (d ∷ run) ys)
    ∙ ap (parts_of (d ∷ run)) (drop-front (d ∷ run) ys)
    ∙ parts-digits d run ys none

digit-blank : (c : ℕ) → is_ascii_digit c ≡ true → is_blank c ≡ false
digit-blank c digit = grind (arith, nat_tests)

digit-sign : (c : ℕ) → is_ascii_digit c ≡ true → is_sign c ≡ false
digit-sign c digit = grind (arith, nat_tests)

take-none : (c k : ℕ) (cs : List ℕ) → is_ascii_digit c ≡ false → prefix_len is_ascii_digit (take k (c ∷ cs)) ≡ 0
take-none c zero cs other = refl
take-none c (suc k) cs other = ap (λ b. cond b (1 + prefix_len is_ascii_digit (take k cs)) 0) other

-- digits go on to the next character that is none
digits-go : (d : ℕ) (run text : List ℕ) → list_all is_ascii_digit (d ∷ run) ≡ true
    → tokens_from (d ∷ run) text ≡ Digits ((d ∷ run) ++ take (prefix_len is_ascii_digit text) text)
    ∷ tokens_of (drop (prefix_len is_ascii_digit text) text)
digits-go d run [] all =
    from-nil (d ∷ run) ∙ ap run_tokens (sym (append-nil (d ∷ run))) ∙ run-digits d run [] all refl
    ∙ ap (λ r. Digits r ∷ []) (sym (append-nil (d ∷ run))) ∙ ap (λ ts. Digits ((d ∷ run) ++ []) ∷ ts) (sym of-nil)
digits-go d run (c ∷ cs) all =
    elim (is_ascii_digit c) as (λ b. is_ascii_digit c ≡ b → tokens_from (d ∷ run) (c ∷ cs)
    ≡ Digits ((d ∷ run) ++ take (cond b (1 + prefix_len is_ascii_digit cs) 0) (c ∷ cs))
    ∷ tokens_of (drop (cond b (1 + prefix_len is_ascii_digit cs) 0) (c ∷ cs))) [
      | true ↦ λ is.
          let more : list_all is_ascii_digit (d ∷ (run ++ c ∷ [])) ≡ true =
          list_all-append is_ascii_digit (d ∷ run) (c ∷ []) ∙ ap (λ b. b && list_all is_ascii_digit (c ∷ [])) all
          ∙ ap (λ b. b && true) is in
          from-inside (d ∷ run) c cs (digit-blank c is) (digit-sign c is) ∙ digits-go d (run ++ c ∷ []) cs more
          ∙ ap (λ r. Digits r ∷ tokens_of (drop (prefix_len is_ascii_digit cs) cs))
          (append_assoc (d ∷ run) (c ∷ []) (take (prefix_len is_ascii_digit cs) cs))
          ∙ ap (λ k. Digits ((d ∷ run) ++ take k (c ∷ cs)) ∷ tokens_of (drop k (c ∷ cs)))
          (sym (one (prefix_len is_ascii_digit cs)))
      | false ↦ λ other.
          let k = prefix_len inside (c ∷ cs) in
          runs (d ∷ run) (c ∷ cs)
          ∙ ap (λ ts. ts ++ tokens_of (drop k (c ∷ cs)))
          (run-digits d run (take k (c ∷ cs)) all (take-none c k cs other))
          ∙ ap (λ ts. Digits (d ∷ run) ∷ ts) (sym (runs [] (c ∷ cs)))
          ∙ ap (λ r. Digits r ∷ tokens_of (c ∷ cs)) (sym (append-nil (d ∷ run)))
    ] refl

pub tokens-digits : (c : ℕ) (cs : List ℕ) → is_ascii_digit c ≡ true
    → tokens_of (c ∷ cs) ≡ Digits (take (prefix_len is_ascii_digit (c ∷ cs)) (c ∷ cs))
    ∷ tokens_of (drop (prefix_len is_ascii_digit (c ∷ cs)) (c ∷ cs))
tokens-digits c cs digit =
    let count : prefix_len is_ascii_digit (c ∷ cs)
    ≡ suc (prefix_len is_ascii_digit cs) = ap (λ b. cond b (1 + prefix_len is_ascii_digit cs) 0) digit
    ∙ one (prefix_len is_ascii_digit cs) in
    from-inside [] c cs (digit-blank c digit) (digit-sign c digit)
    ∙ digits-go c [] cs (ap (λ b. b && true) digit)
    ∙ ap (λ k. Digits (take k (c ∷ cs)) ∷ tokens_of (drop k (c ∷ cs))) (sym count)

-- ---- by the first element

sign-blank : (c : ℕ) → is_sign c ≡ true → is_blank c ≡ false
sign-blank c sign = grind (arith, nat_tests)

no-break : (c : ℕ) → is_blank c ≡ false → is_sign c ≡ false → is_break c ≡ false
no-break c blank sign = ap (λ b. b || is_sign c) blank ∙ sign

pub piece-none : (text : List ℕ) → slice_get text 0 ≡ None → tokens_of text ≡ []
piece-none [] none = of-nil
piece-none (c ∷ cs) none = absurd (let h : Some c ≡ None = none in cc)

pub piece-sign : (text : List ℕ) (first : ℕ) → slice_get text 0 ≡ Some first → is_sign first ≡ true
    → tokens_of text ≡ Sign (first == 43) ∷ tokens_of (drop 1 text)
piece-sign [] first is sign = absurd (let h : None ≡ Some first = is in cc)
piece-sign (c ∷ cs) first is sign =
    let same : c ≡ first = let h : Some c ≡ Some first = is in cc in
    let here : is_sign c ≡ true = ap is_sign same ∙ sign in
    tokens-sign c cs (sign-blank c here) here ∙ ap (λ d. Sign (d == 43) ∷ tokens_of cs) same

pub piece-digits : (text : List ℕ) (first count : ℕ) → slice_get text 0 ≡ Some first → is_ascii_digit first ≡ true →
    count ≡ prefix_len is_ascii_digit text
    → tokens_of text ≡ Digits (take count text) ∷ tokens_of (drop count text)
piece-digits [] first count is digit counted = absurd (let h : None ≡ Some first = is in cc)
piece-digits (c ∷ cs) first count is digit counted =
    let same : c ≡ first = let h : Some c ≡ Some first = is in cc in
    tokens-digits c cs (ap is_ascii_digit same ∙ digit)
    ∙ ap (λ k. Digits (take k (c ∷ cs)) ∷ tokens_of (drop k (c ∷ cs))) (sym counted)

pub piece-word : (text : List ℕ) (first count : ℕ) → slice_get text 0 ≡ Some first → is_blank first ≡ false →
    is_sign first ≡ false → is_ascii_digit first ≡ false
    → count ≡ prefix_len inside text → tokens_of text ≡ Word (take count text) ∷ tokens_of (drop count text)
piece-word [] first count is blank sign digit counted = absurd (let h : None ≡ Some first = is in cc)
piece-word (c ∷ cs) first count is blank sign digit counted =
    let same : c ≡ first = let h : Some c ≡ Some first = is in cc in
    tokens-word c cs (ap is_break same ∙ no-break first blank sign) (ap is_ascii_digit same ∙ digit)
    ∙ ap (λ k. Word (take k (c ∷ cs)) ∷ tokens_of (drop k (c ∷ cs))) (sym counted)

-- each piece takes something
pub piece-bound : (p : ℕ → Bool) (text : List ℕ) (first : ℕ) → slice_get text 0 ≡ Some first → p first ≡ true →
    0 < prefix_len p text
piece-bound p [] first is here = absurd (let h : None ≡ Some first = is in cc)
piece-bound p (c ∷ cs) first is here =
    let same : c ≡ first = let h : Some c ≡ Some first = is in cc in
    let count : prefix_len p (c ∷ cs) ≡ 1 + prefix_len p cs = ap (λ b. cond b (1 + prefix_len p cs) 0) (ap p same
    ∙ here) in
    omega (arith, count)

pub word-inside : (c : ℕ) → is_blank c ≡ false → is_sign c ≡ false → inside c ≡ true
word-inside c blank sign = ap not (no-break c blank sign)

-- what stands behind `count` characters of a text without its first ones is shorter
pub behind-bound : (text left rest : List ℕ) (blanks count first : ℕ) → left ≡ drop blanks text →
    slice_get left 0 ≡ Some first → rest ≡ drop count left → 0 < count
    → length rest < length text
behind-bound text [] rest blanks count first left_is is rest_is some = absurd (let h : None ≡ Some first = is in cc)
behind-bound text (c ∷ cs) rest blanks count first left_is is rest_is some =
    omega (arith, ap length rest_is ∙ length-drop count (c ∷ cs), ap length left_is ∙ length-drop blanks text)

-- and no shorter than by these characters
pub taken-bound : (text left front rest : List ℕ) (blanks count : ℕ) → left ≡ drop blanks text →
    front ≡ take count left → rest ≡ drop count left → length front + length rest ≤ length text
taken-bound text left front rest blanks count left_is front_is rest_is =
    omega (
      arith,
      ap length rest_is ∙ length-drop count left,
      ap length left_is
          ∙ length-drop blanks text,
      ap length front_is ∙ length-take count left,
    )

pub not-blank : (text : List ℕ) (first : ℕ) → slice_get (drop (prefix_len is_blank text) text) 0 ≡ Some first →
    is_blank first ≡ false
not-blank [] first is = absurd (let h : None ≡ Some first = is in cc)
not-blank (c ∷ cs) first is =
    elim (is_blank c) as (λ b. is_blank c ≡ b → slice_get (drop (cond b (1 + prefix_len is_blank cs) 0) (c ∷ cs)) 0
    ≡ Some first → is_blank first ≡ false) [
      | true ↦ λ _ there. not-blank cs first
          (sym (ap (λ k. slice_get (drop k (c ∷ cs)) 0) (one (prefix_len is_blank cs))) ∙ there)
      | false ↦ λ other here. let same : c ≡ first = let h : Some c ≡ Some first = here in cc in
          sym (ap is_blank same) ∙ other
    ] refl is
