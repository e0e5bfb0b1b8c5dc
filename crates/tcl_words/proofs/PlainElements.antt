-- Numbers and places that stand as they are in a list; a place is two numbers round a dot.
use Rattle.tcl_words.proofs.Common.{◌≡◌, ℕ, ◌<◌, ◌≤◌, ◌==◌, suc, Bool, true, false, List, [], ◌∷◌, ◌++◌, length, refl}
use Rattle.tcl_words.proofs.Common.{sym, ap, ◌∙◌, arith, append-nil, ne_eqb, zero, ◌||◌, ◌^◌, ap₂, decimal}
use Rattle.tcl_words.proofs.Common.{if◌then◌else◌, IsAscii, encode_utf8_all, IsAscii-append, encodes-IsAscii, Goes}
use Rattle.tcl_words.proofs.Common.{has_special, is_special, is_white, needs_quotes, space_behind}
use Rattle.std.specs.Str.Parse.{AllDigits}
use Rattle.std.proofs.lemmas.Fmt.{IsAscii-decimal_wide, decimal_is_IsNumeral_wide}
use Rattle.std.proofs.lemmas.Str.Parse.{tells_digits}
use Rattle.tcl_words.proofs.ListForms.{goes_on, push_bare}

or-none : (a b : Bool) → a ≡ false → b ≡ false → (a || b) ≡ false
or-none a b first second = ap₂ (λ x y. x || y) first second

none-of-six : (a b c d e f : Bool) → a ≡ false → b ≡ false → c ≡ false → d ≡ false → e ≡ false → f ≡ false →
    (a || b || c || d || e || f) ≡ false
none-of-six a b c d e f first second third fourth fifth sixth =
    or-none (a || b || c || d || e) f (or-none (a || b || c || d) e (or-none (a || b || c) d
    (or-none (a || b) c (or-none a b first second) third) fourth) fifth) sixth

plain-digit : (c : ℕ) → 48 ≤ c → c ≤ 57 → (is_white c || is_special c) ≡ false
plain-digit c low high =
    let no : (k : ℕ) → (c ≡ k → 1 ≤ 0) → (c == k) ≡ false = λ k other. ne_eqb c k (λ is. absurd (omega (arith, other is))) in
    let white : is_white c ≡ false = none-of-six (c == 32) (c == 9) (c == 10) (c == 13) (c == 11) (c == 12)
    (no 32 (λ is. omega arith)) (no 9 (λ is. omega arith)) (no 10 (λ is. omega arith)) (no 13 (λ is. omega arith))
    (no 11 (λ is. omega arith)) (no 12 (λ is. omega arith)) in
    let special : is_special c ≡ false =
    or-none _ (c == 92)
    (or-none _ (c == 59)
    (none-of-six (c == 123) (c == 125) (c == 91) (c == 93) (c == 36) (c == 34)
    (no 123 (λ is. omega arith)) (no 125 (λ is. omega arith)) (no 91 (λ is. omega arith)) (no 93 (λ is. omega arith))
    (no 36 (λ is. omega arith)) (no 34 (λ is. omega arith))) (no 59 (λ is. omega arith))) (no 92 (λ is. omega arith)) in
    or-none (is_white c) (is_special c) white special

plain-digits : (ds rest : List ℕ) → AllDigits 10 ds → has_special (ds ++ rest) ≡ has_special rest
plain-digits [] rest all = refl
plain-digits (c ∷ ds) rest all =
    let parts = tells_digits.parts c ds all in
    ap (λ b. if b then true else has_special (ds ++ rest)) (plain-digit c parts.0.0 parts.0.1)
    ∙ plain-digits ds rest parts.1

plain-number : (ds rest : List ℕ) → 0 < length ds → AllDigits 10 ds → has_special rest ≡ false →
    needs_quotes (ds ++ rest) ≡ false
plain-number [] rest some all plain = absurd (omega (arith, some))
plain-number (c ∷ ds) rest some all plain =
    let parts = tells_digits.parts c ds all in
    ap (λ b. if b then true else has_special (c ∷ (ds ++ rest)))
    (ne_eqb c 35 (λ is. absurd (omega (arith, parts.0.0, is)))) ∙ plain-digits (c ∷ ds) rest all ∙ plain

-- a number
pub plain-decimal : (number : ℕ) → number < 10 ^ 64 → needs_quotes (decimal number) ≡ false
plain-decimal number small =
    let digits = (decimal_is_IsNumeral_wide number small).0 in
    ap needs_quotes (sym (append-nil (decimal number))) ∙ plain-number (decimal number) [] digits.0 digits.1 refl

-- a number behind a hyphen
pub plain-negative : (number : ℕ) → number < 10 ^ 64 → needs_quotes (45 ∷ decimal number) ≡ false
plain-negative number small =
    let digits = (decimal_is_IsNumeral_wide number small).0 in
    ap has_special (sym (append-nil (decimal number))) ∙ plain-digits (decimal number) [] digits.1

plain-dot : (ds : List ℕ) → has_special (46 ∷ ds) ≡ has_special ds
plain-dot ds = refl

-- a line and a character round a dot
plain-place : (line character : ℕ) → line < 10 ^ 64 → character < 10 ^ 64 →
    needs_quotes (decimal line ++ 46 ∷ decimal character) ≡ false
plain-place line character small fits =
    let first = (decimal_is_IsNumeral_wide line small).0 in
    let second = (decimal_is_IsNumeral_wide character fits).0 in
    plain-number (decimal line) (46 ∷ decimal character) first.0 first.1
    (plain-dot (decimal character) ∙ ap has_special (sym (append-nil (decimal character)))
    ∙ plain-digits (decimal character) [] second.1)

behind_dot : (ds : List ℕ) → IsAscii ds → IsAscii (46 ∷ ds)
behind_dot ds ascii zero = omega arith
behind_dot ds ascii (suc i) = ascii i

ascii-place : (line character : ℕ) → line < 10 ^ 64 → character < 10 ^ 64 →
    IsAscii (decimal line ++ 46 ∷ decimal character)
ascii-place line character small fits =
    IsAscii-append (decimal line) (46 ∷ decimal character) (IsAscii-decimal_wide line small)
    (behind_dot (decimal character) (IsAscii-decimal_wide character fits))

-- what is put behind a space
pub goes-plain : (old new element cs : List ℕ) → encode_utf8_all cs ≡ element → needs_quotes cs ≡ false →
    new ≡ (old ++ space_behind old) ++ element → Goes old new (cs ∷ [])
goes-plain old new element cs is plain makes =
    goes_on old new cs (push_bare old new element cs is plain makes)

-- a place behind a space
pub goes-place : (old new : List ℕ) (line character : ℕ) → line < 10 ^ 64 → character < 10 ^ 64 →
    new ≡ (old ++ space_behind old) ++ (decimal line ++ 46 ∷ decimal character)
    → Goes old new ((decimal line ++ 46 ∷ decimal character) ∷ [])
goes-place old new line character small fits makes =
    let place = decimal line ++ 46 ∷ decimal character in
    goes-plain old new place place (encodes-IsAscii place (ascii-place line character small fits))
    (plain-place line character small fits) makes
