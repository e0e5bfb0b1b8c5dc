-- Bytes at fault stay at fault, however they go on.
use Rattle.tcl_words.proofs.Common.{◌≡◌, ℕ, ◌+◌, ◌/◌, ◌%◌, ◌<◌, ◌≤◌, ◌⊎◌, inl, inr, ⊎_elim, true, false, ltb, List, []}
use Rattle.tcl_words.proofs.Common.{◌∷◌, ◌++◌, Some, None, refl, sym, ap, ◌∙◌, arith, StartsWithNoChar, second_byte_min}
use Rattle.tcl_words.proofs.Common.{second_byte_max, is_in_range, IsScalar, nat_tests, leb_tells, append-nil}
use Rattle.tcl_words.proofs.Common.{append_assoc, ⊤}
use Rattle.std.specs.Str.Lossy.{utf8_error_len}
use lib.Utf8.{encode, scalar_cases}

err_one : (x : ℕ) → is_in_range 194 244 x ≡ true → utf8_error_len (x ∷ []) ≡ None
unfolding utf8_error_len
err_one x h = rw h refl

err_two : (x y : ℕ) → is_in_range 194 244 x ≡ true → is_in_range (second_byte_min x) (second_byte_max x) y ≡ true →
    utf8_error_len (x ∷ y ∷ []) ≡ None
unfolding utf8_error_len
err_two x y h k = rw (h, k) refl

err_three : (x y z : ℕ) → is_in_range 194 244 x ≡ true → is_in_range (second_byte_min x) (second_byte_max x) y ≡ true →
    is_in_range 128 191 z ≡ true
    → utf8_error_len (x ∷ y ∷ z ∷ []) ≡ None
unfolding utf8_error_len
err_three x y z h k l = rw (h, k, l) refl

err_nil : utf8_error_len [] ≡ None
unfolding utf8_error_len
err_nil = refl

in_range : (low high x : ℕ) → low ≤ x → x ≤ high → is_in_range low high x ≡ true
in_range low high x h k = grind (arith, nat_tests)

second_in_range : (x y : ℕ) → (x ≡ 224 → 160 ≤ y) → (x ≡ 240 → 144 ≤ y) → (x ≡ 237 → y ≤ 159) → (x ≡ 244 → y ≤ 143) →
    128 ≤ y → y ≤ 191
    → is_in_range (second_byte_min x) (second_byte_max x) y ≡ true
second_in_range x y a b c d low high = grind (arith, nat_tests)

too_long : (xs : List ℕ) (b : ℕ) (t : List ℕ) → [] ≡ xs ++ b ∷ t → ⊥
too_long [] b t h = cc
too_long (x ∷ xs) b t h = cc

-- each proper front of a list, behind another one, is no fault
abbrev Fronts : List ℕ → List ℕ → Type 0
Fronts front [] = ⊤
Fronts front (x ∷ rest) = (utf8_error_len front ≡ None) × Fronts (front ++ x ∷ []) rest

cut_at : (front rest bytes : List ℕ) (b : ℕ) (t : List ℕ) → Fronts front rest → rest ≡ bytes ++ b ∷ t →
    utf8_error_len (front ++ bytes) ≡ None
cut_at front [] bytes b t fine h = absurd (too_long bytes b t h)
cut_at front (x ∷ rest) [] b t fine h = ap utf8_error_len (append-nil front) ∙ fine.0
cut_at front (x ∷ rest) (y ∷ bytes) b t fine h =
    let same : y ≡ x = cc in
    let further : rest ≡ bytes ++ b ∷ t = cc in
    ap (λ n. utf8_error_len (front ++ n ∷ bytes)) same
    ∙ ap utf8_error_len (sym (append_assoc front (x ∷ []) bytes))
    ∙ cut_at (front ++ x ∷ []) rest bytes b t fine.1 further

encode_one : (c : ℕ) → c < 128 → encode c ≡ c ∷ []
unfolding encode
encode_one c h = let one : ltb c 128 ≡ true = grind (arith, nat_tests) in rw one refl

pub encode_two : (c : ℕ) → 128 ≤ c → c < 2048 → encode c ≡ (192 + c / 64) ∷ (128 + c % 64) ∷ []
unfolding encode
encode_two c h k =
    let one : ltb c 128 ≡ false = grind (arith, nat_tests) in
    let two : ltb c 2048 ≡ true = grind (arith, nat_tests) in
    rw (one, two) refl

pub encode_three : (c : ℕ) → 2048 ≤ c → c < 65536 → encode c
    ≡ (224 + c / 4096) ∷ (128 + (c / 64) % 64) ∷ (128 + c % 64) ∷ []
unfolding encode
encode_three c h k =
    let one : ltb c 128 ≡ false = grind (arith, nat_tests) in
    let two : ltb c 2048 ≡ false = grind (arith, nat_tests) in
    let three : ltb c 65536 ≡ true = grind (arith, nat_tests) in
    rw (one, two, three) refl

pub encode_four : (c : ℕ) → 65536 ≤ c → encode c ≡ (240 + c / 262144) ∷ (128 + (c / 4096) % 64) ∷ (128 + (c / 64) % 64)
    ∷ (128 + c % 64) ∷ []
unfolding encode
encode_four c h =
    let one : ltb c 128 ≡ false = grind (arith, nat_tests) in
    let two : ltb c 2048 ≡ false = grind (arith, nat_tests) in
    let three : ltb c 65536 ≡ false = grind (arith, nat_tests) in
    rw (one, two, three) refl

cut_of_three : (c : ℕ) (bytes : List ℕ) (b : ℕ) (t : List ℕ) → 2048 ≤ c → c < 65536 →
    (c / 4096 ≡ 13 → (c / 64) % 64 ≤ 31) → encode c ≡ bytes ++ b ∷ t → utf8_error_len bytes ≡ None
cut_of_three c bytes b t low high surrogate h =
    let x = 224 + c / 4096 in
    let y = 128 + (c / 64) % 64 in
    let first = in_range 194 244 x (omega arith) (omega arith) in
    let second = second_in_range x y (λ e. omega arith) (λ e. absurd (omega arith))
    (λ e. let k = surrogate (omega arith) in omega arith) (λ e. absurd (omega arith)) (omega arith) (omega arith) in
    cut_at [] (x ∷ y ∷ (128 + c % 64) ∷ []) bytes b t (err_nil, (err_one x first, (err_two x y first second, tt)))
    (sym (encode_three c low high) ∙ h)

cut_of_four : (c : ℕ) (bytes : List ℕ) (b : ℕ) (t : List ℕ) → 65536 ≤ c → c < 1114112 → encode c ≡ bytes ++ b ∷ t →
    utf8_error_len bytes ≡ None
cut_of_four c bytes b t low high h =
    let x = 240 + c / 262144 in
    let y = 128 + (c / 4096) % 64 in
    let z = 128 + (c / 64) % 64 in
    let first = in_range 194 244 x (omega arith) (omega arith) in
    let second = second_in_range x y (λ e. absurd (omega arith)) (λ e. omega arith) (λ e. absurd (omega arith))
    (λ e. omega arith) (omega arith) (omega arith) in
    let third = in_range 128 191 z (omega arith) (omega arith) in
    cut_at [] (x ∷ y ∷ z ∷ (128 + c % 64) ∷ []) bytes b t
    (err_nil, (err_one x first, (err_two x y first second, (err_three x y z first second third, tt))))
    (sym (encode_four c low) ∙ h)

cut_of_two : (c : ℕ) (bytes : List ℕ) (b : ℕ) (t : List ℕ) → 128 ≤ c → c < 2048 → encode c ≡ bytes ++ b ∷ t →
    utf8_error_len bytes ≡ None
cut_of_two c bytes b t low high h =
    let x = 192 + c / 64 in
    cut_at [] (x ∷ (128 + c % 64) ∷ []) bytes b t
    (err_nil, (err_one x (in_range 194 244 x (omega arith) (omega arith)), tt)) (sym (encode_two c low high) ∙ h)

not_surrogate : (c : ℕ) → (c < 55296) ⊎ ((57344 ≤ c) × (c < 1114112)) → c / 4096 ≡ 13 → (c / 64) % 64 ≤ 31
not_surrogate c (inl h) e = omega arith
not_surrogate c (inr h) e = let low = h.0 in absurd (omega arith)

below_limit : (c : ℕ) → (c < 55296) ⊎ ((57344 ≤ c) × (c < 1114112)) → c < 1114112
below_limit c (inl h) = omega arith
below_limit c (inr h) = h.1

-- a character that is cut is no fault
cut_char : (c : ℕ) (bytes : List ℕ) (b : ℕ) (t : List ℕ) → IsScalar c → encode c ≡ bytes ++ b ∷ t →
    utf8_error_len bytes ≡ None
cut_char c bytes b t s h = ⊎_elim
    (λ high. ⊎_elim
    (λ three. ⊎_elim
    (λ four. cut_of_four c bytes b t four.1 (below_limit c (scalar_cases c s)) h)
    (λ below. cut_of_three c bytes b t three.1 below.1 (not_surrogate c (scalar_cases c s)) h)
    (leb_tells 65536 c))
    (λ below. cut_of_two c bytes b t high.1 below.1 h)
    (leb_tells 2048 c))
    (λ low. cut_at [] (c ∷ []) bytes b t (err_nil, tt) (sym (encode_one c low.1) ∙ h))
    (leb_tells 128 c)

-- one of two fronts of the same list goes on where the other ends
either_goes_on : (xs ys zs ws : List ℕ) → xs ++ ys ≡ zs ++ ws
    → ((t : List ℕ) × (xs ≡ zs ++ t)) ⊎ ((b : ℕ) × (t : List ℕ) × (zs ≡ xs ++ b ∷ t))
either_goes_on xs ys [] ws h = inl (xs, refl)
either_goes_on [] ys (z ∷ zs) ws h = inr (z, zs, refl)
either_goes_on (x ∷ xs) ys (z ∷ zs) ws h =
    let same : x ≡ z = cc in
    let rest : xs ++ ys ≡ zs ++ ws = cc in
    ⊎_elim (λ l. inl (l.0, let tail = l.1 in cc))
    (λ r. inr (r.0, r.1, let tail = r.2 in cc))
    (either_goes_on xs ys zs ws rest)

-- Bytes that are at fault begin no character, however they go on.
pub stays_broken : (bytes : List ℕ) (k : ℕ) → utf8_error_len bytes ≡ Some k → StartsWithNoChar bytes → (more : List ℕ) →
    StartsWithNoChar (bytes ++ more)
stays_broken bytes k e h more c rest s split = ⊎_elim
    (λ l. h c l.0 s l.1)
    (λ r. let none = cut_char c bytes r.0 r.1 s r.2 in let no : Some k ≡ None = sym e ∙ none in cc)
    (either_goes_on bytes more (encode c) rest split)
