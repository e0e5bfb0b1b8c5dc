-- Bytes that end within a character are made a character by some bytes after them.
use Rattle.tcl_words.proofs.Common.{◌≡◌, ◌≢◌, ℕ, ◌+◌, ◌*◌, ◌-◌, ◌/◌, ◌%◌, ◌<◌, ◌≤◌, ◌==◌, ◌⊎◌, inl, inr, ⊎_elim, Bool}
use Rattle.tcl_words.proofs.Common.{true, false, cond, List, [], ◌∷◌, ◌++◌, length, Option, Some, None, refl, sym, ap}
use Rattle.tcl_words.proofs.Common.{◌∙◌, arith, nat_lt, StartsWithNoChar, error_len_after_one, error_len_after_two}
use Rattle.tcl_words.proofs.Common.{second_byte_min, second_byte_max, is_in_range, IsScalar, nat_tests, leb_tells}
use Rattle.tcl_words.proofs.Common.{BeginsOneChar}
use Rattle.std.specs.Str.Lossy.{utf8_error_len}
use lib.Utf8.{encode, scalar}
use Rattle.tcl_words.proofs.Broken.{encode_two, encode_three, encode_four}

-- these bytes are a character
abbrev Spell : List ℕ → Type 0
Spell bytes = (c : ℕ) × IsScalar c × (encode c ≡ bytes)

is_scalar : (c : ℕ) → (c < 55296) ⊎ ((57344 ≤ c) × (c < 1114112)) → scalar c ≡ true
is_scalar c (inl h) = grind (arith, nat_tests)
is_scalar c (inr h) = let low = h.0 in let high = h.1 in grind (arith, nat_tests)

from_two : (x y : ℕ) → 194 ≤ x → x ≤ 223 → 128 ≤ y → y ≤ 191 → Spell (x ∷ y ∷ [])
from_two x y p q r s =
    let c = (x - 192) * 64 + (y - 128) in
    let first : 192 + c / 64 ≡ x = omega arith in
    let second : 128 + c % 64 ≡ y = omega arith in
    let same : (192 + c / 64) ∷ (128 + c % 64) ∷ [] ≡ x ∷ y ∷ [] = cc in
    (c, is_scalar c (inl (omega arith)), encode_two c (omega arith) (omega arith) ∙ same)

from_three : (x y z : ℕ) → 224 ≤ x → x ≤ 239 → 128 ≤ y → y ≤ 191 → (x ≡ 224 → 160 ≤ y) → (x ≡ 237 → y ≤ 159) → 128 ≤ z →
    z ≤ 191 → Spell (x ∷ y ∷ z ∷ [])
from_three x y z p q r s least most t u =
    let c = (x - 224) * 4096 + (y - 128) * 64 + (z - 128) in
    let first : 224 + c / 4096 ≡ x = omega arith in
    let second : 128 + (c / 64) % 64 ≡ y = omega arith in
    let third : 128 + c % 64 ≡ z = omega arith in
    let same : (224 + c / 4096) ∷ (128 + (c / 64) % 64) ∷ (128 + c % 64) ∷ [] ≡ x ∷ y ∷ z ∷ [] = cc in
    let low : 2048 ≤ c = ⊎_elim (λ above. omega arith) (λ one. let k = least (omega arith) in
    omega arith) (leb_tells 225 x) in
    let whole : (c < 55296) ⊎ ((57344 ≤ c) × (c < 1114112)) =
    ⊎_elim (λ above. inr (omega arith, omega arith)) (λ within.
    ⊎_elim (λ one. let k = most (omega arith) in inl (omega arith)) (λ below. inl (omega arith)) (leb_tells 237 x))
    (leb_tells 238 x) in
    (c, is_scalar c whole, encode_three c low (omega arith) ∙ same)

from_four : (x y z w : ℕ) → 240 ≤ x → x ≤ 244 → 128 ≤ y → y ≤ 191 → (x ≡ 240 → 144 ≤ y) → (x ≡ 244 → y ≤ 143) →
    128 ≤ z → z ≤ 191 → 128 ≤ w → w ≤ 191 → Spell (x ∷ y ∷ z ∷ w ∷ [])
from_four x y z w p q r s least most t u v a =
    let c = (x - 240) * 262144 + (y - 128) * 4096 + (z - 128) * 64 + (w - 128) in
    let first : 240 + c / 262144 ≡ x = omega arith in
    let second : 128 + (c / 4096) % 64 ≡ y = omega arith in
    let third : 128 + (c / 64) % 64 ≡ z = omega arith in
    let fourth : 128 + c % 64 ≡ w = omega arith in
    let same : (240 + c / 262144) ∷ (128 + (c / 4096) % 64) ∷ (128 + (c / 64) % 64) ∷ (128 + c % 64) ∷ []
    ≡ x ∷ y ∷ z ∷ w ∷ [] = cc in
    let low : 65536 ≤ c = ⊎_elim (λ above. omega arith) (λ one. let k = least (omega arith) in
    omega arith) (leb_tells 241 x) in
    let high : c < 1114112 = ⊎_elim (λ one. let k = most (omega arith) in
    omega arith) (λ below. omega arith) (leb_tells 244 x) in
    (c, is_scalar c (inr (omega arith, high)), encode_four c low ∙ same)

-- what the tests of bytes tell

range_low : (low high x : ℕ) → is_in_range low high x ≡ true → low ≤ x
range_low low high x h = grind (arith, nat_tests)

range_high : (low high x : ℕ) → is_in_range low high x ≡ true → x ≤ high
range_high low high x h = grind (arith, nat_tests)

-- a byte that may follow the first byte x
record MayFollow (x y : ℕ) : Type 0 where
  low : 128 ≤ y
  high : y ≤ 191
  after_e0 : x ≡ 224 → 160 ≤ y
  after_ed : x ≡ 237 → y ≤ 159
  after_f0 : x ≡ 240 → 144 ≤ y
  after_f4 : x ≡ 244 → y ≤ 143

follows : (x y : ℕ) → 128 ≤ y → y ≤ 191 → (x ≡ 224 → 160 ≤ y) → (x ≡ 237 → y ≤ 159) → (x ≡ 240 → 144 ≤ y) →
    (x ≡ 244 → y ≤ 143) → MayFollow x y
follows x y low high a b c d =
    record { low = low; high = high; after_e0 = a; after_ed = b; after_f0 = c; after_f4 = d }

may_follow : (x y : ℕ) → is_in_range (second_byte_min x) (second_byte_max x) y ≡ true → MayFollow x y
may_follow x y h =
    let least = range_low (second_byte_min x) (second_byte_max x) y h in
    let most = range_high (second_byte_min x) (second_byte_max x) y h in
    follows x y (grind (arith, nat_tests)) (grind (arith, nat_tests)) (λ e. grind (arith, nat_tests))
    (λ e. grind (arith, nat_tests)) (λ e. grind (arith, nat_tests)) (λ e. grind (arith, nat_tests))

is_or : (x y : ℕ) → (x ≡ y) ⊎ (x ≢ y)
is_or x y = ⊎_elim (λ le. ⊎_elim (λ ge. inl (omega arith)) (λ less. inr (λ e. omega arith)) (leb_tells x y)) (λ more.
    inr (λ e. omega arith)) (leb_tells y x)

-- the least byte that may follow
follower : (x : ℕ) → (y : ℕ) × MayFollow x y
follower x = ⊎_elim
    (λ four. (
      144,
      follows x 144 (omega arith) (omega arith) (λ e. omega arith) (λ e. omega arith) (λ e. omega arith)
          (λ e. omega arith),
    ))
    (λ other. ⊎_elim
    (λ three. (
      160,
      follows x 160 (omega arith) (omega arith) (λ e. omega arith) (λ e. omega arith)
          (λ e. omega arith) (λ e. omega arith),
    ))
    (λ plain. (
      128,
      follows x 128 (omega arith) (omega arith) (λ e. omega arith) (λ e. omega arith)
          (λ e. omega arith) (λ e. omega arith),
    ))
    (is_or x 224))
    (is_or x 240)

-- where the tests find no fault, each passed

passes : (t : Bool) (k : ℕ) (found : Option ℕ) → cond t found (Some k) ≡ None → (t ≡ true) × (found ≡ None)
passes true k found h = (refl, h)
passes false k found h = cc

first_of_one : (x : ℕ) → utf8_error_len (x ∷ []) ≡ None → is_in_range 194 244 x ≡ true
unfolding utf8_error_len
first_of_one x h = (passes (is_in_range 194 244 x) 1 None h).0

two_in_range : (x y : ℕ) → utf8_error_len (x ∷ y ∷ []) ≡ None → (is_in_range 194 244 x ≡ true) × MayFollow x y
unfolding utf8_error_len
two_in_range x y h =
    let first = passes (is_in_range 194 244 x) 1 (error_len_after_one (x ∷ y ∷ [])) h in
    let second = passes (is_in_range (second_byte_min x) (second_byte_max x) y) 1 None first.1 in
    (first.0, may_follow x y second.0)

three_in_range : (x y z : ℕ) → utf8_error_len (x ∷ y ∷ z ∷ []) ≡ None →
    (is_in_range 194 244 x ≡ true) × MayFollow x y × (is_in_range 128 191 z ≡ true)
unfolding utf8_error_len
three_in_range x y z h =
    let first = passes (is_in_range 194 244 x) 1 (error_len_after_one (x ∷ y ∷ z ∷ [])) h in
    let second = passes (is_in_range (second_byte_min x) (second_byte_max x) y) 1 (error_len_after_two (x ∷ y ∷ z ∷ []))
    first.1 in
    (first.0, may_follow x y second.0, (passes (is_in_range 128 191 z) 2 None second.1).0)

none_passes : (first second third : Bool) →
    cond {A = Option ℕ} first (cond second (cond third (Some 3) (Some 2)) (Some 1)) (Some 1) ≡ None → ⊥
none_passes true true true h = cc
none_passes true true false h = cc
none_passes true false third h = cc
none_passes false second third h = cc

four_at_fault : (x y z w : ℕ) (bytes : List ℕ) → utf8_error_len (x ∷ y ∷ z ∷ w ∷ bytes) ≡ None → ⊥
unfolding utf8_error_len
four_at_fault x y z w bytes h =
    let some : (length (x ∷ y ∷ z ∷ w ∷ bytes) == 0) ≡ false = grind (arith, nat_tests) in
    let two : nat_lt (length (x ∷ y ∷ z ∷ w ∷ bytes)) 2 ≡ false = grind (arith, nat_tests) in
    let three : nat_lt (length (x ∷ y ∷ z ∷ w ∷ bytes)) 3 ≡ false = grind (arith, nat_tests) in
    let four : nat_lt (length (x ∷ y ∷ z ∷ w ∷ bytes)) 4 ≡ false = grind (arith, nat_tests) in
    none_passes (is_in_range 194 244 x) (is_in_range (second_byte_min x) (second_byte_max x) y) (is_in_range 128 191 z)
    (rw (some, two, three, four) at h)

-- these bytes are the front of a character

complete_two : (x y : ℕ) → is_in_range 194 244 x ≡ true → MayFollow x y → BeginsOneChar (x ∷ y ∷ [])
complete_two x y h f =
    let high = range_high 194 244 x h in
    let l = f.low in
    let m = f.high in
    ⊎_elim
    (λ four. let k = from_four x y 128 128 four.1 high l m f.after_f0 f.after_f4 (omega arith) (omega arith)
    (omega arith) (omega arith) in
    (k.0, 128 ∷ 128 ∷ [], k.1, k.2))
    (λ below. ⊎_elim
    (λ three. let k = from_three x y 128 three.1 (omega arith) l m f.after_e0 f.after_ed (omega arith) (omega arith) in
    (k.0, 128 ∷ [], k.1, k.2))
    (λ two. let k = from_two x y (range_low 194 244 x h) (omega arith) l m in (k.0, [], k.1, k.2))
    (leb_tells 224 x))
    (leb_tells 240 x)

complete_one : (x : ℕ) → is_in_range 194 244 x ≡ true → BeginsOneChar (x ∷ [])
complete_one x h =
    let y = follower x in
    let k = complete_two x y.0 h y.1 in
    (k.0, y.0 ∷ k.1, k.2, k.3)

complete_three : (x y z : ℕ) → is_in_range 194 244 x ≡ true → MayFollow x y → is_in_range 128 191 z ≡ true →
    StartsWithNoChar (x ∷ y ∷ z ∷ []) → BeginsOneChar (x ∷ y ∷ z ∷ [])
complete_three x y z h f g none =
    let high = range_high 194 244 x h in
    let least = range_low 128 191 z g in
    let most = range_high 128 191 z g in
    let l = f.low in
    let m = f.high in
    ⊎_elim
    (λ four. let k = from_four x y z 128 four.1 high l m f.after_f0 f.after_f4 least most (omega arith) (omega arith) in
    (k.0, 128 ∷ [], k.1, k.2))
    (λ below. ⊎_elim
    (λ three. let k = from_three x y z three.1 (omega arith) l m f.after_e0 f.after_ed least most in
    (k.0, [], k.1, k.2))
    (λ two. let k = from_two x y (range_low 194 244 x h) (omega arith) l m in
    absurd (none k.0 (z ∷ []) k.1 (sym (ap (λ s. s ++ z ∷ []) k.2))))
    (leb_tells 224 x))
    (leb_tells 240 x)

-- Bytes that begin no character, with no fault among them, are the front of one.
pub completed : (bytes : List ℕ) → 0 < length bytes → utf8_error_len bytes ≡ None → StartsWithNoChar bytes →
    BeginsOneChar bytes
completed [] some h none = absurd (omega arith)
completed (x ∷ []) some h none = complete_one x (first_of_one x h)
completed (x ∷ y ∷ []) some h none = let t = two_in_range x y h in complete_two x y t.0 t.1
completed (x ∷ y ∷ z ∷ []) some h none = let t = three_in_range x y z h in complete_three x y z t.0 t.1 t.2 none
completed (x ∷ y ∷ z ∷ w ∷ bytes) some h none = absurd (four_at_fault x y z w bytes h)
