-- What the operations do to the slots of one word.
use Rattle.text_model.proofs.Common.{◌≡◌, ℕ, ◌+◌, ◌*◌, ◌/◌, ◌%◌, ◌^◌, ◌<◌, ◌≢◌, Bool, true, false, not, ◌&&◌, ◌||◌}
use Rattle.text_model.proofs.Common.{nat_lt, nat_eq, ◌==◌, List, length, slice_index, slice_set, bit_and, bit_xor, refl}
use Rattle.text_model.proofs.Common.{sym, ap, ap₂, ◌∙◌, arith, w64, inl, inr, get_or-set_same, get_or-set_other}
use Rattle.text_model.proofs.Common.{cases_eq, nat_tests, one_shl, bit_at-zero, bit_at_clear_same, bit_at_clear_other}
use Rattle.text_model.proofs.Common.{bit_at-pow_same, bit_at-pow_other, shr_and_one, nat_cmp_total, unsigned_tied}
use Rattle.text_model.proofs.Common.{bit_at, bit_not, nat_cmp, AreBits, IsOneWord, alone, in_word, slots_in, word_bits}
use Rattle.text_model.proofs.Common.{word_index, alone-other, alone-same, contains-slots_in, word_bits-slots_in}
use Rattle.text_model.proofs.Common.{word_index-slots_in, differing, contains_inserted, contains-slots_below}
use Rattle.text_model.proofs.Common.{word_of_bits, has_bit, slot_count, slots_of, WORDS}
use Rattle.std.specs.Int.Bits.{xor_zero_r}
use Rattle.text_model.proofs.TagSteps.{slots_of-differing}
use Rattle.std.specs.FinSet as set

pub same_slots : (s t : set.FinSet nat_cmp) → ((q : ℕ) → set.contains s q ≡ set.contains t q) → s ≡ t
same_slots = set.same_set nat_cmp_total set.nat_cmp-IsAntisymmetric

first_holds : (q word : ℕ) (t : Bool) → ((q / 64 == word) && t) ≡ true → q / 64 ≡ word
first_holds q word true is = grind (arith, nat_tests)
first_holds q word false is = grind (arith, nat_tests)

-- they are slots of one word
pub one_word : (word bits : ℕ) → AreBits word bits → IsOneWord (slots_in word bits)
one_word word bits are = record {
  within = rw (word_index-slots_in word bits are) are.within;
  own = λ q has. first_holds q word (bit_at bits (q % 64) == 1) (sym (contains-slots_in word bits q are.within) ∙ has)
      ∙ sym (word_index-slots_in word bits are);
}

-- no slots
nothing_set : (x : ℕ) (b : Bool) → x ≡ 0 → (b && (x == 1)) ≡ false
nothing_set x true is = grind (arith, nat_tests)
nothing_set x false is = refl

pub slots_in-none : (word bits : ℕ) → word < WORDS → bits ≡ 0 → slots_in word bits ≡ set.empty
slots_in-none word bits within none =
    same_slots _ _ (λ q. contains-slots_in word bits q within
    ∙ nothing_set (bit_at bits (q % 64)) (q / 64 == word) (ap (λ n. bit_at n (q % 64)) none ∙ bit_at-zero (q % 64))
    ∙ sym (set.contains-empty nat_cmp q))

none_there : (i : ℕ) → (bit_at 0 i == 1) ≡ false
none_there i = ap (λ x. x == 1) (bit_at-zero i)

-- a word has no bits where the set has none of its slots
pub no_word_bits : (word : ℕ) (slots : set.FinSet nat_cmp) →
    ((q : ℕ) → q / 64 ≡ word → set.contains slots q ≡ false) → word_bits word slots ≡ 0
no_word_bits word slots none =
    word_of_bits 64 slots (64 * word) 0 (λ i small. none (64 * word + i) (omega arith) ∙ sym (none_there i))

pub bits-none : (word bits : ℕ) → AreBits word bits → slots_in word bits ≡ set.empty → bits ≡ 0
bits-none word bits are none =
    sym (word_bits-slots_in word bits are)
    ∙ no_word_bits (word_index (slots_in word bits)) (slots_in word bits)
    (λ q here. ap (λ s. set.contains s q) none ∙ set.contains-empty nat_cmp q)

-- the test of a slot
test_here : (q word : ℕ) (t : Bool) → q / 64 ≡ word → t ≡ ((q / 64 == word) && t)
test_here q word t here = grind (arith, nat_tests)

test_elsewhere : (q word : ℕ) (t : Bool) → q / 64 ≢ word → nat_eq (q / 64) word ≡ ((q / 64 == word) && t)
test_elsewhere q word t other = grind (arith, nat_tests)

pub found_here : (word bits k : ℕ) → word < WORDS → k / 64 ≡ word →
    nat_eq (bit_and (bits / 2 ^ (k % 64)) 1) 1 ≡ set.contains (slots_in word bits) k
found_here word bits k within here =
    ap (λ t. nat_eq t 1) (shr_and_one bits (k % 64)) ∙ test_here k word (bit_at bits (k % 64) == 1) here
    ∙ sym (contains-slots_in word bits k within)

pub not_found : (word bits k : ℕ) → word < WORDS → k / 64 ≢ word →
    nat_eq (k / 64) word ≡ set.contains (slots_in word bits) k
not_found word bits k within other =
    test_elsewhere k word (bit_at bits (k % 64) == 1) other ∙ sym (contains-slots_in word bits k within)

-- one slot
bit_set : (i j : ℕ) → i < 64 → (bit_at (1 * 2 ^ i % 2 ^ 64) j == 1) ≡ (j == i)
bit_set i j small =
    ap (λ n. bit_at n j == 1) (one_shl i 64 small)
    ∙ elim (cases_eq j i) [
      | inl same ↦ ap (λ n. bit_at (2 ^ i) n == 1) same ∙ ap (λ x. x == 1) (bit_at-pow_same i) ∙ is_same i j same
      | inr other ↦ ap (λ x. x == 1) (bit_at-pow_other i j other) ∙ is_other i j other
    ]
  where
    is_same : (i j : ℕ) → j ≡ i → true ≡ (j == i)
    is_same i j same = grind (arith, nat_tests)

    is_other : (i j : ℕ) → j ≢ i → false ≡ (j == i)
    is_other i j other = grind (arith, nat_tests)

same_place : (q k : ℕ) → ((q / 64 == k / 64) && (q % 64 == k % 64)) ≡ (q == k || false)
same_place q k = grind (arith, nat_tests)

pub one_slot : (k : ℕ) → k < slot_count → slots_in (k / 64) (1 * 2 ^ (k % 64) % 2 ^ 64) ≡ set.insert set.empty k
one_slot k below =
    same_slots _ _ (λ q. contains-slots_in (k / 64) (1 * 2 ^ (k % 64) % 2 ^ 64) q (omega arith)
    ∙ ap (λ b. (q / 64 == k / 64) && b) (bit_set (k % 64) (q % 64) (omega arith))
    ∙ same_place q k
    ∙ sym (contains_inserted set.empty k q ∙ ap (λ b. q == k || b) (set.contains-empty nat_cmp q)))

-- a slot less
cleared_here : (q k word x : ℕ) (h : Bool) → q % 64 ≡ k % 64 → k / 64 ≡ word → x ≡ 0 →
    ((q / 64 == word) && (x == 1)) ≡ (not (q == k) && ((q / 64 == word) && h))
cleared_here q k word x h same here none = grind (arith, nat_tests)

cleared_elsewhere : (q k word x y : ℕ) → q % 64 ≢ k % 64 → x ≡ y →
    ((q / 64 == word) && (x == 1)) ≡ (not (q == k) && ((q / 64 == word) && (y == 1)))
cleared_elsewhere q k word x y other same = grind (arith, nat_tests)

pub contains-removed : (s : set.FinSet nat_cmp) (k q : ℕ) → set.contains (set.remove s k) q
    ≡ (not (q == k) && set.contains s q)
contains-removed s k q =
    set.contains-remove nat_cmp_total s k q ∙ ap (λ t. not t && set.contains s q) (unsigned_tied q k)

pub slot_cleared : (word bits k : ℕ) → word < WORDS → k / 64 ≡ word →
    slots_in word (bit_and bits (bit_not w64 (1 * 2 ^ (k % 64) % 2 ^ 64))) ≡ set.remove (slots_in word bits) k
slot_cleared word bits k within here =
    let new = bit_and bits (bit_not w64 (1 * 2 ^ (k % 64) % 2 ^ 64)) in
    same_slots _ _ (λ q.
    contains-slots_in word new q within
    ∙ elim (cases_eq (q % 64) (k % 64)) [
      | inl same ↦
          cleared_here q k word (bit_at new (q % 64)) (bit_at bits (q % 64) == 1) same here
          (ap (bit_at new) same ∙ bit_at_clear_same w64 bits (k % 64) (omega arith))
      | inr other ↦
          cleared_elsewhere q k word (bit_at new (q % 64)) (bit_at bits (q % 64)) other
          (bit_at_clear_other w64 bits (k % 64) (omega arith) (q % 64) (omega arith) other)
    ]
    ∙ sym (contains-removed (slots_in word bits) k q
    ∙ ap (λ b. not (q == k) && b) (contains-slots_in word bits q within)))

kept_elsewhere : (q k word : ℕ) (t : Bool) → k / 64 ≢ word →
    ((q / 64 == word) && t) ≡ (not (q == k) && ((q / 64 == word) && t))
kept_elsewhere q k word t other = grind (arith, nat_tests)

pub slot_kept : (word bits k : ℕ) → word < WORDS → k / 64 ≢ word →
    slots_in word bits ≡ set.remove (slots_in word bits) k
slot_kept word bits k within other =
    same_slots _ _ (λ q.
    let test = contains-slots_in word bits q within in
    test ∙ kept_elsewhere q k word (bit_at bits (q % 64) == 1) other
    ∙ sym (contains-removed (slots_in word bits) k q ∙ ap (λ b. not (q == k) && b) test))

-- the bits in which words differ
alone-differing : (word a b i : ℕ) → word < WORDS →
    slice_index (alone word (bit_xor a b)) i ≡ bit_xor (slice_index (alone word a) i) (slice_index (alone word b) i)
alone-differing word a b i within =
    elim (cases_eq i word) [
      | inl here ↦
          ap (slice_index (alone word (bit_xor a b))) here ∙ alone-same word (bit_xor a b) within
          ∙ sym (ap₂ bit_xor (ap (slice_index (alone word a)) here ∙ alone-same word a within)
          (ap (slice_index (alone word b)) here ∙ alone-same word b within))
      | inr other ↦
          alone-other word (bit_xor a b) i other
          ∙ sym (ap₂ bit_xor (alone-other word a i other) (alone-other word b i other))
    ]

pub slots_in-differing : (word a b : ℕ) → word < WORDS →
    slots_in word (bit_xor a b) ≡ differing (slots_in word a) (slots_in word b)
slots_in-differing word a b within = slots_of-differing (alone word a) (alone word b) (alone word (bit_xor a b)) (λ i _.
    alone-differing word a b i within)

-- one word of a list turned
pub turned-word : (words : List ℕ) (word bits : ℕ) → word < length words → word < WORDS → (i : ℕ) →
    slice_index (slice_set words word (bit_xor (slice_index words word) bits)) i
    ≡ bit_xor (slice_index words i) (slice_index (alone word bits) i)
turned-word words word bits long within i =
    let new = bit_xor (slice_index words word) bits in
    elim (cases_eq i word) [
      | inl here ↦
          ap (slice_index (slice_set words word new)) here ∙ get_or-set_same words word new 0 long
          ∙ sym (ap₂ bit_xor (ap (slice_index words) here)
          (ap (slice_index (alone word bits)) here ∙ alone-same word bits within))
      | inr other ↦
          get_or-set_other words word i new 0 other
          ∙ sym (ap (bit_xor (slice_index words i)) (alone-other word bits i other) ∙ xor_zero_r (slice_index words i))
    ]

pub slots_of-turned : (words : List ℕ) (word bits : ℕ) → word < length words → word < WORDS →
    slots_of (slice_set words word (bit_xor (slice_index words word) bits))
    ≡ differing (slots_of words) (slots_in word bits)
slots_of-turned words word bits long within =
    slots_of-differing words (alone word bits) (slice_set words word (bit_xor (slice_index words word) bits))
    (λ i _. turned-word words word bits long within i)

-- the slots of a set in one word
in_order : (q word : ℕ) (t : Bool) → word < WORDS → ((q / 64 == word) && t) ≡ ((nat_lt q slot_count && t) && (q / 64 == word))
in_order q word true within = grind (arith, nat_tests)
in_order q word false within = grind (arith, nat_tests)

pub contains-in_word : (word : ℕ) (slots : set.FinSet nat_cmp) (q : ℕ) →
    set.contains (in_word word slots) q ≡ (set.contains slots q && (q / 64 == word))
contains-in_word word slots q =
    set.contains-retain slots (λ slot. slot / 64 == word) q
    (λ x tied. ap (λ n. n / 64 == word) (sym (set.nat_cmp-IsAntisymmetric q x tied)))

moved_bit : (words : List ℕ) (word q : ℕ) → ((q / 64 == word) && (bit_at (slice_index words word) (q % 64) == 1))
    ≡ ((q / 64 == word) && has_bit words q)
moved_bit words word q =
    elim (cases_eq (q / 64) word) [
      | inl here ↦ ap (λ n. (q / 64 == word) && (bit_at (slice_index words n) (q % 64) == 1)) (sym here)
      | inr other ↦ elsewhere q word (bit_at (slice_index words word) (q % 64) == 1) (has_bit words q) other
    ]
  where
    elsewhere : (q word : ℕ) (s t : Bool) → q / 64 ≢ word → ((q / 64 == word) && s) ≡ ((q / 64 == word) && t)
    elsewhere q word s t other = grind (arith, nat_tests)

pub slots_of-word : (words : List ℕ) (word : ℕ) → word < WORDS →
    slots_in word (slice_index words word) ≡ in_word word (slots_of words)
slots_of-word words word within =
    same_slots _ _ (λ q.
    contains-slots_in word (slice_index words word) q within ∙ moved_bit words word q
    ∙ in_order q word (has_bit words q) within
    ∙ sym (contains-in_word word (slots_of words) q
    ∙ ap (λ b. b && (q / 64 == word)) (contains-slots_below slot_count words q)))
