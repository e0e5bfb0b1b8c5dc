-- What the operations do to the words, and so to the slots: zeros, a bit that is set, and bits in common.
use Rattle.text_model.proofs.Common.{◌≡◌, ℕ, zero, suc, ◌+◌, ◌*◌, ◌/◌, ◌%◌, ◌^◌, ◌<◌, ◌≢◌, min, Bool, true, false, ◌&&◌}
use Rattle.text_model.proofs.Common.{◌||◌, not, cond, nat_lt, nat_eq, ◌==◌, List, length, replicate, slice_index}
use Rattle.text_model.proofs.Common.{slice_set, bit_and, bit_or, bit_xor, refl, sym, ap, ap₂, ◌∙◌, arith, w64, inl, inr}
use Rattle.text_model.proofs.Common.{lt-ltb, length-set, get_or-set_same, get_or-set_other, cases_eq, nat_tests}
use Rattle.text_model.proofs.Common.{length-replicate, or_lt, xor_lt, and_le_l, bit_at-lt, bit_at-zero, bit_at_and}
use Rattle.text_model.proofs.Common.{bit_at_xor, bit_at_set_same, bit_at_set_other, bit_at_clear_same}
use Rattle.text_model.proofs.Common.{bit_at_clear_other, shr_and_one, nat_cmp_total, unsigned_tied, bit_at, bit_not}
use Rattle.text_model.proofs.Common.{nat_cmp, contains_inserted, contains-slots_below, words_of-slots_of, differing}
use Rattle.text_model.proofs.Common.{WORDS, AreWords, has_bit, slot_count, slots_below, slots_of, words_of}
use Rattle.std.specs.FinSet as set

not_one : (x : ℕ) (b : Bool) → x ≡ 0 → (b && (x == 1)) ≡ false
not_one x true e = grind (arith, nat_tests)
not_one x false e = refl

zeros_at : (count i : ℕ) → slice_index (replicate count 0) i ≡ 0
zeros_at zero i = refl
zeros_at (suc count) zero = refl
zeros_at (suc count) (suc i) = zeros_at count i

-- zeros hold no slot
pub slots_below-zeros : (n : ℕ) → slots_below n (replicate WORDS 0) ≡ set.empty
slots_below-zeros n =
    let zeros = replicate WORDS 0 in
    set.same_set nat_cmp_total set.nat_cmp-IsAntisymmetric _ _ (λ q. contains-slots_below n zeros q
    ∙ not_one (bit_at (slice_index zeros (q / 64)) (q % 64)) (nat_lt q n)
    (ap (λ w. bit_at w (q % 64)) (zeros_at WORDS (q / 64)) ∙ bit_at-zero (q % 64))
    ∙ sym (set.contains-empty nat_cmp q))

same_place : (k q : ℕ) → q / 64 ≡ k / 64 → q % 64 ≡ k % 64 → q ≡ k
same_place k q row column = omega arith

-- the words with another word in place of the one that holds slot k
abbrev pub with_word : List ℕ → ℕ → ℕ → List ℕ
with_word words k new = slice_set words (k / 64) new

-- they are still words
pub AreWords-with_word : (words : List ℕ) (k new : ℕ) → AreWords words → k < slot_count → new < 2 ^ 64 →
    AreWords (with_word words k new)
AreWords-with_word words k new are below small =
    record {
      count = length-set words (k / 64) new ∙ are.count;
      each = λ i within. elim (cases_eq i (k / 64)) [
        | inl here ↦ rw (here, get_or-set_same words (k / 64) new 0 (rw are.count (omega arith))) small
        | inr other ↦ rw (get_or-set_other words (k / 64) i new 0 other) (are.each i within)
      ];
    }

at_slot : (x : ℕ) (k q : ℕ) (on h : Bool) → q ≡ k → (x == 1) ≡ on → (x == 1) ≡ cond (q == k) on h
at_slot x k q on h same is = grind (arith, nat_tests)

beside_slot : (x y : ℕ) (k q : ℕ) (on : Bool) → q ≢ k → x ≡ y → (x == 1) ≡ cond (q == k) on (y == 1)
beside_slot x y k q on other same = grind (arith, nat_tests)

-- the bit of slot k is that of the new word, and the other bits stay
pub has_bit-with_word : (words : List ℕ) (k new : ℕ) (on : Bool) → k / 64 < length words →
    (bit_at new (k % 64) == 1) ≡ on
    → ((i : ℕ) → i < 64 → i ≢ k % 64 → bit_at new i ≡ bit_at (slice_index words (k / 64)) i)
    → (q : ℕ) → has_bit (with_word words k new) q ≡ cond (q == k) on (has_bit words q)
has_bit-with_word words k new on within is others q =
    elim (cases_eq (q / 64) (k / 64)) [
      | inl row ↦
          let here : slice_index (with_word words k new) (q / 64) ≡ new = ap (slice_index (with_word words k new)) row
          ∙ get_or-set_same words (k / 64) new 0 within in
          elim (cases_eq (q % 64) (k % 64)) [
            | inl column ↦ at_slot _ k q on _ (same_place k q row column) (ap₂ (λ w i. bit_at w i == 1) here column
                ∙ is)
            | inr other ↦ beside_slot _ _ k q on (λ e. other (ap (λ x. x % 64) e)) (ap (λ w. bit_at w (q % 64)) here
                ∙ others (q % 64) (omega arith) other ∙ ap (λ i. bit_at (slice_index words i) (q % 64)) (sym row))
          ]
      | inr other ↦ beside_slot _ _ k q on (λ e. other (ap (λ x. x / 64) e))
          (ap (λ w. bit_at w (q % 64)) (get_or-set_other words (k / 64) (q / 64) new 0 other))
    ]

one_in_reach : (n k q : ℕ) (h : Bool) → k < n → (nat_lt q n && cond (q == k) true h) ≡ (q == k || (nat_lt q n && h))
one_in_reach n k q h within = grind (arith, nat_tests)

none_in_reach : (n k q : ℕ) (h : Bool) → (nat_lt q n && cond (q == k) false h) ≡ (not (q == k) && (nat_lt q n && h))
none_in_reach n k q h = grind (arith, nat_tests)

-- the word of slot k with the slot's bit set, and with it cleared
abbrev pub word_with : List ℕ → ℕ → ℕ
word_with words k = bit_or (slice_index words (k / 64)) (1 * 2 ^ (k % 64) % 2 ^ 64)

abbrev pub word_without : List ℕ → ℕ → ℕ
word_without words k = bit_and (slice_index words (k / 64)) (bit_not w64 (1 * 2 ^ (k % 64) % 2 ^ 64))

pub word_with_lt : (words : List ℕ) (k : ℕ) → AreWords words → k < slot_count → word_with words k < 2 ^ 64
word_with_lt words k are below =
    or_lt 64 (slice_index words (k / 64)) (1 * 2 ^ (k % 64) % 2 ^ 64) (are.each (k / 64) (omega arith)) (omega arith)

pub word_without_lt : (words : List ℕ) (k : ℕ) → AreWords words → k < slot_count → word_without words k < 2 ^ 64
word_without_lt words k are below =
    let old : slice_index words (k / 64) < 2 ^ 64 = are.each (k / 64) (omega arith) in
    omega (arith, and_le_l (slice_index words (k / 64)) (bit_not w64 (1 * 2 ^ (k % 64) % 2 ^ 64)))

-- to set the bit of a slot inserts the slot
pub slots_of-with : (words : List ℕ) (k : ℕ) → AreWords words → k < slot_count →
    slots_of (with_word words k (word_with words k)) ≡ set.insert (slots_of words) k
slots_of-with words k are below =
    let old = slice_index words (k / 64) in
    let within : k / 64 < length words = rw are.count (omega arith) in
    let bit = bit_at_set_same w64 old (k % 64) (omega arith) in
    set.same_set nat_cmp_total set.nat_cmp-IsAntisymmetric _ _ (λ q.
    contains-slots_below slot_count (with_word words k (word_with words k)) q
    ∙ ap (λ b. nat_lt q slot_count && b) (has_bit-with_word words k (word_with words k) true within
    (ap (λ x. x == 1) bit) (λ i small other. bit_at_set_other w64 old (k % 64) (omega arith) i other) q)
    ∙ one_in_reach slot_count k q (has_bit words q) below
    ∙ sym (contains_inserted (slots_of words) k q ∙ ap (λ b. q == k || b) (contains-slots_below slot_count words q)))

-- to clear the bit of a slot takes the slot out
pub slots_of-without : (words : List ℕ) (k : ℕ) → AreWords words → k < slot_count →
    slots_of (with_word words k (word_without words k)) ≡ set.remove (slots_of words) k
slots_of-without words k are below =
    let old = slice_index words (k / 64) in
    let within : k / 64 < length words = rw are.count (omega arith) in
    let bit = bit_at_clear_same w64 old (k % 64) (omega arith) in
    set.same_set nat_cmp_total set.nat_cmp-IsAntisymmetric _ _ (λ q.
    contains-slots_below slot_count (with_word words k (word_without words k)) q
    ∙ ap (λ b. nat_lt q slot_count && b) (has_bit-with_word words k (word_without words k) false within
    (ap (λ x. x == 1) bit) (λ i small other. bit_at_clear_other w64 old (k % 64) (omega arith) i small other) q)
    ∙ none_in_reach slot_count k q (has_bit words q)
    ∙ sym (set.contains-remove nat_cmp_total (slots_of words) k q
    ∙ ap₂ (λ t b. not t && b) (unsigned_tied q k) (contains-slots_below slot_count words q)))

both_one : (x y : ℕ) → x < 2 → y < 2 → (min x y == 1) ≡ ((x == 1) && (y == 1))
both_one x y small below = grind (arith, nat_tests)

both_in_reach : (r a b : Bool) → (r && (a && b)) ≡ ((r && a) && (r && b))
both_in_reach true a b = refl
both_in_reach false a b = refl

has_bit-common : (a b c : List ℕ) → ((i : ℕ) → i < WORDS →
    slice_index c i ≡ bit_and (slice_index a i) (slice_index b i))
    → (q : ℕ) → q / 64 < WORDS → has_bit c q ≡ (has_bit a q && has_bit b q)
has_bit-common a b c common q small =
    let x = slice_index a (q / 64) in
    let y = slice_index b (q / 64) in
    let i = q % 64 in
    ap (λ w. bit_at w i == 1) (common (q / 64) small) ∙ ap (λ t. t == 1) (bit_at_and x y i)
    ∙ both_one (bit_at x i) (bit_at y i) (bit_at-lt x i) (bit_at-lt y i)

pub one_of_both : (x y : ℕ) → x < 2 → y < 2 → ((x + y) % 2 == 1)
    ≡ (((x == 1) && not (y == 1)) || ((y == 1) && not (x == 1)))
one_of_both x y small below = grind (arith, nat_tests)

differing_in_reach : (r a b : Bool) → (r && ((a && not b) || (b && not a)))
    ≡ (((r && a) && not (r && b)) || ((r && b) && not (r && a)))
differing_in_reach true a b = refl
differing_in_reach false a b = refl

pub contains-differing : (s t : set.FinSet nat_cmp) (q : ℕ) →
    set.contains (differing s t) q ≡ ((set.contains s q && not (set.contains t q))
    || (set.contains t q && not (set.contains s q)))
contains-differing s t q =
    set.contains-union nat_cmp_total (set.difference s t) (set.difference t s) q
    ∙ ap₂ (λ a b. a || b) (set.contains-difference nat_cmp_total s t q) (set.contains-difference nat_cmp_total t s q)

in_reach : (n q : ℕ) (a b : Bool) → (q < n → a ≡ b) → (nat_lt q n && a) ≡ (nat_lt q n && b)
in_reach n q a b same = grind (arith, nat_tests)

-- the common bits are those of the common slots
pub slots_of-common : (a b c : List ℕ) → ((i : ℕ) → i < WORDS →
    slice_index c i ≡ bit_and (slice_index a i) (slice_index b i))
    → slots_of c ≡ set.intersection (slots_of a) (slots_of b)
slots_of-common a b c common =
    set.same_set nat_cmp_total set.nat_cmp-IsAntisymmetric _ _ (λ q.
    contains-slots_below slot_count c q
    ∙ in_reach slot_count q _ _ (λ below. has_bit-common a b c common q (omega arith))
    ∙ both_in_reach (nat_lt q slot_count) (has_bit a q) (has_bit b q)
    ∙ sym (set.contains-intersection nat_cmp_total (slots_of a) (slots_of b) q
    ∙ ap₂ (λ s t. s && t) (contains-slots_below slot_count a q) (contains-slots_below slot_count b q)))

-- words that differ in some bits are words
pub AreWords-differing : (a b c : List ℕ) → AreWords a → ((i : ℕ) → i < WORDS → slice_index b i < 2 ^ 64) →
    length c ≡ WORDS → ((i : ℕ) → i < WORDS → slice_index c i ≡ bit_xor (slice_index a i) (slice_index b i))
    → AreWords c
AreWords-differing a b c first second long words = record {
  count = long;
  each = λ i within. rw (words i within)
      (xor_lt 64 (slice_index a i) (slice_index b i) (first.each i within) (second i within));
}

has_bit-differing : (a b c : List ℕ) → ((i : ℕ) → i < WORDS →
    slice_index c i ≡ bit_xor (slice_index a i) (slice_index b i))
    → (q : ℕ) → q / 64 < WORDS → has_bit c q ≡ ((has_bit a q && not (has_bit b q))
    || (has_bit b q && not (has_bit a q)))
has_bit-differing a b c differing_words q small =
    let x = slice_index a (q / 64) in
    let y = slice_index b (q / 64) in
    let i = q % 64 in
    ap (λ w. bit_at w i == 1) (differing_words (q / 64) small) ∙ ap (λ t. t == 1) (bit_at_xor x y i)
    ∙ one_of_both (bit_at x i) (bit_at y i) (bit_at-lt x i) (bit_at-lt y i)

-- the bits in which words differ are those of the slots in which the sets do
pub slots_of-differing : (a b c : List ℕ) → ((i : ℕ) → i < WORDS →
    slice_index c i ≡ bit_xor (slice_index a i) (slice_index b i))
    → slots_of c ≡ differing (slots_of a) (slots_of b)
slots_of-differing a b c words =
    set.same_set nat_cmp_total set.nat_cmp-IsAntisymmetric _ _ (λ q.
    contains-slots_below slot_count c q
    ∙ in_reach slot_count q _ _ (λ below. has_bit-differing a b c words q (omega arith))
    ∙ differing_in_reach (nat_lt q slot_count) (has_bit a q) (has_bit b q)
    ∙ sym (contains-differing (slots_of a) (slots_of b) q
    ∙ ap₂ (λ s t. (s && not t) || (t && not s)) (contains-slots_below slot_count a q)
    (contains-slots_below slot_count b q)))

-- the test `(word >> i) & 1` finds the slot
pub found_bit : (words : List ℕ) (k : ℕ) → k < slot_count →
    nat_eq (bit_and (slice_index words (k / 64) / 2 ^ (k % 64)) 1) 1 ≡ set.contains (slots_of words) k
found_bit words k below = ap (λ t. nat_eq t 1) (shr_and_one (slice_index words (k / 64)) (k % 64))
    ∙ sym (contains-slots_below slot_count words k ∙ ap (λ b. b && has_bit words k) (lt-ltb k slot_count below))

-- no bit is set where no slot is
AreWords-zeros : AreWords (replicate WORDS 0)
AreWords-zeros = record {
  count = length-replicate {A = ℕ} WORDS 0;
  each = λ i within. rw (zeros_at WORDS i) (omega arith);
}

pub zeros_of-slots_of : (words : List ℕ) → AreWords words → slots_of words ≡ set.empty → words ≡ replicate WORDS 0
zeros_of-slots_of words are none =
    sym (words_of-slots_of words are)
    ∙ ap words_of (none ∙ sym (slots_below-zeros slot_count))
    ∙ words_of-slots_of (replicate WORDS 0) AreWords-zeros
