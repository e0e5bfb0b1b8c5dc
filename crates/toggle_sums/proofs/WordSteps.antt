-- What the operations do to words, and so to the slots: zeros, one bit, and two lists of words bit by bit.
use Rattle.toggle_sums.proofs.Common.{◌≡◌, ◌≢◌, ℕ, zero, suc, ◌+◌, ◌*◌, ◌/◌, ◌%◌, ◌^◌, ◌<◌, ◌≤◌, max, Bool, true, false}
use Rattle.toggle_sums.proofs.Common.{◌&&◌, ◌||◌, not, cond, nat_lt, nat_eq, ◌==◌, List, length, replicate, slice_index}
use Rattle.toggle_sums.proofs.Common.{slice_set, bit_and, bit_or, bit_xor, refl, sym, ap, ap₂, ◌∙◌, arith, w64, inl}
use Rattle.toggle_sums.proofs.Common.{inr, lt-ltb, mod-eq_of_lt, length-set, get_or-set_same, get_or-set_other}
use Rattle.toggle_sums.proofs.Common.{cases_eq, cases_lt, nat_tests, length-replicate, or_lt, xor_lt, nat_cmp_total}
use Rattle.toggle_sums.proofs.Common.{nat_cmp, or_zero_r, alone, slots_in, alone-other, alone-same, differing, EndBy}
use Rattle.toggle_sums.proofs.Common.{has_bit, WORDS, contains-differing, either, same_slots, AreWords, slots_of}
use Rattle.toggle_sums.proofs.Common.{words_of, words_of-slots_of}
use Rattle.std.proofs.lemmas.Nat.Bits.{bit_at-lt, bit_at-zero, bit_at_or, bit_at_xor, bit_at_set_same, bit_at_set_other}
use Rattle.std.proofs.lemmas.Nat.Bits.{bit_at-pow_same, bit_at-pow_other, shr_and_one}
use Rattle.std.proofs.Math.Pow.{pow-lt}
use Rattle.std.specs.Int.{bit_at}
use Rattle.text_model.specs.TagBitLaws.{contains_inserted, contains-slots_below}
use Rattle.text_model.proofs.TagSteps.{has_bit-with_word, with_word}
use Rattle.std.specs.FinSet as set

-- ---- zeros
pub zeros_at : (count i : ℕ) → slice_index (replicate count 0) i ≡ 0
zeros_at zero i = refl
zeros_at (suc count) zero = refl
zeros_at (suc count) (suc i) = zeros_at count i

pub AreWords-zeros : (count : ℕ) → AreWords count (replicate count 0)
AreWords-zeros count = record {
  long = length-replicate count 0;
  each = λ i small. rw (zeros_at count i) (omega arith);
}

not_one : (x : ℕ) (b : Bool) → x ≡ 0 → (b && (x == 1)) ≡ false
not_one x true e = grind (arith, nat_tests)
not_one x false e = refl

-- words without bits have no slots
pub slots_of-none : (count : ℕ) (words : List ℕ) → EndBy 0 words → slots_of count words ≡ set.empty
slots_of-none count words none =
    same_slots _ _ (λ q.
    contains-slots_below (64 * count) words q
    ∙ not_one (bit_at (slice_index words (q / 64)) (q % 64)) (nat_lt q (64 * count))
    (ap (λ w. bit_at w (q % 64)) (none (q / 64) (omega arith)) ∙ bit_at-zero (q % 64))
    ∙ sym (set.contains-empty nat_cmp q))

pub slots_of-zeros : (count : ℕ) → slots_of count (replicate count 0) ≡ set.empty
slots_of-zeros count = slots_of-none count (replicate count 0) (λ k _. zeros_at count k)

pub slots_in-none : (word : ℕ) → word < WORDS → slots_in word 0 ≡ set.empty
slots_in-none word within =
    slots_of-none WORDS (alone word 0) (λ k _. elim (cases_eq k word) [
      | inl here ↦ rw here (alone-same word 0 within)
      | inr other ↦ alone-other word 0 k other
    ])

-- the test `(word >> i) & 1` finds the slot
pub found_bit : (count : ℕ) (words : List ℕ) (k : ℕ) → k < 64 * count →
    nat_eq (bit_and (slice_index words (k / 64) / 2 ^ (k % 64)) 1) 1 ≡ set.contains (slots_of count words) k
found_bit count words k below =
    ap (λ t. nat_eq t 1) (shr_and_one (slice_index words (k / 64)) (k % 64))
    ∙ sym (contains-slots_below (64 * count) words k ∙ ap (λ b. b && has_bit words k) (lt-ltb k (64 * count) below))

-- ---- two lists of words, word by word
pub record SoFar (f : ℕ → ℕ → ℕ) (first second words : List ℕ) (count index : ℕ) : Type 0 where
  pub long : length words ≡ count
  pub seen : (k : ℕ) → k < index → slice_index words k ≡ f (slice_index first k) (slice_index second k)
  pub rest : (k : ℕ) → index ≤ k → slice_index words k ≡ slice_index first k

pub SoFar-more : (f : ℕ → ℕ → ℕ) (first second words : List ℕ) (count index : ℕ) → index < count →
    SoFar f first second words count index
    → SoFar f first second (slice_set words index (f (slice_index words index) (slice_index second index))) count
    (index + 1)
SoFar-more f first second words count index within so_far =
    let new = f (slice_index words index) (slice_index second index) in
    record {
      long = length-set words index new ∙ so_far.long;
      seen = λ k below. elim (cases_eq k index) [
        | inl here ↦ rw (here, get_or-set_same words index new 0 (rw so_far.long within))
            (ap (λ w. f w (slice_index second index)) (so_far.rest index (omega arith)))
        | inr elsewhere ↦ rw (get_or-set_other words index k new 0 elsewhere) (so_far.seen k (omega arith))
      ];
      rest = λ k above. rw (get_or-set_other words index k new 0 (omega arith)) (so_far.rest k (omega arith));
    }

-- where the others end, nothing is left to do
pub SoFar-all : (f : ℕ → ℕ → ℕ) → ((x : ℕ) → f x 0 ≡ x) → (first second words : List ℕ) (count index used : ℕ) →
    EndBy used second → used ≤ index → SoFar f first second words count index →
    (k : ℕ) → slice_index words k ≡ f (slice_index first k) (slice_index second k)
SoFar-all f none first second words count index used ends done so_far k =
    elim (cases_lt k index) [
      | inl below ↦ so_far.seen k below
      | inr past ↦ so_far.rest k past ∙ sym (ap (f (slice_index first k)) (ends k (omega arith))
          ∙ none (slice_index first k))
    ]

in_reach : (n q : ℕ) (a b : Bool) → (q < n → a ≡ b) → (nat_lt q n && a) ≡ (nat_lt q n && b)
in_reach n q a b same = grind (arith, nat_tests)

one_of_both : (x y : ℕ) → x < 2 → y < 2 → ((x + y) % 2 == 1) ≡ either (x == 1) (y == 1)
one_of_both x y small below = grind (arith, nat_tests)

either_in_reach : (r a b : Bool) → (r && either a b) ≡ either (r && a) (r && b)
either_in_reach true a b = refl
either_in_reach false a b = refl

-- words that differ in some bits: those slots
pub slots_of-differing : (count : ℕ) (a b c : List ℕ) →
    ((i : ℕ) → i < count → slice_index c i ≡ bit_xor (slice_index a i) (slice_index b i))
    → slots_of count c ≡ differing (slots_of count a) (slots_of count b)
slots_of-differing count a b c words =
    let n = 64 * count in
    same_slots _ _ (λ q.
    let x = slice_index a (q / 64) in
    let y = slice_index b (q / 64) in
    let i = q % 64 in
    contains-slots_below n c q
    ∙ in_reach n q (has_bit c q) (either (has_bit a q) (has_bit b q)) (λ below.
    ap (λ w. bit_at w i == 1) (words (q / 64) (omega arith)) ∙ ap (λ t. t == 1) (bit_at_xor x y i)
    ∙ one_of_both (bit_at x i) (bit_at y i) (bit_at-lt x i) (bit_at-lt y i))
    ∙ either_in_reach (nat_lt q n) (has_bit a q) (has_bit b q)
    ∙ sym (contains-differing (slots_of count a) (slots_of count b) q
    ∙ ap₂ either (contains-slots_below n a q) (contains-slots_below n b q)))

one_at_least : (x y : ℕ) → x < 2 → y < 2 → (max x y == 1) ≡ ((x == 1) || (y == 1))
one_at_least x y small below = grind (arith, nat_tests)

or_in_reach : (r a b : Bool) → (r && (a || b)) ≡ ((r && a) || (r && b))
or_in_reach true a b = refl
or_in_reach false a b = refl

-- the bits of both: the slots of both
pub slots_of-joined : (count : ℕ) (a b c : List ℕ) →
    ((i : ℕ) → i < count → slice_index c i ≡ bit_or (slice_index a i) (slice_index b i))
    → slots_of count c ≡ set.union (slots_of count a) (slots_of count b)
slots_of-joined count a b c words =
    let n = 64 * count in
    same_slots _ _ (λ q.
    let x = slice_index a (q / 64) in
    let y = slice_index b (q / 64) in
    let i = q % 64 in
    contains-slots_below n c q
    ∙ in_reach n q (has_bit c q) (has_bit a q || has_bit b q) (λ below.
    ap (λ w. bit_at w i == 1) (words (q / 64) (omega arith)) ∙ ap (λ t. t == 1) (bit_at_or x y i)
    ∙ one_at_least (bit_at x i) (bit_at y i) (bit_at-lt x i) (bit_at-lt y i))
    ∙ or_in_reach (nat_lt q n) (has_bit a q) (has_bit b q)
    ∙ sym (set.contains-union nat_cmp_total (slots_of count a) (slots_of count b) q
    ∙ ap₂ (λ s t. s || t) (contains-slots_below n a q) (contains-slots_below n b q)))

pub AreWords-joined : (count : ℕ) (a b c : List ℕ) → AreWords count a →
    ((i : ℕ) → i < count → slice_index b i < 2 ^ 64) → length c ≡ count →
    ((i : ℕ) → i < count → slice_index c i ≡ bit_or (slice_index a i) (slice_index b i)) → AreWords count c
AreWords-joined count a b c first second long words = record {
  long = long;
  each = λ i within. rw (words i within) (or_lt 64 (slice_index a i) (slice_index b i) (first.each i within)
      (second i within));
}

pub AreWords-differing : (count : ℕ) (a b c : List ℕ) → AreWords count a →
    ((i : ℕ) → i < count → slice_index b i < 2 ^ 64) → length c ≡ count →
    ((i : ℕ) → i < count → slice_index c i ≡ bit_xor (slice_index a i) (slice_index b i)) → AreWords count c
AreWords-differing count a b c first second long words = record {
  long = long;
  each = λ i within. rw (words i within) (xor_lt 64 (slice_index a i) (slice_index b i) (first.each i within)
      (second i within));
}

-- ---- one bit
-- the bit of a slot, as the code makes it, and the word with it
abbrev pub bit_of : ℕ → ℕ
bit_of k = 1 * 2 ^ (k % 64) % 2 ^ 64

bit_of-pow : (k : ℕ) → bit_of k ≡ 2 ^ (k % 64)
bit_of-pow k =
    let small : 2 ^ (k % 64) < 2 ^ 64 = pow-lt {i = k % 64} {j = 64} (omega arith) in
    let one : 1 * 2 ^ (k % 64) ≡ 2 ^ (k % 64) = omega arith in
    ap (λ n. n % 2 ^ 64) one ∙ mod-eq_of_lt small

pub AreWords-with_word : (count : ℕ) (words : List ℕ) (k new : ℕ) → AreWords count words → new < 2 ^ 64 →
    AreWords count (with_word words k new)
AreWords-with_word count words k new are small =
    record {
      long = length-set words (k / 64) new ∙ are.long;
      each = λ i within. elim (cases_eq i (k / 64)) [
        | inl here ↦ rw (here, get_or-set_same words (k / 64) new 0 (rw are.long (omega arith))) small
        | inr other ↦ rw (get_or-set_other words (k / 64) i new 0 other) (are.each i within)
      ];
    }

pub AreWords-xor : (count : ℕ) (words : List ℕ) (k : ℕ) → AreWords count words → k < 64 * count →
    AreWords count (with_word words k (bit_xor (slice_index words (k / 64)) (bit_of k)))
AreWords-xor count words k are below =
    AreWords-with_word count words k _ are (xor_lt 64 (slice_index words (k / 64)) (bit_of k)
    (are.each (k / 64) (omega arith)) (omega arith))

pub AreWords-or : (count : ℕ) (words : List ℕ) (k : ℕ) → AreWords count words → k < 64 * count →
    AreWords count (with_word words k (bit_or (slice_index words (k / 64)) (bit_of k)))
AreWords-or count words k are below =
    AreWords-with_word count words k _ are (or_lt 64 (slice_index words (k / 64)) (bit_of k)
    (are.each (k / 64) (omega arith)) (omega arith))

flipped_one : (x : ℕ) → x < 2 → ((x + 1) % 2 == 1) ≡ not (x == 1)
flipped_one x small = grind (arith, nat_tests)

unflipped : (x : ℕ) → x < 2 → (x + 0) % 2 ≡ x
unflipped x small = omega arith

flipped_in_reach : (n k q : ℕ) (b h : Bool) → k < n → (q ≡ k → b ≡ h) →
    (nat_lt q n && cond (q == k) (not b) h) ≡ either (nat_lt q n && h) (q == k || false)
flipped_in_reach n k q true true within same = grind (arith, nat_tests)
flipped_in_reach n k q true false within same = grind (arith, nat_tests)
flipped_in_reach n k q false true within same = grind (arith, nat_tests)
flipped_in_reach n k q false false within same = grind (arith, nat_tests)

set_in_reach : (n k q : ℕ) (h : Bool) → k < n → (nat_lt q n && cond (q == k) true h) ≡ (q == k || (nat_lt q n && h))
set_in_reach n k q h within = grind (arith, nat_tests)

-- to flip the bit of a slot toggles the slot
pub slots_of-xor : (count : ℕ) (words : List ℕ) (k : ℕ) → AreWords count words → k < 64 * count
    → slots_of count (with_word words k (bit_xor (slice_index words (k / 64)) (bit_of k)))
    ≡ differing (slots_of count words) (set.insert set.empty k)
slots_of-xor count words k are below =
    let old = slice_index words (k / 64) in
    let i = k % 64 in
    let n = 64 * count in
    let new = bit_xor old (bit_of k) in
    let within : k / 64 < length words = rw are.long (omega arith) in
    let same : bit_at new i ≡ (bit_at old i + 1) % 2 = bit_at_xor old (bit_of k) i
    ∙ ap (λ x. (bit_at old i + x) % 2) (ap (λ p. bit_at p i) (bit_of-pow k) ∙ bit_at-pow_same i) in
    let other : (j : ℕ) → j < 64 → j ≢ i → bit_at new j ≡ bit_at old j =
    λ j small elsewhere. bit_at_xor old (bit_of k) j
    ∙ ap (λ x. (bit_at old j + x) % 2) (ap (λ p. bit_at p j) (bit_of-pow k) ∙ bit_at-pow_other i j elsewhere)
    ∙ unflipped (bit_at old j) (bit_at-lt old j) in
    same_slots _ _ (λ q.
    contains-slots_below n (with_word words k new) q
    ∙ ap (λ b. nat_lt q n && b) (has_bit-with_word words k new (not (has_bit words k)) within (ap (λ x. x == 1) same
    ∙ flipped_one (bit_at old i) (bit_at-lt old i)) other q)
    ∙ flipped_in_reach n k q (has_bit words k) (has_bit words q) below (λ e. ap (has_bit words) (sym e))
    ∙ sym (contains-differing (slots_of count words) (set.insert set.empty k) q
    ∙ ap₂ either (contains-slots_below n words q) (contains_inserted set.empty k q
    ∙ ap (λ b. q == k || b) (set.contains-empty nat_cmp q))))

-- to set the bit of a slot inserts the slot
pub slots_of-or : (count : ℕ) (words : List ℕ) (k : ℕ) → AreWords count words → k < 64 * count
    → slots_of count (with_word words k (bit_or (slice_index words (k / 64)) (bit_of k)))
    ≡ set.insert (slots_of count words) k
slots_of-or count words k are below =
    let old = slice_index words (k / 64) in
    let n = 64 * count in
    let new = bit_or old (bit_of k) in
    let within : k / 64 < length words = rw are.long (omega arith) in
    let bit = bit_at_set_same w64 old (k % 64) (omega arith) in
    same_slots _ _ (λ q.
    contains-slots_below n (with_word words k new) q
    ∙ ap (λ b. nat_lt q n && b) (has_bit-with_word words k new true within (ap (λ x. x == 1) bit) (λ i small other.
    bit_at_set_other w64 old (k % 64) (omega arith) i other) q)
    ∙ set_in_reach n k q (has_bit words q) below
    ∙ sym (contains_inserted (slots_of count words) k q ∙ ap (λ b. q == k || b) (contains-slots_below n words q)))

-- no bit is set where no slot is
pub zeros_of-slots_of : (count : ℕ) (words : List ℕ) → AreWords count words → slots_of count words ≡ set.empty →
    words ≡ replicate count 0
zeros_of-slots_of count words are none =
    sym (words_of-slots_of count words are)
    ∙ ap (words_of count) (none ∙ sym (slots_of-zeros count))
    ∙ words_of-slots_of count (replicate count 0) (AreWords-zeros count)

-- the same slots are the same words
pub same_words : (count : ℕ) (a b : List ℕ) → AreWords count a → AreWords count b →
    slots_of count a ≡ slots_of count b → a ≡ b
same_words count a b first second same =
    sym (words_of-slots_of count a first) ∙ ap (words_of count) same ∙ words_of-slots_of count b second

-- bits set in one word
pub joined-word : (words : List ℕ) (word bits : ℕ) → word < length words → word < WORDS → (i : ℕ) →
    slice_index (slice_set words word (bit_or (slice_index words word) bits)) i
    ≡ bit_or (slice_index words i) (slice_index (alone word bits) i)
joined-word words word bits long within i =
    let new = bit_or (slice_index words word) bits in
    elim (cases_eq i word) [
      | inl here ↦
          ap (slice_index (slice_set words word new)) here ∙ get_or-set_same words word new 0 long
          ∙ sym (ap₂ bit_or (ap (slice_index words) here)
          (ap (slice_index (alone word bits)) here ∙ alone-same word bits within))
      | inr other ↦
          get_or-set_other words word i new 0 other
          ∙ sym (ap (bit_or (slice_index words i)) (alone-other word bits i other) ∙ or_zero_r (slice_index words i))
    ]
