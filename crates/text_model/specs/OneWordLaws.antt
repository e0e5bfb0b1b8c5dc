-- The slots of one word give its number and its bits back.
use Rattle.std.proofs.Common.{◌≡◌, ℕ, zero, suc, ◌/◌, ◌%◌, ◌^◌, ◌<◌, ◌≢◌, Bool, true, false, cond, not, ◌&&◌}
use Rattle.std.proofs.Common.{nat_lt, ◌==◌, replicate, slice_index, refl, sym, ap}
use Rattle.std.proofs.Common.{◌∙◌, arith, inl, inr, length-set, get_or-set_same, get_or-set_other}
use Rattle.std.proofs.lemmas.Bool.{cases_eq}
use Rattle.std.proofs.lemmas.Bool.Decides.{nat_tests}
use Rattle.std.proofs.lemmas.List.{length-replicate}
use Rattle.std.proofs.lemmas.Nat.Bits.{bit_at-zero}
use Rattle.std.specs.FinSet as set
use Rattle.std.specs.Int.{bit_at}
use Rattle.std.specs.Ordering.{nat_cmp}
use Rattle.text_model.specs.declared.tag_set.TheConstants.{WORDS}
use Rattle.text_model.specs.OneWord.{AreBits, alone, has_word, last_word, slots_in, word_bits, word_index}
use Rattle.text_model.specs.TagBitLaws.{contains-slots_below, word_of_slots}
use Rattle.text_model.specs.TagBits.{AreWords, slot_count}

zeros_at : (count i : ℕ) → slice_index (replicate count 0) i ≡ 0
zeros_at zero i = refl
zeros_at (suc count) zero = refl
zeros_at (suc count) (suc i) = zeros_at count i

-- the word of them that has the bits, and the others
pub alone-same : (word bits : ℕ) → word < WORDS → slice_index (alone word bits) word ≡ bits
alone-same word bits within =
    get_or-set_same (replicate WORDS 0) word bits 0 (rw (length-replicate {A = ℕ} WORDS 0) within)

pub alone-other : (word bits k : ℕ) → k ≢ word → slice_index (alone word bits) k ≡ 0
alone-other word bits k other = get_or-set_other (replicate WORDS 0) word k bits 0 other ∙ zeros_at WORDS k

pub AreWords-alone : (word bits : ℕ) → word < WORDS → bits < 2 ^ 64 → AreWords (alone word bits)
AreWords-alone word bits within fits = record {
  count = length-set (replicate WORDS 0) word bits ∙ length-replicate {A = ℕ} WORDS 0;
  each = λ i small. elim (cases_eq i word) [
    | inl here ↦ rw (here, alone-same word bits within) fits
    | inr other ↦ rw (alone-other word bits i other) (omega arith)
  ];
}

in_reach : (q word : ℕ) (t : Bool) → word < WORDS → q / 64 ≡ word → (nat_lt q slot_count && t) ≡ ((q / 64 == word) && t)
in_reach q word t within here = grind (arith, nat_tests)

out_of_reach : (q word : ℕ) (x : ℕ) → q / 64 ≢ word → x ≡ 0 →
    (nat_lt q slot_count && (x == 1)) ≡ ((q / 64 == word) && false)
out_of_reach q word x other none = grind (arith, nat_tests)

no_bit : (q word : ℕ) (t : Bool) → q / 64 ≢ word → ((q / 64 == word) && false) ≡ ((q / 64 == word) && t)
no_bit q word t other = grind (arith, nat_tests)

-- a slot is among them where it is in the word and its bit is set
pub contains-slots_in : (word bits q : ℕ) → word < WORDS →
    set.contains (slots_in word bits) q ≡ ((q / 64 == word) && (bit_at bits (q % 64) == 1))
contains-slots_in word bits q within =
    contains-slots_below slot_count (alone word bits) q
    ∙ elim (cases_eq (q / 64) word) [
      | inl here ↦
          ap (λ w. nat_lt q slot_count && (bit_at w (q % 64) == 1))
          (ap (slice_index (alone word bits)) here ∙ alone-same word bits within)
          ∙ in_reach q word (bit_at bits (q % 64) == 1) within here
      | inr other ↦
          out_of_reach q word (bit_at (slice_index (alone word bits) (q / 64)) (q % 64)) other
          (ap (λ w. bit_at w (q % 64)) (alone-other word bits (q / 64) other) ∙ bit_at-zero (q % 64))
          ∙ no_bit q word (bit_at bits (q % 64) == 1) other
    ]

-- the last word that has bits
pub last_word-none : (n : ℕ) (slots : set.FinSet nat_cmp) → ((k : ℕ) → k < n → has_word k slots ≡ false) →
    last_word n slots ≡ 0
unfolding last_word
last_word-none zero slots none = refl
last_word-none (suc n) slots none =
    ap (λ b. cond b n (last_word n slots)) (none n (omega arith))
    ∙ last_word-none n slots (λ k small. none k (omega arith))

pub last_word-one : (n word : ℕ) (slots : set.FinSet nat_cmp) → word < n → has_word word slots ≡ true →
    ((k : ℕ) → k < n → k ≢ word → has_word k slots ≡ false) → last_word n slots ≡ word
unfolding last_word
last_word-one zero word slots within has others = absurd (omega arith)
last_word-one (suc n) word slots within has others =
    elim (cases_eq word n) [
      | inl here ↦
          ap (λ b. cond b n (last_word n slots)) (ap (λ k. has_word k slots) (sym here) ∙ has) ∙ sym here
      | inr other ↦
          ap (λ b. cond b n (last_word n slots)) (others n (omega arith) (λ is. other (sym is)))
          ∙ last_word-one n word slots (omega arith) has (λ k small. others k (omega arith))
    ]

bits_at : (word bits k : ℕ) → word < WORDS → bits < 2 ^ 64 → k < WORDS →
    word_bits k (slots_in word bits) ≡ slice_index (alone word bits) k
bits_at word bits k within fits small = word_of_slots (alone word bits) (AreWords-alone word bits within fits) k small

no_bits : (x : ℕ) → x ≡ 0 → not (x == 0) ≡ false
no_bits x none = grind (arith, nat_tests)

some_bits : (x : ℕ) → x ≢ 0 → not (x == 0) ≡ true
some_bits x some = grind (arith, nat_tests)

pub word_index-slots_in : (word bits : ℕ) → AreBits word bits → word_index (slots_in word bits) ≡ word
word_index-slots_in word bits are =
    let slots = slots_in word bits in
    let others : (k : ℕ) → k < WORDS → k ≢ word → has_word k slots ≡ false = λ k small other.
    no_bits (word_bits k slots) (bits_at word bits k are.within are.fits small ∙ alone-other word bits k other) in
    let own : word_bits word slots ≡ bits = bits_at word bits word are.within are.fits are.within
    ∙ alone-same word bits are.within in
    elim (cases_eq bits 0) [
      | inl none ↦
          last_word-none WORDS slots (λ k small. elim (cases_eq k word) [
            | inl here ↦ ap (λ n. has_word n slots) here ∙ no_bits (word_bits word slots) (own ∙ none)
            | inr other ↦ others k small other
          ]) ∙ sym (are.none none)
      | inr some ↦
          last_word-one WORDS word slots are.within
          (some_bits (word_bits word slots) (λ is. some (sym own ∙ is))) others
    ]

pub word_bits-slots_in : (word bits : ℕ) → AreBits word bits →
    word_bits (word_index (slots_in word bits)) (slots_in word bits) ≡ bits
word_bits-slots_in word bits are =
    ap (λ k. word_bits k (slots_in word bits)) (word_index-slots_in word bits are)
    ∙ bits_at word bits word are.within are.fits are.within ∙ alone-same word bits are.within
