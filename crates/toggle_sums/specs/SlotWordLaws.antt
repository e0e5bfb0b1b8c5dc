-- The slots of words give the words back.
use Rattle.std.proofs.Common.{◌≡◌, ℕ, zero, suc, ◌+◌, ◌*◌, ◌/◌, ◌%◌, ◌^◌, ◌<◌, Bool, true, false, cond, ◌&&◌, ◌==◌}
use Rattle.std.proofs.Common.{List, slice_index, sym, ap, ap₂, ◌∙◌, arith, lt-ltb, mod-eq_of_lt}
use Rattle.std.proofs.lemmas.List.FromFn.{fill_by_all}
use Rattle.std.proofs.lemmas.Bool.Decides.{nat_tests}
use Rattle.std.proofs.lemmas.Nat.{mod-pow-add}
use Rattle.std.proofs.lemmas.Nat.Bits.{bit_at-lt}
use Rattle.std.specs.FinSet as set
use Rattle.std.specs.Int.{bit_at}
use Rattle.std.specs.Ordering.{nat_cmp}
use Rattle.text_model.specs.TagBits.{has_bit, word_below}
use Rattle.text_model.specs.TagBitLaws.{contains-slots_below}
use Rattle.toggle_sums.specs.SlotWords.{AreUsed, AreWords, last_used, slots_of, words_of}

as_digit : (b : Bool) (t : ℕ) → t < 2 → b ≡ (t == 1) → cond b 1 0 ≡ t
as_digit true t small is = grind (arith, nat_tests)
as_digit false t small is = grind (arith, nat_tests)

-- where bit i of a word says whether slot from + i is in the set, the set gives the word back
pub word_of_bits : (n : ℕ) (slots : set.FinSet nat_cmp) (from word : ℕ) →
    ((i : ℕ) → i < n → set.contains slots (from + i) ≡ (bit_at word i == 1)) → word_below n slots from ≡ word % 2 ^ n
unfolding word_below
word_of_bits zero slots from word bits = omega arith
word_of_bits (suc n) slots from word bits =
    ap₂ (λ x y. x * 2 ^ n + y) (as_digit _ (bit_at word n) (bit_at-lt word n) (bits n (omega arith)))
    (word_of_bits n slots from word (λ i below. bits i (omega arith)))
    ∙ sym (mod-pow-add word 1 n)
    ∙ ap (λ k. word % 2 ^ k) (omega arith)

bit_of_word : (count : ℕ) (words : List ℕ) (i j : ℕ) → i < count → j < 64 →
    set.contains (slots_of count words) (64 * i + j) ≡ (bit_at (slice_index words i) j == 1)
bit_of_word count words i j small below =
    let k = 64 * i + j in
    let row : k / 64 ≡ i = omega arith in
    let column : k % 64 ≡ j = omega arith in
    contains-slots_below (64 * count) words k
    ∙ ap (λ b. b && has_bit words k) (lt-ltb k (64 * count) (omega arith))
    ∙ ap₂ (λ r c. bit_at (slice_index words r) c == 1) row column

word_of_slots : (count : ℕ) (words : List ℕ) → AreWords count words → (i : ℕ) → i < count →
    word_below 64 (slots_of count words) (64 * i) ≡ slice_index words i
word_of_slots count words are i small =
    word_of_bits 64 (slots_of count words) (64 * i) (slice_index words i) (λ j below.
    bit_of_word count words i j small below) ∙ mod-eq_of_lt (are.each i small)

-- words of 64 bits are those of their slots
pub words_of-slots_of : (count : ℕ) (words : List ℕ) → AreWords count words →
    words_of count (slots_of count words) ≡ words
words_of-slots_of count words are =
    sym (fill_by_all (λ i. word_below 64 (slots_of count words) (64 * i)) words count 0 are.long (λ i small.
    sym (word_of_slots count words are i small)))

-- and how many of them are used
pub used_of-slots_of : (count used : ℕ) (first second : List ℕ) → AreUsed count used first second →
    last_used count (words_of count (slots_of count first)) (words_of count (slots_of count second)) ≡ used
used_of-slots_of count used first second are =
    ap₂ (last_used count) (words_of-slots_of count first are.parity) (words_of-slots_of count second are.presence)
    ∙ sym are.used
