-- Which slots are those of words, and that the slots give the words back.
use Rattle.std.proofs.Common.{◌≡◌, ℕ, zero, suc, ◌+◌, ◌*◌, ◌/◌, ◌%◌, ◌^◌, ◌<◌, Bool, true, false, cond, ◌&&◌, ◌||◌}
use Rattle.std.proofs.Common.{nat_lt, ◌==◌, List, slice_index, sym, ap, ap₂, ◌∙◌, arith, le-ltb, lt-ltb, mod-eq_of_lt}
use Rattle.std.proofs.lemmas.List.FromFn.{fill_by_all}
use Rattle.std.proofs.lemmas.Bool.Decides.{nat_tests}
use Rattle.std.proofs.lemmas.Nat.{mod-pow-add}
use Rattle.std.proofs.lemmas.Nat.Bits.{bit_at-lt}
use Rattle.std.specs.Cmp.{nat_cmp_total, unsigned_tied}
use Rattle.std.specs.FinSet as set
use Rattle.std.specs.Int.{bit_at}
use Rattle.std.specs.Ordering.{nat_cmp}
use Rattle.text_model.specs.declared.tag_set.TheConstants.{WORDS}
use Rattle.text_model.specs.TagBits.{AreWords, has_bit, slot_count, slots_below, slots_of, word_below, words_of}

-- what an inserted slot adds, in the words of a test of numbers
pub contains_inserted : (slots : set.FinSet nat_cmp) (k q : ℕ) →
    set.contains (set.insert slots k) q ≡ (q == k || set.contains slots q)
contains_inserted slots k q =
    set.contains-insert nat_cmp_total slots k q ∙ ap (λ b. b || set.contains slots q) (unsigned_tied q k)

one_more : (b h : Bool) (slots : set.FinSet nat_cmp) (n q : ℕ) → (q ≡ n → h ≡ b) →
    set.contains slots q ≡ (nat_lt q n && h) → set.contains (cond b (set.insert slots n) slots) q
    ≡ (nat_lt q (suc n) && h)
one_more true h slots n q same before = grind (arith, nat_tests, contains_inserted slots n q)
one_more false h slots n q same before = grind (arith, nat_tests)

-- a slot below n is among them where its bit is set
pub contains-slots_below : (n : ℕ) (words : List ℕ) (q : ℕ) →
    set.contains (slots_below n words) q ≡ (nat_lt q n && has_bit words q)
unfolding slots_below
contains-slots_below zero words q =
    set.contains-empty nat_cmp q ∙ ap (λ b. b && has_bit words q) (sym (le-ltb q 0 (omega arith)))
contains-slots_below (suc n) words q =
    one_more (has_bit words n) (has_bit words q) _ n q (λ e. ap (has_bit words) e) (contains-slots_below n words q)

as_digit : (b : Bool) (t : ℕ) → t < 2 → b ≡ (t == 1) → cond b 1 0 ≡ t
as_digit true t small is = grind (arith, nat_tests)
as_digit false t small is = grind (arith, nat_tests)

-- where bit i of a word says whether slot from + i is in the set, the set gives the word back
pub word_of_bits : (n : ℕ) (slots : set.FinSet nat_cmp) (from word : ℕ) →
    ((i : ℕ) → i < n → set.contains slots (from + i) ≡ (bit_at word i == 1)) → word_below n slots from ≡ word % 2 ^ n
unfolding word_below
word_of_bits zero slots from word bits = omega arith
word_of_bits (suc n) slots from word bits =
    ap₂ (λ x y. x * 2 ^ n + y) (as_digit _ (bit_at word n) (bit_at-lt word n) (bits n (omega arith)))
    (word_of_bits n slots from word (λ i below. bits i (omega arith)))
    ∙ sym (mod-pow-add word 1 n)
    ∙ ap (λ k. word % 2 ^ k) (omega arith)

bit_of_word : (words : List ℕ) (i j : ℕ) → i < WORDS → j < 64 →
    set.contains (slots_of words) (64 * i + j) ≡ (bit_at (slice_index words i) j == 1)
bit_of_word words i j small below =
    let k = 64 * i + j in
    let row : k / 64 ≡ i = omega arith in
    let column : k % 64 ≡ j = omega arith in
    contains-slots_below slot_count words k
    ∙ ap (λ b. b && has_bit words k) (lt-ltb k slot_count (omega arith))
    ∙ ap₂ (λ r c. bit_at (slice_index words r) c == 1) row column

pub word_of_slots : (words : List ℕ) → AreWords words → (i : ℕ) → i < WORDS →
    word_below 64 (slots_of words) (64 * i) ≡ slice_index words i
word_of_slots words are i small = word_of_bits 64 (slots_of words) (64 * i) (slice_index words i) (λ j below.
    bit_of_word words i j small below) ∙ mod-eq_of_lt (are.each i small)

-- words of 64 bits are those of their slots
pub words_of-slots_of : (words : List ℕ) → AreWords words → words_of (slots_of words) ≡ words
words_of-slots_of words are =
    sym (fill_by_all (λ i. word_below 64 (slots_of words) (64 * i)) words WORDS 0 are.count (λ i small.
    sym (word_of_slots words are i small)))
