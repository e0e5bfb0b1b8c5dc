-- The slots of sets word by word: in how many words they are, and sets whose slots are in one.
use Rattle.text_model.proofs.Common.{◌≡◌, ℕ, zero, suc, ◌+◌, ◌-◌, ◌*◌, ◌/◌, ◌%◌, ◌^◌, ◌<◌, ◌≤◌, ◌≢◌, Bool, true, false}
use Rattle.text_model.proofs.Common.{not, cond, ◌&&◌, ◌||◌, nat_lt, ◌==◌, List, slice_index, refl, sym, ap, ap₂, subst}
use Rattle.text_model.proofs.Common.{◌∙◌, arith, inl, inr, cases_eq, false≢true, nat_tests, pow_pos, nat_cmp, AreSlots}
use Rattle.text_model.proofs.Common.{IsOneWord, has_word, in_word, word_bits, word_index, word_count, differing}
use Rattle.text_model.proofs.Common.{contains-slots_below, word_of_slots, AreWords, has_bit, slot_count, slots_of}
use Rattle.text_model.proofs.Common.{WORDS}
use Rattle.text_model.specs.OneWord.{words_below}
use Rattle.text_model.specs.TagBits.{word_below}
use Rattle.text_model.proofs.OneWordSteps.{contains-in_word, no_word_bits, same_slots}
use Rattle.text_model.proofs.TagSteps.{contains-differing}
use Rattle.std.specs.FinSet as set

-- where a word has no bits the set has none of its slots
digit_none : (b : Bool) (p w : ℕ) → 0 < p → cond b 1 0 * p + w ≡ 0 → b ≡ false
digit_none true p w pos is = absurd (omega arith)
digit_none false p w pos is = refl

rest_none : (b : Bool) (p w : ℕ) → cond b 1 0 * p + w ≡ 0 → w ≡ 0
rest_none true p w is = omega arith
rest_none false p w is = omega arith

none_below : (n : ℕ) (slots : set.FinSet nat_cmp) (from i : ℕ) → word_below n slots from ≡ 0 → i < n →
    set.contains slots (from + i) ≡ false
unfolding word_below
none_below zero slots from i is small = absurd (omega arith)
none_below (suc n) slots from i is small =
    elim (cases_eq i n) [
      | inl last ↦
          ap (λ k. set.contains slots (from + k)) last
          ∙ digit_none (set.contains slots (from + n)) (2 ^ n) (word_below n slots from) (pow_pos n) is
      | inr other ↦
          none_below n slots from i (rest_none (set.contains slots (from + n)) (2 ^ n) (word_below n slots from) is)
          (omega arith)
    ]

pub no_slots : (word : ℕ) (slots : set.FinSet nat_cmp) (q : ℕ) → word_bits word slots ≡ 0 → q / 64 ≡ word →
    set.contains slots q ≡ false
no_slots word slots q none here =
    let place : q ≡ 64 * word + q % 64 = omega arith in
    ap (set.contains slots) place ∙ none_below 64 slots (64 * word) (q % 64) none (omega arith)

bits_none : (x : ℕ) → not (x == 0) ≡ false → x ≡ 0
bits_none x is = grind (arith, nat_tests)

none_bits : (x : ℕ) → x ≡ 0 → not (x == 0) ≡ false
none_bits x is = grind (arith, nat_tests)

pub has_no : (word : ℕ) (slots : set.FinSet nat_cmp) (q : ℕ) → has_word word slots ≡ false → q / 64 ≡ word →
    set.contains slots q ≡ false
has_no word slots q none here = no_slots word slots q (bits_none (word_bits word slots) none) here

pub hasn't : (word : ℕ) (slots : set.FinSet nat_cmp) → ((q : ℕ) → q / 64 ≡ word → set.contains slots q ≡ false) →
    has_word word slots ≡ false
hasn't word slots none = none_bits (word_bits word slots) (no_word_bits word slots none)

-- the words that have slots, counted
pub words_below-more : (n : ℕ) (slots : set.FinSet nat_cmp) →
    words_below (n + 1) slots ≡ cond (has_word n slots) 1 0 + words_below n slots
unfolding words_below
words_below-more n slots = ap (λ k. words_below k slots) (let one : n + 1 ≡ suc n = omega arith in one)

one_at_most : (b : Bool) → cond b 1 0 ≤ 1
one_at_most true = omega arith
one_at_most false = omega arith

pub words_below-le : (n : ℕ) (slots : set.FinSet nat_cmp) → words_below n slots ≤ n
unfolding words_below
words_below-le zero slots = omega arith
words_below-le (suc n) slots = omega (arith, one_at_most (has_word n slots), words_below-le n slots)

pub words_below-rises : (n more : ℕ) (slots : set.FinSet nat_cmp) → words_below n slots ≤ words_below (n + more) slots
words_below-rises n zero slots =
    let same : n + 0 ≡ n = omega arith in
    subst (λ k. words_below n slots ≤ words_below k slots) (sym same) (omega arith)
words_below-rises n (suc more) slots =
    let next : n + suc more ≡ (n + more) + 1 = omega arith in
    subst (λ k. words_below n slots ≤ words_below k slots) (sym next)
    (omega (arith, words_below-more (n + more) slots, words_below-rises n more slots))

-- a word that has slots counts among those of all words
pub counts_among : (index : ℕ) (slots : set.FinSet nat_cmp) → index < WORDS → has_word index slots ≡ true →
    words_below index slots < word_count slots
counts_among index slots within has =
    let all : index + 1 + (WORDS - (index + 1)) ≡ WORDS = omega arith in
    let one : cond (has_word index slots) 1 0 ≡ 1 = ap {B = ℕ} (λ b. cond b 1 0) has in
    let rises = subst (λ k. words_below (index + 1) slots ≤ words_below k slots) all
    (words_below-rises (index + 1) (WORDS - (index + 1)) slots) in
    omega (arith, rises, words_below-more index slots, one)

pub words_below-none : (n : ℕ) → words_below n (set.empty {R = nat_cmp}) ≡ 0
unfolding words_below
words_below-none zero = refl
words_below-none (suc n) =
    ap₂ (λ b k. cond b 1 0 + k) (hasn't n set.empty (λ q _. set.contains-empty nat_cmp q)) (words_below-none n)

-- those of the slots in which two sets differ are among those of both
sum_at_most : (b c d : Bool) → (c ≡ false → d ≡ false → b ≡ false) → cond b 1 0 ≤ cond c 1 0 + cond d 1 0
sum_at_most true true d none = omega arith
sum_at_most true false true none = omega arith
sum_at_most true false false none = absurd (false≢true (sym (none refl refl)))
sum_at_most false c d none = omega arith

neither : (a b : Bool) → a ≡ false → b ≡ false → ((a && not b) || (b && not a)) ≡ false
neither true b one two = absurd (false≢true (sym one))
neither false true one two = absurd (false≢true (sym two))
neither false false one two = refl

pub words_below-differing : (n : ℕ) (s t : set.FinSet nat_cmp) →
    words_below n (differing s t) ≤ words_below n s + words_below n t
unfolding words_below
words_below-differing zero s t = omega arith
words_below-differing (suc n) s t =
    let own = sum_at_most (has_word n (differing s t)) (has_word n s) (has_word n t) (λ one two.
    hasn't n (differing s t) (λ q here. contains-differing s t q
    ∙ neither (set.contains s q) (set.contains t q) (has_no n s q one here) (has_no n t q two here))) in
    omega (arith, own, words_below-differing n s t)

-- the slots of one word are in one at most
elsewhere : (s : set.FinSet nat_cmp) (word q : ℕ) → IsOneWord s → word ≢ word_index s → q / 64 ≡ word →
    set.contains s q ≡ false
elsewhere s word q one other here =
    elim (set.contains s q) as (λ b. set.contains s q ≡ b → set.contains s q ≡ false) [
      | true ↦ λ has. absurd (other (sym here ∙ one.own q has))
      | false ↦ λ hasn't. hasn't
    ] refl

none_yet : (n : ℕ) (s : set.FinSet nat_cmp) → IsOneWord s → n ≤ word_index s → words_below n s ≡ 0
unfolding words_below
none_yet zero s one small = refl
none_yet (suc n) s one small =
    ap₂ (λ b k. cond b 1 0 + k) (hasn't n s (λ q. elsewhere s n q one (omega arith))) (none_yet n s one (omega arith))

pub words_below-one : (n : ℕ) (s : set.FinSet nat_cmp) → IsOneWord s → words_below n s ≤ 1
unfolding words_below
words_below-one zero s one = omega arith
words_below-one (suc n) s one =
    elim (cases_eq n (word_index s)) [
      | inl here ↦ omega (arith, one_at_most (has_word n s), none_yet n s one (omega arith))
      | inr other ↦ omega (
        arith,
        ap {B = ℕ} (λ b. cond b 1 0) (hasn't n s (λ q. elsewhere s n q one other)),
        words_below-one n s one,
      )
    ]

-- some slots of a word are in that word
no_member : (b : Bool) → (b ≡ true → ⊥) → b ≡ false
no_member true not_there = absurd (not_there refl)
no_member false not_there = refl

pub word_of : (s : set.FinSet nat_cmp) (word : ℕ) → IsOneWord s →
    ((q : ℕ) → set.contains s q ≡ true → q / 64 ≡ word) → s ≢ set.empty → word_index s ≡ word
word_of s word one all some =
    elim (cases_eq (word_index s) word) [
      | inl same ↦ same
      | inr other ↦ absurd (some (same_slots s set.empty (λ q.
          no_member (set.contains s q) (λ has. other (sym (one.own q has) ∙ all q has))
          ∙ sym (set.contains-empty nat_cmp q))))
    ]

-- the slots of the words of lower number, one word more
abbrev pub before_word : ℕ → set.FinSet nat_cmp → set.FinSet nat_cmp
before_word word slots = set.retain slots (λ slot. nat_lt (slot / 64) word)

contains-before : (word : ℕ) (slots : set.FinSet nat_cmp) (q : ℕ) →
    set.contains (before_word word slots) q ≡ (set.contains slots q && nat_lt (q / 64) word)
contains-before word slots q =
    set.contains-retain slots (λ slot. nat_lt (slot / 64) word) q
    (λ x tied. ap (λ n. nat_lt (n / 64) word) (sym (set.nat_cmp-IsAntisymmetric q x tied)))

one_word_more : (b : Bool) (k word : ℕ) → (b && nat_lt k (word + 1))
    ≡ (((b && (k == word)) && not (b && nat_lt k word)) || ((b && nat_lt k word) && not (b && (k == word))))
one_word_more true k word = grind (arith, nat_tests)
one_word_more false k word = refl

pub before_word-more : (word : ℕ) (slots : set.FinSet nat_cmp) →
    before_word (word + 1) slots ≡ differing (in_word word slots) (before_word word slots)
before_word-more word slots =
    same_slots _ _ (λ q.
    contains-before (word + 1) slots q ∙ one_word_more (set.contains slots q) (q / 64) word
    ∙ sym (contains-differing (in_word word slots) (before_word word slots) q
    ∙ ap₂ (λ s t. (s && not t) || (t && not s)) (contains-in_word word slots q) (contains-before word slots q)))

pub before_word-none : (slots : set.FinSet nat_cmp) → before_word 0 slots ≡ set.empty
before_word-none slots =
    same_slots _ _ (λ q. contains-before 0 slots q ∙ below_none (set.contains slots q) (q / 64)
    ∙ sym (set.contains-empty nat_cmp q))
  where
    below_none : (b : Bool) (k : ℕ) → (b && nat_lt k 0) ≡ false
    below_none true k = grind (arith, nat_tests)
    below_none false k = refl

pub before_word-all : (slots : set.FinSet nat_cmp) → AreSlots slots → before_word WORDS slots ≡ slots
before_word-all slots are =
    same_slots _ _ (λ q. contains-before WORDS slots q ∙ all_below (set.contains slots q) q (are q))
  where
    all_below : (b : Bool) (q : ℕ) → (b ≡ true → q < slot_count) → (b && nat_lt (q / 64) WORDS) ≡ b
    all_below true q below = let low : q < slot_count = below refl in grind (arith, nat_tests, low)
    all_below false q below = refl

-- a word without slots
pub word-none : (word : ℕ) (slots : set.FinSet nat_cmp) → in_word word slots ≡ set.empty →
    has_word word slots ≡ false
word-none word slots none =
    hasn't word slots (λ q here. is_false (set.contains slots q) (q / 64) word here
    (sym (contains-in_word word slots q) ∙ ap (λ s. set.contains s q) none ∙ set.contains-empty nat_cmp q))
  where
    is_false : (b : Bool) (k word : ℕ) → k ≡ word → (b && (k == word)) ≡ false → b ≡ false
    is_false true k word here is = absurd (grind (arith, nat_tests))
    is_false false k word here is = refl

none_in : (b : Bool) (k word : ℕ) → (k ≡ word → b ≡ false) → (b && (k == word)) ≡ false
none_in true k word none = grind (arith, nat_tests)
none_in false k word none = refl

pub word-some : (word : ℕ) (slots : set.FinSet nat_cmp) → (in_word word slots ≡ set.empty → ⊥) →
    has_word word slots ≡ true
word-some word slots some =
    elim (has_word word slots) as (λ b. has_word word slots ≡ b → has_word word slots ≡ true) [
      | true ↦ λ has. has
      | false ↦ λ hasn't. absurd (some (same_slots _ _ (λ q. contains-in_word word slots q
          ∙ none_in (set.contains slots q) (q / 64) word (has_no word slots q hasn't)
          ∙ sym (set.contains-empty nat_cmp q))))
    ] refl

-- the slots of words, and whether a word of them has some
pub slots_are : (words : List ℕ) → AreSlots (slots_of words)
slots_are words = λ q has. below q (has_bit words q) (sym (contains-slots_below slot_count words q) ∙ has)
  where
    below : (q : ℕ) (b : Bool) → (nat_lt q slot_count && b) ≡ true → q < slot_count
    below q true is = grind (arith, nat_tests)
    below q false is = grind (arith, nat_tests)

pub counts_word : (words : List ℕ) (index : ℕ) → AreWords words → index < WORDS → slice_index words index ≢ 0 →
    has_word index (slots_of words) ≡ true
counts_word words index are within some =
    some_there (word_bits index (slots_of words)) (λ is. some (sym (word_of_slots words are index within) ∙ is))
  where
    some_there : (x : ℕ) → x ≢ 0 → not (x == 0) ≡ true
    some_there x some = grind (arith, nat_tests)

pub counts_none : (words : List ℕ) (index : ℕ) → AreWords words → index < WORDS → slice_index words index ≡ 0 →
    has_word index (slots_of words) ≡ false
counts_none words index are within none =
    none_bits (word_bits index (slots_of words)) (word_of_slots words are index within ∙ none)
