-- How many words of two lists are used, and that no bit is set behind them.
use Rattle.toggle_sums.proofs.Common.{◌≡◌, ◌≢◌, ℕ, zero, suc, ◌+◌, ◌<◌, ◌-◌, ◌≤◌, max, true, false, ◌&&◌, ◌==◌}
use Rattle.toggle_sums.proofs.Common.{if◌then◌else◌, bit_and, bit_or, List, length, replicate, slice_index, slice_set}
use Rattle.toggle_sums.proofs.Common.{refl, sym, ap, ap₂, ◌∙◌, arith, inl, inr, get_or-set_same, get_or-set_other}
use Rattle.toggle_sums.proofs.Common.{cases_eq, cases_lt, nat_tests, get_or_past, and_or_self, EndBy, AreUsed, slots_of}
use Rattle.toggle_sums.proofs.Common.{get_or-take, take}
use Rattle.std.proofs.lemmas.Grind.{same_number_lists}
use Rattle.toggle_sums.specs.SlotWords.{last_used}
use Rattle.toggle_sums.proofs.WordSteps.{AreWords-zeros, same_words, slots_of-none, zeros_at, zeros_of-slots_of}
use Rattle.std.specs.FinSet as set

-- ---- one word more
both_zero : (x y : ℕ) → x ≡ 0 → y ≡ 0 → (x == 0 && y == 0) ≡ true
both_zero x y first second = grind (arith, nat_tests)

first_some : (x y : ℕ) → x ≢ 0 → (x == 0 && y == 0) ≡ false
first_some x y some = grind (arith, nat_tests)

second_some : (x y : ℕ) → y ≢ 0 → (x == 0 && y == 0) ≡ false
second_some x y some = grind (arith, nat_tests)

are_zero : (x y : ℕ) → (x == 0 && y == 0) ≡ true → (x ≡ 0) × (y ≡ 0)
are_zero x y both = (grind (arith, nat_tests), grind (arith, nat_tests))

pub last_used-none : (n : ℕ) (first second : List ℕ) → slice_index first n ≡ 0 → slice_index second n ≡ 0 →
    last_used (suc n) first second ≡ last_used n first second
unfolding last_used
last_used-none n first second none none_too =
    ap (λ b. if b then last_used n first second else suc n) (both_zero _ _ none none_too)

pub last_used-first : (n : ℕ) (first second : List ℕ) → slice_index first n ≢ 0 →
    last_used (suc n) first second ≡ suc n
unfolding last_used
last_used-first n first second some =
    ap (λ b. if b then last_used n first second else suc n) (first_some _ (slice_index second n) some)

pub last_used-second : (n : ℕ) (first second : List ℕ) → slice_index second n ≢ 0 →
    last_used (suc n) first second ≡ suc n
unfolding last_used
last_used-second n first second some =
    ap (λ b. if b then last_used n first second else suc n) (second_some (slice_index first n) _ some)

pub last_used-zero : (first second : List ℕ) → last_used 0 first second ≡ 0
unfolding last_used
last_used-zero first second = refl

-- ---- the words behind them
pub last_used-le : (n : ℕ) (first second : List ℕ) → last_used n first second ≤ n
unfolding last_used
last_used-le zero first second = omega arith
last_used-le (suc n) first second =
    elim (slice_index first n == 0 && slice_index second n == 0) as
    (λ b. (if b then last_used n first second else suc n) ≤ suc n) [
      | true ↦ omega (arith, last_used-le n first second)
      | false ↦ omega arith
    ]

none_behind : (n : ℕ) (first second : List ℕ) (k : ℕ) → last_used n first second ≤ k → k < n →
    (slice_index first k ≡ 0) × (slice_index second k ≡ 0)
unfolding last_used
none_behind zero first second k behind small = absurd (omega arith)
none_behind (suc n) first second k behind small =
    elim (slice_index first n == 0 && slice_index second n == 0) as
    (λ b. (slice_index first n == 0 && slice_index second n == 0) ≡ b →
    (if b then last_used n first second else suc n) ≤ k →
    (slice_index first k ≡ 0) × (slice_index second k ≡ 0)) [
      | true ↦ λ both from. elim (cases_eq k n) [
        | inl here ↦ rw here (are_zero _ _ both)
        | inr other ↦ none_behind n first second k from (omega arith)
      ]
      | false ↦ λ _ from. absurd (omega arith)
    ] refl behind

-- no bit is set behind the used words
pub ends-parity : (count used : ℕ) (first second : List ℕ) → AreUsed count used first second → EndBy used first
ends-parity count used first second are = λ k from.
    elim (cases_lt k count) [
      | inl within ↦ (none_behind count first second k (rw (← are.used) from) within).0
      | inr past ↦ get_or_past first k 0 (rw are.parity.long past)
    ]

pub ends-presence : (count used : ℕ) (first second : List ℕ) → AreUsed count used first second → EndBy used second
ends-presence count used first second are = λ k from.
    elim (cases_lt k count) [
      | inl within ↦ (none_behind count first second k (rw (← are.used) from) within).1
      | inr past ↦ get_or_past second k 0 (rw are.presence.long past)
    ]

pub used-le : (count used : ℕ) (first second : List ℕ) → AreUsed count used first second → used ≤ count
used-le count used first second are = rw are.used (last_used-le count first second)

-- where no bit is set from a word on, the used words are among those before it
pub last_used-below : (n most : ℕ) (first second : List ℕ) → most ≤ n → EndBy most first → EndBy most second →
    last_used n first second ≡ last_used most first second
last_used-below zero most first second small none none_too =
    ap (λ m. last_used m first second) (omega arith)
last_used-below (suc n) most first second small none none_too =
    elim (cases_eq most (suc n)) [
      | inl all ↦ ap (λ m. last_used m first second) (sym all)
      | inr other ↦
          last_used-none n first second (none n (omega arith)) (none_too n (omega arith))
          ∙ last_used-below n most first second (omega arith) none none_too
    ]

-- ---- where words change
pub EndBy-both : (f : ℕ → ℕ → ℕ) → f 0 0 ≡ 0 → (count n m : ℕ) (first second words : List ℕ) → length words ≡ count →
    EndBy n first → EndBy m second →
    ((k : ℕ) → k < count → slice_index words k ≡ f (slice_index first k) (slice_index second k)) →
    EndBy (max n m) words
EndBy-both f none count n m first second words long ends ends_too are = λ k from.
    elim (cases_lt k count) [
      | inl within ↦ are k within ∙ ap₂ f (ends k (omega (arith, from))) (ends_too k (omega (arith, from))) ∙ none
      | inr past ↦ get_or_past words k 0 (rw long past)
    ]

pub max-le : (n m k : ℕ) → n ≤ k → m ≤ k → max n m ≤ k
max-le n m k first second = omega (arith, first, second)

pub EndBy-set : (n i new : ℕ) (words : List ℕ) → EndBy n words → EndBy (max n (i + 1)) (slice_set words i new)
EndBy-set n i new words ends = λ k from.
    get_or-set_other words i k new 0 (omega (arith, from)) ∙ ends k (omega (arith, from))

pub EndBy-max : (n m : ℕ) (words : List ℕ) → EndBy n words → EndBy (max n m) words
EndBy-max n m words ends = λ k from. ends k (omega (arith, from))

-- a word in which a bit is set is the last one, where none is set behind it
last_used-at : (n m : ℕ) (first second : List ℕ) → suc m ≤ n → EndBy (suc m) first → EndBy (suc m) second →
    (slice_index first m == 0 && slice_index second m == 0) ≡ false → last_used n first second ≡ suc m
unfolding last_used
last_used-at n m first second small none none_too some =
    last_used-below n (suc m) first second small none none_too
    ∙ ap (λ b. if b then last_used m first second else suc m) some

-- and in the last one a bit is set
some_last : (n m : ℕ) (first second : List ℕ) → last_used n first second ≡ suc m →
    (slice_index first m == 0 && slice_index second m == 0) ≡ false
unfolding last_used
some_last zero m first second last = absurd (omega (arith, last))
some_last (suc n) m first second last =
    elim (slice_index first n == 0 && slice_index second n == 0) as
    (λ b. (slice_index first n == 0 && slice_index second n == 0) ≡ b →
    (if b then last_used n first second else suc n) ≡ suc m →
    (slice_index first m == 0 && slice_index second m == 0) ≡ false) [
      | true ↦ λ _ last. some_last n m first second last
      | false ↦ λ some last. let here : m ≡ n = omega (arith, last) in rw here some
    ] refl last

-- a word with bits of another has one where the other has one
pub some_of : (word bits : ℕ) → bits ≢ 0 → bit_or word bits ≢ 0
some_of word bits some none = some (sym (and_or_self bits word) ∙ ap (λ w. bit_and w bits) none)

-- where a word of the second list has a bit set, it is used, and those that were used are so still
pub last_used-set : (n used i new new_too : ℕ) (first second : List ℕ) → AreUsed n used first second → i < n →
    new_too ≢ 0 → max used (i + 1) ≡ last_used n (slice_set first i new) (slice_set second i new_too)
last_used-set n used i new new_too first second are within some =
    let m = max used (i + 1) - 1 in
    let last : suc m ≡ max used (i + 1) = omega arith in
    let small : suc m ≤ n = omega (arith, within, used-le n used first second are) in
    let none : EndBy (suc m) (slice_set first i new) =
    rw last (EndBy-set used i new first (ends-parity n used first second are)) in
    let none_too : EndBy (suc m) (slice_set second i new_too) =
    rw last (EndBy-set used i new_too second (ends-presence n used first second are)) in
    sym (last_used-at n m _ _ small none none_too (elim (cases_eq m i) [
      | inl here ↦ rw (here, get_or-set_same second i new_too 0 (rw are.presence.long within)) (second_some _ _ some)
      | inr other ↦ rw (get_or-set_other first i m new 0 other, get_or-set_other second i m new_too 0 other)
          (some_last n m first second (sym are.used ∙ omega (arith, other)))
    ]) ∙ last)

-- ---- none used
pub AreUsed-zeros : (count : ℕ) → AreUsed count 0 (replicate count 0) (replicate count 0)
AreUsed-zeros count =
    let least : 0 ≤ count = omega arith in
    let zeros = replicate count 0 in
    let none : EndBy 0 zeros = λ k _. zeros_at count k in
    record {
      parity = AreWords-zeros count;
      presence = AreWords-zeros count;
      used = sym (last_used-below count 0 zeros zeros least none none ∙ last_used-zero zeros zeros);
    }

-- no word is used where no slot is toggled, and none is toggled where no word is used
pub none_used : (count used : ℕ) (first second : List ℕ) → AreUsed count used first second →
    slots_of count first ≡ set.empty → slots_of count second ≡ set.empty → used ≡ 0
none_used count used first second are none none_too =
    are.used ∙ ap₂ (last_used count) (zeros_of-slots_of count first are.parity none)
    (zeros_of-slots_of count second are.presence none_too) ∙ sym (AreUsed-zeros count).used

pub none_toggled : (count used : ℕ) (first second : List ℕ) → AreUsed count used first second → used ≡ 0 →
    (slots_of count first ≡ set.empty) × (slots_of count second ≡ set.empty)
none_toggled count used first second are none = (
  slots_of-none count first (λ k _. ends-parity count used first second are k (omega (arith, none))),
  slots_of-none count second (λ k _. ends-presence count used first second are k (omega (arith, none))),
)

-- words of which so many are used are the same where those are
pub same-used_words : (count used : ℕ) (a b : List ℕ) → length a ≡ count → length b ≡ count → EndBy used a →
    EndBy used b → take used a ≡ take used b → a ≡ b
same-used_words count used a b long long_too ends ends_too same =
    same_number_lists a b (long ∙ sym long_too) (λ k _. elim (cases_lt k used) [
      | inl below ↦
          sym (get_or-take used a k 0 below) ∙ ap (λ (words : List ℕ). slice_index words k) same
          ∙ get_or-take used b k 0 below
      | inr past ↦ ends k past ∙ sym (ends_too k past)
    ])

-- where the same slots are toggled, as many words are used
pub same_used : (count used others : ℕ) (a b c d : List ℕ) → AreUsed count used a b → AreUsed count others c d →
    slots_of count a ≡ slots_of count c → slots_of count b ≡ slots_of count d → used ≡ others
same_used count used others a b c d are too first second =
    are.used ∙ ap₂ (last_used count) (same_words count a c are.parity too.parity first)
    (same_words count b d are.presence too.presence second) ∙ sym too.used
