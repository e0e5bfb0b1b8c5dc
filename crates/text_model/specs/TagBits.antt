-- A set of slots as the bits of words of 64 bits: slot k is bit k % 64 of word k / 64.
use Rattle.std.specs.Prelude.{◌≡◌, ℕ, zero, suc, ◌+◌, ◌*◌, ◌/◌, ◌%◌, ◌^◌, ◌<◌, ◌≤◌, Bool, cond, ◌==◌, List, map}
use Rattle.std.specs.Prelude.{length, slice_index}
use Rattle.std.specs.FinSet as set
use Rattle.std.specs.Int.{bit_at}
use Rattle.std.specs.List.{range_with_len}
use Rattle.std.specs.Ordering.{nat_cmp}
use Rattle.text_model.specs.declared.tag_set.TheConstants.{WORDS}

-- the slots are those below this number
abbrev pub slot_count : ℕ
slot_count = 64 * WORDS

-- words of 64 bits, as many as a set has
pub record AreWords (words : List ℕ) : Type 0 where
  pub count : length words ≡ WORDS
  pub each : (i : ℕ) → i < WORDS → slice_index words i < 2 ^ 64

-- no bit is set from a word on
abbrev pub EndBy : ℕ → List ℕ → Type 0
EndBy used words = (k : ℕ) → used ≤ k → slice_index words k ≡ 0

-- whether the bit of slot k is set
abbrev pub has_bit : List ℕ → ℕ → Bool
has_bit words k = bit_at (slice_index words (k / 64)) (k % 64) == 1

-- the slots below n whose bits are set
unfoldable pub slots_below : ℕ → List ℕ → set.FinSet nat_cmp
slots_below zero words = set.empty
slots_below (suc n) words = cond (has_bit words n) (set.insert (slots_below n words) n) (slots_below n words)

-- the slots whose bits are set
abbrev pub slots_of : List ℕ → set.FinSet nat_cmp
slots_of words = slots_below slot_count words

-- the number of n bits whose bit i says whether slot from + i is in the set
unfoldable pub word_below : ℕ → set.FinSet nat_cmp → ℕ → ℕ
word_below zero slots from = 0
word_below (suc n) slots from = cond (set.contains slots (from + n)) 1 0 * 2 ^ n + word_below n slots from

-- the words whose bits are the slots of the set
abbrev pub words_of : set.FinSet nat_cmp → List ℕ
words_of slots = map (λ i. word_below 64 slots (64 * i)) (range_with_len 0 WORDS)
