-- The slots of a set word by word, and sets whose slots are those of one word: slot k is bit k % 64 of word k / 64.
use Rattle.std.proofs.Common.{◌≡◌, ℕ, zero, suc, ◌+◌, ◌*◌, ◌/◌, ◌^◌, ◌<◌, Bool, true, not, cond, ◌==◌, List, replicate}
use Rattle.std.proofs.Common.{slice_set}
use Rattle.std.specs.FinSet as set
use Rattle.std.specs.Ordering.{nat_cmp}
use Rattle.text_model.specs.declared.tag_set.TheConstants.{WORDS}
use Rattle.text_model.specs.TagBits.{slot_count, slots_of, word_below}

-- the slots of a set that are in a word, and their bits there
abbrev pub in_word : ℕ → set.FinSet nat_cmp → set.FinSet nat_cmp
in_word word slots = set.retain slots (λ slot. slot / 64 == word)

abbrev pub word_bits : ℕ → set.FinSet nat_cmp → ℕ
word_bits word slots = word_below 64 slots (64 * word)

abbrev pub has_word : ℕ → set.FinSet nat_cmp → Bool
has_word word slots = not (word_bits word slots == 0)

-- words of which only one has bits, and the slots of that
abbrev pub alone : ℕ → ℕ → List ℕ
alone word bits = slice_set (replicate WORDS 0) word bits

abbrev pub slots_in : ℕ → ℕ → set.FinSet nat_cmp
slots_in word bits = slots_of (alone word bits)

-- the last word below n in which a slot is, the first one if there is none
unfoldable pub last_word : ℕ → set.FinSet nat_cmp → ℕ
last_word zero slots = 0
last_word (suc n) slots = cond (has_word n slots) n (last_word n slots)

abbrev pub word_index : set.FinSet nat_cmp → ℕ
word_index slots = last_word WORDS slots

-- in how many words below n a slot is
unfoldable pub words_below : ℕ → set.FinSet nat_cmp → ℕ
words_below zero slots = 0
words_below (suc n) slots = cond (has_word n slots) 1 0 + words_below n slots

abbrev pub word_count : set.FinSet nat_cmp → ℕ
word_count slots = words_below WORDS slots

-- all slots are those of some word
abbrev pub AreSlots : set.FinSet nat_cmp → Type 0
AreSlots slots = (slot : ℕ) → set.contains slots slot ≡ true → slot < slot_count

-- all slots are in one word
pub record IsOneWord (slots : set.FinSet nat_cmp) : Type 0 where
  pub within : word_index slots < WORDS
  pub own : (slot : ℕ) → set.contains slots slot ≡ true → slot / 64 ≡ word_index slots

-- bits of a word, which is the first one where none is set
pub record AreBits (word bits : ℕ) : Type 0 where
  pub within : word < WORDS
  pub fits : bits < 2 ^ 64
  pub none : bits ≡ 0 → word ≡ 0
