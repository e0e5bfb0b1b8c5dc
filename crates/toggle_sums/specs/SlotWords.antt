-- A set of slots as the bits of words of 64 bits, as in text_model, for any number of words.
use Rattle.std.specs.Prelude.{◌≡◌, ℕ, zero, suc, ◌*◌, ◌^◌, ◌<◌, ◌&&◌, ◌==◌, if◌then◌else◌, List, map, length}
use Rattle.std.specs.Prelude.{slice_index}
use Rattle.std.specs.List.{range_with_len}
use Rattle.text_model.specs.Content.{Slots}
use Rattle.text_model.specs.TagBits.{slots_below, word_below}

-- so many words of 64 bits
pub record AreWords (count : ℕ) (words : List ℕ) : Type 0 where
  pub long : length words ≡ count
  pub each : (i : ℕ) → i < count → slice_index words i < 2 ^ 64

-- how many of the first n words there are up to the last one in which a bit of either list is set
unfoldable pub last_used : ℕ → List ℕ → List ℕ → ℕ
last_used zero first second = 0
last_used (suc n) first second =
    if slice_index first n == 0 && slice_index second n == 0 then last_used n first second else suc n

-- two lists of so many words, of which so many are used
pub record AreUsed (count last : ℕ) (first second : List ℕ) : Type 0 where
  pub parity : AreWords count first
  pub presence : AreWords count second
  pub used : last ≡ last_used count first second

-- the slots whose bits are set
abbrev pub slots_of : ℕ → List ℕ → Slots
slots_of count words = slots_below (64 * count) words

-- the words whose bits are the slots of the set
abbrev pub words_of : ℕ → Slots → List ℕ
words_of count slots = map (λ i. word_below 64 slots (64 * i)) (range_with_len 0 count)
