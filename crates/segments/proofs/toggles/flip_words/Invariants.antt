use Rattle.segments.proofs.Common.{◌≡◌, ℕ, ◌+◌, ◌<◌, ◌≤◌, vec_capacity, vec_len, word_count, words_below, before_word}
use Rattle.segments.proofs.Common.{LieIn, flipped, toggled_at}
use Rattle.segments.proofs.toggles.flip_words.Given as goal

abbrev pub invariant-loop-index : goal.invariant-loop-index
invariant-loop-index l = record {
  room : vec_len l.toggles + word_count l.slots ≤ vec_capacity l.toggles + words_below l.index l.slots;
  lie : (from to : ℕ) → LieIn from to l.initial.toggles.items → from ≤ l.column → l.column < to →
      LieIn from to l.toggles.items;
  slots : (at : ℕ) → toggled_at l.toggles.items at
      ≡ flipped l.column (before_word l.index l.slots) at (toggled_at l.initial.toggles.items at);
}
