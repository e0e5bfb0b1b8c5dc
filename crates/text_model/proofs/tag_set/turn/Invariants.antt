use Rattle.text_model.proofs.Common.{◌≡◌, ℕ, ◌<◌, ◌≤◌, length, slice_index, bit_xor, WORDS}
use Rattle.text_model.proofs.tag_set.turn.Given as goal

abbrev pub invariant-loop-index : goal.invariant-loop-index
invariant-loop-index l = record {
  count : length l.words ≡ WORDS;
  seen : (k : ℕ) → k < l.index → slice_index l.words k
      ≡ bit_xor (slice_index l.initial.words k) (slice_index l.others k);
  rest : (k : ℕ) → l.index ≤ k → slice_index l.words k ≡ slice_index l.initial.words k;
}
