use Rattle.command_effects.proofs.Common.{◌≡◌, ◌++◌, ◌≤◌, ◌+◌, length, texts_of, with_value, pairs_at, Ok}
use Rattle.command_effects.proofs.lists.pairs_at.Given as goal

abbrev pub invariant-loop-rest : goal.invariant-loop-rest
invariant-loop-rest l = record {
  value : pairs_at l.position (texts_of l.fn.words)
      ≡ with_value (pairs_at l.here (texts_of l.rest)) (λ pairs. Ok (l.pairs.items ++ pairs));
  room : l.here + length l.rest ≤ l.position + length l.fn.words;
}

abbrev pub decreases-loop-rest : goal.decreases-loop-rest
decreases-loop-rest l = length l.rest
