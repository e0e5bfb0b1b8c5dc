use Rattle.text_model.proofs.Common.{◌≡◌, ◌+◌, ◌≤◌, length, take, suffix_len, characters}
use Rattle.text_model.proofs.plain_store.passing_from_last.Given as goal

abbrev pub invariant-loop-start : goal.invariant-loop-start
invariant-loop-start g l = record {
  within : l.start ≤ length l.cells;
  rest : l.start + suffix_len g.T.CharacterTest.test (characters l.cells)
      ≡ length l.cells + suffix_len g.T.CharacterTest.test (take l.start (characters l.cells));
}

abbrev pub decreases-loop-start : goal.decreases-loop-start
decreases-loop-start g l = l.start
