use Rattle.text_model.proofs.Common.{◌≡◌, ◌+◌, drop, prefix_len, characters}
use Rattle.text_model.proofs.plain_store.passing_from_first.Given as goal

abbrev pub invariant-loop-count : goal.invariant-loop-count
invariant-loop-count g l =
    prefix_len g.T.CharacterTest.test (characters l.cells)
    ≡ l.count + prefix_len g.T.CharacterTest.test (drop l.count (characters l.cells))
