use Rattle.segments.proofs.Common.{◌≡◌, ◌+◌, prefix_len, chars}
use denote.Shadow.{shadow}
use denote.Text.{Utf8}
use Rattle.segments.proofs.characters.passing_from_first.Given as goal

abbrev pub invariant-loop-passed : goal.invariant-loop-passed
invariant-loop-passed g l =
    shadow (Utf8 l.rest)
    × (prefix_len g.T.CharacterTest.test (chars l.text) ≡ l.passed + prefix_len g.T.CharacterTest.test (chars l.rest))
