use Rattle.segments.proofs.Common.{◌≡◌, ◌+◌, suffix_len, chars}
use denote.Shadow.{shadow}
use denote.Text.{Utf8}
use Rattle.segments.proofs.characters.passing_from_last.Given as goal

abbrev pub invariant-loop-passed : goal.invariant-loop-passed
invariant-loop-passed g l =
    shadow (Utf8 l.rest)
    × (suffix_len g.T.CharacterTest.test (chars l.text) ≡ l.passed + suffix_len g.T.CharacterTest.test (chars l.rest))
