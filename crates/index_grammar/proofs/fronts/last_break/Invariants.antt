use Rattle.index_grammar.proofs.Common.{◌≡◌, ◌≤◌, true, length, drop, list_all}
use Rattle.index_grammar.proofs.TokenLaws.{inside}
use Rattle.index_grammar.proofs.fronts.last_break.Given as goal

abbrev pub invariant-loop-at : goal.invariant-loop-at
invariant-loop-at l = (l.at ≤ length l.text) × (list_all inside (drop l.at l.text) ≡ true)

abbrev pub decreases-loop-at : goal.decreases-loop-at
decreases-loop-at l = l.at
