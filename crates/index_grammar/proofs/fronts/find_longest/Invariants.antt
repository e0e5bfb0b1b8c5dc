use Rattle.index_grammar.proofs.Common.{named}
use Rattle.index_grammar.proofs.FindLaws.{IsLookedAt}
use Rattle.index_grammar.proofs.fronts.find_longest.Given as goal

abbrev pub invariant-loop-base : goal.invariant-loop-base
invariant-loop-base l = IsLookedAt (named l.form l.names) l.word l.end

abbrev pub decreases-loop-base : goal.decreases-loop-base
decreases-loop-base l = l.end
