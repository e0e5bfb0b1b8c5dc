use Rattle.toggle_sums.proofs.Common.{bit_or}
use Rattle.toggle_sums.proofs.WordSteps.{SoFar}
use Rattle.toggle_sums.proofs.toggle_words.join_words.Given as goal

abbrev pub invariant-loop-index : goal.invariant-loop-index
invariant-loop-index g l = SoFar bit_or l.initial.words l.others l.words g.row.K l.index
