use Rattle.toggle_sums.proofs.Common.{bit_xor}
use Rattle.toggle_sums.proofs.WordSteps.{SoFar}
use Rattle.toggle_sums.proofs.toggle_words.turn_words.Given as goal

abbrev pub invariant-loop-index : goal.invariant-loop-index
invariant-loop-index g l = SoFar bit_xor l.initial.words l.others l.words g.row.K l.index
