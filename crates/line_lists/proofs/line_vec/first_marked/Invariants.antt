use Rattle.line_lists.proofs.Common.{has_marks}
use Rattle.line_lists.proofs.ListLaws.{Passed}
use Rattle.line_lists.proofs.line_vec.first_marked.Given as goal

abbrev pub invariant-loop-index : goal.invariant-loop-index
invariant-loop-index l = Passed has_marks l.lines l.index
