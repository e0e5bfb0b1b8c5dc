use Rattle.line_lists.proofs.Common.{has_mark}
use Rattle.line_lists.proofs.ListLaws.{Passed}
use Rattle.line_lists.proofs.line_vec.first_with_mark.Given as goal

abbrev pub invariant-loop-index : goal.invariant-loop-index
invariant-loop-index l = Passed (has_mark l.number.0) l.lines l.index
