use Rattle.line_lists.proofs.Common.{has_toggle}
use Rattle.line_lists.proofs.ListLaws.{Passed}
use Rattle.line_lists.proofs.line_vec.first_with.Given as goal

abbrev pub invariant-loop-index : goal.invariant-loop-index
invariant-loop-index l = Passed (has_toggle l.slot.0) l.lines l.index
