use Rattle.line_lists.proofs.Common.{◌≤◌, length, has_marks}
use Rattle.line_lists.proofs.ListLaws.{Left}
use Rattle.line_lists.proofs.line_vec.free_of_marks.Given as goal

abbrev pub invariant-loop-start : goal.invariant-loop-start
invariant-loop-start l = record {
  within : l.start ≤ length l.lines;
  rest : Left has_marks l.lines l.start;
}

abbrev pub decreases-loop-start : goal.decreases-loop-start
decreases-loop-start l = l.start
