use Rattle.line_lists.proofs.Common.{◌≤◌}
use Rattle.line_lists.proofs.pieces.Rows.of.Given as goal

abbrev pub invariant-loop-stop : goal.invariant-loop-stop
invariant-loop-stop l = l.last ≤ l.stop-index
