use Rattle.line_tree.proofs.Common.{◌-◌, ◌≤◌, Leaves}
use Rattle.line_tree.proofs.tree.LineTree.take_branches.Given as goal

abbrev pub invariant-loop-end : goal.invariant-loop-end
invariant-loop-end g l = record {
  start : l.k ≤ l.start;
  end : l.start ≤ l.end;
  leaves : Leaves l.initial.self l.k l.fn.gone (l.end - l.k) l.self;
}

abbrev pub decreases-loop-end : goal.decreases-loop-end
decreases-loop-end g l = l.end
