use Rattle.line_tree.proofs.Common.{◌≡◌, ◌+◌, ◌≤◌, slice_get, IsBalanced, IsTree, lines_in, tree_at, records}
use Rattle.line_tree.proofs.walk.first.Given as goal

abbrev pub invariant-loop-level : goal.invariant-loop-level
invariant-loop-level g l = record {
  tree : IsTree (records l.store) l.level l.at;
  balanced : IsBalanced l.level (tree_at (records l.store) l.level l.at);
  line : slice_get (lines_in (records l.store) l.fn.branch.height l.fn.branch.node) 0
      ≡ slice_get (lines_in (records l.store) l.level l.at) 0;
  ticks : g.C.Ticks.count l.ticks + l.level ≤ g.C.Ticks.count l.fn.ticks + l.fn.branch.height;
}

abbrev pub decreases-loop-level : goal.decreases-loop-level
decreases-loop-level g l = l.level
