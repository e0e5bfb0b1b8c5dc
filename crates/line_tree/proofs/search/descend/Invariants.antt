use Rattle.line_tree.proofs.Common.{◌≡◌, ◌+◌, ◌-◌, ◌*◌, ◌≤◌, IfSome, IsTree, lines_in, sum_at, records}
use Rattle.line_tree.proofs.SearchLaws.{Passes}
use Rattle.line_tree.proofs.search.descend.Given as goal

abbrev pub invariant-loop-level : goal.invariant-loop-level
invariant-loop-level g l = record {
  tree : IsTree (records l.store) l.level l.here.node;
  size : IfSome l.here.size (λ s. s ≡ g.A.Aim.sized (sum_at (records l.store) l.here.node));
  passes : Passes g.A.Aim.wide g.A.Aim.behind (lines_in (records l.store) l.fn.height l.fn.sought.node)
      (lines_in (records l.store) l.level l.here.node) l.fn.sought.k l.here.k l.fn.aim l.aim;
  low : l.level ≤ l.fn.height;
  ticks : g.C.Ticks.count l.ticks
      ≤ g.C.Ticks.count l.fn.ticks + (g.A.Aim.steps + 12 * (g.A.Aim.steps + 2)) * (l.fn.height - l.level);
}

abbrev pub decreases-loop-level : goal.decreases-loop-level
decreases-loop-level g l = l.level
