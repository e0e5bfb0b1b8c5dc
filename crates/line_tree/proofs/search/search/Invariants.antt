use Rattle.line_tree.proofs.Common.{◌≡◌, ◌+◌, ◌*◌, ◌≤◌, records, sum_before}
use Rattle.line_tree.proofs.search.search.Given as goal

abbrev pub invariant-loop-slot : goal.invariant-loop-slot
invariant-loop-slot g l = record {
  place : g.A.Aim.wide (sum_before (records l.store) l.node l.slot) + l.rest ≡ l.k;
  aim : l.aim ≡ g.A.Aim.behind l.fn.aim (sum_before (records l.store) l.node l.slot);
  ticks : g.C.Ticks.count l.ticks ≤ g.C.Ticks.count l.fn.ticks + l.slot * (g.A.Aim.steps + 2);
}
