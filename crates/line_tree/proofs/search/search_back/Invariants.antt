use Rattle.line_tree.proofs.Common.{◌≡◌, ◌+◌, ◌-◌, ◌*◌, ◌<◌, ◌≤◌, records, sum_before, sum_below}
use Rattle.line_tree.proofs.search.search_back.Given as goal

abbrev pub invariant-loop-back : goal.invariant-loop-back
invariant-loop-back g l = record {
  place : g.A.Aim.wide (sum_before (records l.store) l.node (12 - l.back))
      ≡ g.A.Aim.wide (sum_below (records l.store) l.node) - l.behind + l.rest;
  some : 0 < l.rest;
  aim : (a : _) → l.fn.aim ≡ g.A.Aim.behind a (sum_below (records l.store) l.node)
      → l.aim ≡ g.A.Aim.behind a (sum_before (records l.store) l.node (12 - l.back));
  ticks : g.C.Ticks.count l.ticks ≤ g.C.Ticks.count l.fn.ticks + l.back * (g.A.Aim.steps + 2);
}
