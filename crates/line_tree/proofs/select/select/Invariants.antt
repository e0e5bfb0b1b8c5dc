use Rattle.line_tree.proofs.Common.{◌≡◌, ◌+◌, ◌*◌, ◌≤◌, ◌<◌, length, slice_get, IsTree, lines_in, records}
use Rattle.line_tree.proofs.select.select.Given as goal

abbrev pub invariant-loop-level : goal.invariant-loop-level
invariant-loop-level g l = record {
  tree : IsTree (records l.store) l.level l.at;
  line : slice_get (lines_in (records l.store) l.fn.height l.fn.root) l.fn.k
      ≡ slice_get (lines_in (records l.store) l.level l.at) l.rest;
  lines : l.lines ≡ length (lines_in (records l.store) l.level l.at);
  within : l.rest < length (lines_in (records l.store) l.level l.at);
  ticks : g.C.Ticks.count l.ticks + 24 * l.level ≤ g.C.Ticks.count l.fn.ticks + 24 * l.height;
}

abbrev pub decreases-loop-level : goal.decreases-loop-level
decreases-loop-level g l = l.level
