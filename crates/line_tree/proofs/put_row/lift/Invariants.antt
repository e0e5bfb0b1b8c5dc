use Rattle.line_tree.proofs.Common.{◌≡◌, ◌+◌, ◌-◌, ◌*◌, ◌<◌, ◌≤◌, length, vec_capacity, nodes, records, rooms, spares}
use Rattle.line_tree.proofs.Common.{Lifted, levels_at_most}
use Rattle.line_tree.proofs.put_row.lift.Given as goal

abbrev pub invariant-loop-below : goal.invariant-loop-below
invariant-loop-below g l = record {
  lifted : Lifted (records l.fn.store) (records l.store) l.height l.fn.row.items l.top l.row.items;
  short : length l.row.items ≤ length l.fn.row.items;
  up : l.height ≤ l.top;
  most : l.height < l.top → l.top ≤ levels_at_most (nodes l.fn.store);
  used : 11 * rooms l.fn.store + length l.row.items
      ≤ 11 * rooms l.store + length l.fn.row.items + 11 * (l.top - l.height);
  spares : spares l.store + rooms l.fn.store ≡ spares l.fn.store + rooms l.store;
  nodes : nodes l.store ≡ nodes l.fn.store;
  names : vec_capacity l.row ≡ vec_capacity l.fn.row;
  more : vec_capacity l.below ≡ vec_capacity l.fn.below;
}

abbrev pub decreases-loop-below : goal.decreases-loop-below
decreases-loop-below g l = length l.row.items
