use Rattle.line_tree.proofs.Common.{◌≡◌, ◌-◌, ◌≤◌, ◌++◌, take, drop, vec_capacity, kids, records}
use Rattle.line_tree.proofs.raise.push_children.Given as goal

abbrev pub invariant-loop-slot : goal.invariant-loop-slot
invariant-loop-slot g l = record {
  from : l.from ≤ l.slot;
  list : l.list.items ≡ l.fn.list.items ++ take (l.slot - l.from) (drop l.from (kids (records l.store) l.node));
  names : vec_capacity l.list ≡ vec_capacity l.fn.list;
}
