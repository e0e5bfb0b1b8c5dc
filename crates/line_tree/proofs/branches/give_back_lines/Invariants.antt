use Rattle.line_tree.proofs.Common.{◌≡◌, ◌+◌, take, kids, nodes, records, rooms, spares, Without}
use Rattle.line_tree.proofs.branches.give_back_lines.Given as goal

abbrev pub invariant-loop-slot : goal.invariant-loop-slot
invariant-loop-slot g l = record {
  without : Without (records l.initial.store) (records l.store) (take l.slot (kids (records l.initial.store) l.node));
  spares : spares l.store ≡ spares l.initial.store + l.slot;
  rooms : rooms l.store ≡ rooms l.initial.store;
  nodes : nodes l.store ≡ nodes l.initial.store;
}
