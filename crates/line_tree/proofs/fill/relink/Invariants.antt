use Rattle.line_tree.proofs.Common.{◌≡◌, drop, IsInner, IsName, records, rooms, spares, NodePtr, relinked}
use Rattle.line_tree.proofs.fill.relink.Given as goal

abbrev pub invariant-loop-slot : goal.invariant-loop-slot
invariant-loop-slot g l = record {
  rest : relinked (records l.store) l.node l.slot (drop l.slot l.children)
      ≡ relinked (records l.fn.store) l.node l.fn.from (drop l.fn.from l.children);
  names : (q : NodePtr) → IsName l.fn.store q → IsName l.store q;
  inner : IsInner l.store l.node;
  spares : spares l.store ≡ spares l.fn.store;
  rooms : rooms l.store ≡ rooms l.fn.store;
}
