use Rattle.raw_nodes.proofs.Common.{◌≡◌, ℕ, suc, List, None, Some, Option, IfSome, IsPlace, number_in, befores_of}
use Rattle.raw_nodes.proofs.Common.{NodePtr}
use Rattle.raw_nodes.proofs.store.drop_rooms.Given as goal

abbrev pub invariant-loop-next : goal.invariant-loop-next
invariant-loop-next l = record {
  places : l.heap.places ≡ l.fn.heap.places;
  befores : befores_of l.heap.values ≡ befores_of l.fn.heap.values;
  next : IfSome l.next (IsPlace l.heap.places);
}

-- how many nodes are left from one on
abbrev pub left : List NodePtr → Option NodePtr → ℕ
left places None = 0
left places (Some name) = suc (number_in places name)

abbrev pub decreases-loop-next : goal.decreases-loop-next
decreases-loop-next l = left l.fn.heap.places l.next
