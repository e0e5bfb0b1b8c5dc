use Rattle.raw_nodes.proofs.Common.{◌≡◌, ◌+◌, IsPlace, number_in}
use Rattle.raw_nodes.proofs.store.NodeStore.place.Given as goal

abbrev pub invariant-loop-before : goal.invariant-loop-before
invariant-loop-before g l = record {
  place : IsPlace l.self.heap.places l.at;
  counted : l.steps + number_in l.self.heap.places l.at ≡ number_in l.self.heap.places l.fn.name;
}

abbrev pub decreases-loop-before : goal.decreases-loop-before
decreases-loop-before g l = number_in l.self.heap.places l.at
