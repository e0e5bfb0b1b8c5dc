use Rattle.raw_nodes.proofs.Common.{◌≡◌, [], ◌∷◌, ◌++◌, length, map, None, Some, AreApart, ats, befores_of}
use Rattle.raw_nodes.proofs.store.NodeStore.drop.Given as goal

abbrev pub invariant-loop-last : goal.invariant-loop-last
invariant-loop-last g l = record {
  listed : befores_of l.heap.values ++ l.last ∷ [] ≡ None ∷ map Some l.heap.places;
  apart : ∥ AreApart (ats l.heap.places) ∥₁;
}

abbrev pub decreases-loop-last : goal.decreases-loop-last
decreases-loop-last g l = length l.heap.places
