-- A `&` to the heap is made where one to each node is.
use Rattle.raw_nodes.proofs.Common.{ats}
use denote.Struct.Lending.{of_Lends}
use Rattle.raw_nodes.proofs.heap.Heap.TheLaw.Statement.{statement}
use Rattle.raw_nodes.proofs.HeapShared.{nodes_lent_laws, Lends-nodes}
use Rattle.raw_nodes.specs.contracts.heap.Heap as C

pub shares : statement
shares = of_Lends C.struct C.the_codes C.the_heap C.the_lent (λ d p. nodes_lent_laws (ats d.places) d.values) tt
    (λ M 𝓤 𝓛 d p. Lends-nodes 𝓛 C.the_row.lives (ats d.places) d.values)
