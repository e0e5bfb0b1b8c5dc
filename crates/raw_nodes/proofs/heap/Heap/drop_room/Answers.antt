use Rattle.raw_nodes.proofs.Common.{refl, number_in, before_of}
use Rattle.raw_nodes.proofs.ChainLaws.{same_at}
use Rattle.raw_nodes.proofs.heap.Heap.drop_room.Goals as goal

pub returns-in-Inner-clause-befores : goal.returns-in-Inner-clause-befores
returns-in-Inner-clause-befores c =
    let h = c.args.self.now in
    same_at before_of h.values (number_in h.places c.args.name) c.node_mut-node.result.now _
    c.node_mut-node.ensures.value refl
