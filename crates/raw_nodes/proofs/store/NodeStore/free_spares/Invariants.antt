use Rattle.raw_nodes.proofs.Common.{◌≡◌, min, records, rooms, spares}
use Rattle.raw_nodes.proofs.store.NodeStore.free_spares.Given as goal

abbrev pub invariant-loop-self : goal.invariant-loop-self
invariant-loop-self g l = record {
  records : records l.self ≡ records l.fn.self;
  spares : min (spares l.self) l.most_spares ≡ min (spares l.fn.self) l.most_spares;
  rooms : rooms l.self ≡ min (rooms l.fn.self) l.most_rooms;
}

abbrev pub decreases-loop-self : goal.decreases-loop-self
decreases-loop-self g l = spares l.self
