use Rattle.raw_nodes.proofs.Common.{◌≡◌, ◌≤◌, ◌-◌, max, records, rooms, spares}
use Rattle.raw_nodes.proofs.store.NodeStore.reserve_lines.Given as goal

abbrev pub invariant-loop-self : goal.invariant-loop-self
invariant-loop-self g l = record {
  records : records l.self ≡ records l.fn.self;
  more : spares l.fn.self ≤ spares l.self;
  most : spares l.self ≤ max (spares l.fn.self) l.count;
  rooms : rooms l.self ≡ rooms l.fn.self;
}

abbrev pub decreases-loop-self : goal.decreases-loop-self
decreases-loop-self g l = l.count - l.self.spares
