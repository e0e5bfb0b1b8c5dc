use Rattle.line_tree.proofs.Common.{◌≡◌, ◌-◌, suc, slice_get, kids, records, rooms, spares}
use Rattle.line_tree.proofs.ClosingLaws.{Closing}
use Rattle.line_tree.proofs.shrink.close.Given as goal

abbrev pub invariant-loop-next : goal.invariant-loop-next
invariant-loop-next g l = record {
  closing : Closing (records l.fn.store) (records l.store) l.node l.fn.slot l.at;
  hand : l.next ≡ slice_get (kids (records l.fn.store) l.node) (suc l.at);
  spares : spares l.store ≡ spares l.fn.store;
  rooms : rooms l.store ≡ rooms l.fn.store;
}

abbrev pub decreases-loop-next : goal.decreases-loop-next
decreases-loop-next g l = 12 - l.at
