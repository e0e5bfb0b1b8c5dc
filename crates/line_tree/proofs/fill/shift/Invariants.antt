use Rattle.line_tree.proofs.Common.{◌≡◌, ◌-◌, records, rooms, spares}
use Rattle.line_tree.proofs.ShiftLaws.{Shifting}
use Rattle.line_tree.proofs.fill.shift.Given as goal

abbrev pub invariant-loop-next : goal.invariant-loop-next
invariant-loop-next g l = record {
  shifting : Shifting (records l.fn.store) (records l.store) l.fn.extra.node l.fn.extra.at l.fn.extra.child l.slot
      l.next;
  spares : spares l.store ≡ spares l.fn.store;
  rooms : rooms l.store ≡ rooms l.fn.store;
}

abbrev pub decreases-loop-next : goal.decreases-loop-next
decreases-loop-next g l = 12 - l.slot
