use Rattle.undo_stack.proofs.Common.{◌≡◌, ◌-◌, times, counted_down}
use Rattle.undo_stack.proofs.counts.ModifiedCount.revert.Given as goal

abbrev pub invariant-loop : goal.invariant-loop
invariant-loop l = times l.actions counted_down l.fn.self ≡ times (l.actions - l.counter) counted_down l.self
