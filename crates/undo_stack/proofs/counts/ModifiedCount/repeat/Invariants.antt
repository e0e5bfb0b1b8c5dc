use Rattle.undo_stack.proofs.Common.{◌≡◌, ◌-◌, times, counted_up}
use Rattle.undo_stack.proofs.counts.ModifiedCount.repeat.Given as goal

abbrev pub invariant-loop : goal.invariant-loop
invariant-loop l = times l.actions counted_up l.fn.self ≡ times (l.actions - l.counter) counted_up l.self
