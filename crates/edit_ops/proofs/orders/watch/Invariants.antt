use Rattle.edit_ops.proofs.Common.{◌≡◌, ◌++◌, length, AreWatched, steps_in}
use Rattle.edit_ops.proofs.orders.watch.Given as goal

abbrev pub invariant-loop-step : goal.invariant-loop-step
invariant-loop-step l = record {
  watched : AreWatched l.watched.items;
  steps : l.steps.items ++ steps_in l.watched.items ≡ l.fn.steps.items;
}

abbrev pub decreases-loop-step : goal.decreases-loop-step
decreases-loop-step l = length l.steps.items
