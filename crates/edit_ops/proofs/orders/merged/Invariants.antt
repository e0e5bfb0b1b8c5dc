use Rattle.edit_ops.proofs.Common.{◌+◌, ◌++◌, length, AreAlike, AreWatched, steps_in}
use Rattle.edit_ops.proofs.orders.merged.Given as goal

abbrev pub invariant-loop-step : goal.invariant-loop-step
invariant-loop-step l = record {
  watched : AreWatched l.first.items;
  alike : AreAlike (l.fn.first.items ++ l.fn.second.items) (l.all.items ++ (steps_in l.first.items ++ l.second.items));
}

abbrev pub decreases-loop-step : goal.decreases-loop-step
decreases-loop-step l = length l.first.items + length l.second.items
