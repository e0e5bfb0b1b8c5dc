use Rattle.line_lists.proofs.Common.{◌≡◌, map, take, TakeMark}
use Rattle.line_lists.proofs.store.lone_takes.Given as goal

abbrev pub invariant-loop-step : goal.invariant-loop-step
invariant-loop-step l = map (λ number. TakeMark number) l.numbers.items ≡ take l.step-index l.steps
