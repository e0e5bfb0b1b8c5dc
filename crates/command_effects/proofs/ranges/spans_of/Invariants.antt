use Rattle.command_effects.proofs.Common.{◌≡◌, ◌++◌, ◌≤◌, length, All, spans_of}
use Rattle.command_effects.proofs.ranges.spans_of.Given as goal

abbrev pub invariant-loop-rest : goal.invariant-loop-rest
invariant-loop-rest l = record {
  value : spans_of l.start l.len l.fn.places ≡ l.spans.items ++ spans_of l.start l.len l.rest;
  within : All (λ place. place ≤ l.len) l.rest;
}

abbrev pub decreases-loop-rest : goal.decreases-loop-rest
decreases-loop-rest l = length l.rest
