use Rattle.edit_ops.proofs.Common.{◌≡◌, take, chars, string_bytes, runs_in, text_in}
use Rattle.edit_ops.proofs.inserted.inserted_by.Given as goal

abbrev pub invariant-loop-step : goal.invariant-loop-step
invariant-loop-step l = record {
  text : chars (string_bytes l.inserted.text) ≡ text_in (take l.step-index l.steps);
  runs : l.inserted.runs.items ≡ runs_in (take l.step-index l.steps);
}
