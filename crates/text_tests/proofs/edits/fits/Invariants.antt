use Rattle.std.proofs.Common.{drop}
use Rattle.text_model.specs.Steps.{FitsIn}
use Rattle.text_tests.proofs.edits.fits.Given as goal

abbrev pub invariant-loop-step : goal.invariant-loop-step
invariant-loop-step l = FitsIn (drop l.step-index l.steps) l.len → FitsIn l.fn.steps l.fn.len
