use Rattle.command_effects.proofs.Common.{◌≡◌, take}
use Rattle.command_effects.proofs.TakeLaws.{takes}
use Rattle.command_effects.proofs.edits.take_marks.Given as goal

abbrev pub invariant-loop-number : goal.invariant-loop-number
invariant-loop-number g l = l.steps ≡ takes (take l.number-index l.numbers)
