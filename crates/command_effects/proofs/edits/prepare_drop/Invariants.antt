use Rattle.command_effects.proofs.Common.{◌≡◌, take}
use Rattle.command_effects.proofs.TakeLaws.{drops}
use Rattle.command_effects.proofs.edits.prepare_drop.Given as goal

abbrev pub invariant-loop-slot : goal.invariant-loop-slot
invariant-loop-slot g l = l.steps ≡ drops (take l.slot-index l.slots)
