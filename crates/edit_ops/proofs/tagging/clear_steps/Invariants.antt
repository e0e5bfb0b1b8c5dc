use Rattle.edit_ops.proofs.Common.{drop, Content}
use Rattle.edit_ops.proofs.TagLaws.{Clearing}
use Rattle.edit_ops.proofs.tagging.clear_steps.Given as goal

abbrev pub invariant-loop-slot : goal.invariant-loop-slot
invariant-loop-slot l = (content : Content) → Clearing l.slots l.steps (drop l.slot-index l.slots) content
