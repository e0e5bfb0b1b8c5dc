use Rattle.edit_ops.proofs.SlotRunLaws.{RunsSoFar}
use Rattle.edit_ops.proofs.part_hunks.runs_of.Given as goal

abbrev pub invariant-loop-part : goal.invariant-loop-part
invariant-loop-part l = RunsSoFar l.parts.parts.items l.runs.items l.at l.part-index
