use Rattle.edit_ops.proofs.Common.{take, All, AnchorsStand}
use Rattle.edit_ops.proofs.anchors.anchors_stand.Given as goal

abbrev pub invariant-loop-anchors : goal.invariant-loop-anchors
invariant-loop-anchors l = All (AnchorsStand l.len) (take l.anchors-index l.all)
