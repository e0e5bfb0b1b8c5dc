use Rattle.edit_ops.proofs.Common.{◌≡◌, ◌++◌, map, take, drop, anchors_moved}
use Rattle.edit_ops.proofs.anchors.move_anchors.Given as goal

abbrev pub invariant-loop-anchors : goal.invariant-loop-anchors
invariant-loop-anchors l =
    l.all ≡ map (anchors_moved l.at l.count) (take l.anchors-index l.initial.all) ++ drop l.anchors-index l.initial.all
