use Rattle.edit_ops.proofs.Common.{◌≡◌, ◌++◌, map, take, drop, anchors_drawn}
use Rattle.edit_ops.proofs.anchors.draw_anchors.Given as goal

abbrev pub invariant-loop-anchors : goal.invariant-loop-anchors
invariant-loop-anchors l = l.all ≡ map (anchors_drawn l.line l.next l.from l.to) (take l.anchors-index l.initial.all)
    ++ drop l.anchors-index l.initial.all
