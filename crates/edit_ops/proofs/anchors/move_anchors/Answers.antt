use Rattle.edit_ops.proofs.Common.{anchors_moved}
use Rattle.edit_ops.proofs.AnchorLaws.{stands_yet, one_more}
use Rattle.edit_ops.proofs.anchors.move_anchors.Goals as goal

pub moved-requires-clause-stand : goal.moved-requires-clause-stand
moved-requires-clause-stand c =
    stands_yet (anchors_moved c.args.at c.args.count) c.args.len c.args.all.now c.loop-anchors.all
    c.loop-anchors.anchors-index _
    c.loop-anchors-test.true c.requires.stand c.loop-anchors.invariant

pub loop-anchors-preserved : goal.loop-anchors-preserved
loop-anchors-preserved c =
    one_more (anchors_moved c.args.at c.args.count) c.args.all.now c.loop-anchors.all c.loop-anchors.anchors-index _
    c.moved.result
    c.loop-anchors-test.true c.loop-anchors.auto.all c.loop-anchors.invariant c.moved.ensures
