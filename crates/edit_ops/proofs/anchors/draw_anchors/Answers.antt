use Rattle.edit_ops.proofs.Common.{anchors_drawn}
use Rattle.edit_ops.proofs.AnchorLaws.{one_more}
use Rattle.edit_ops.proofs.anchors.draw_anchors.Goals as goal

pub loop-anchors-preserved : goal.loop-anchors-preserved
loop-anchors-preserved c =
    one_more (anchors_drawn c.args.line c.args.next c.args.from c.args.to) c.args.all.now c.loop-anchors.all
    c.loop-anchors.anchors-index _ c.drawn.result
    c.loop-anchors-test.true c.loop-anchors.auto.all c.loop-anchors.invariant c.drawn.ensures
