use Rattle.edit_ops.proofs.Common.{rules, subst, All, All-more, AnchorsStand, take_all}
use Rattle.edit_ops.proofs.anchors.anchors_stand.Goals as goal

pub loop-anchors-preserved : goal.loop-anchors-preserved
loop-anchors-preserved c = All-more (AnchorsStand c.args.len) c.args.all.now c.loop-anchors.anchors-index _
    c.loop-anchors-test.true c.loop-anchors.invariant (c.stand_in.ensures.yes (search (rules, c.if-not-stand_in.false)))

pub returns-clause-yes : goal.returns-clause-yes
returns-clause-yes c = λ _. subst (All (AnchorsStand c.args.len))
    (take_all c.loop-anchors.anchors-index c.args.all.now c.loop-anchors-test.false) c.loop-anchors.invariant
