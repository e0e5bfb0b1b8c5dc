use Rattle.edit_ops.proofs.Common.{◌++◌, refl, steps_in}
use Rattle.edit_ops.proofs.OrderLaws.{one-more, no-more}
use Rattle.edit_ops.proofs.orders.merged.Goals as goal

pub loop-step-smaller : goal.loop-step-smaller
loop-step-smaller c = c.in-Some.ensures.fewer

pub loop-step-preserved : goal.loop-step-preserved
loop-step-preserved c = record {
  watched = c.in-Some.ensures.watched;
  alike = one-more (c.args.first.items ++ c.args.second.items) c.loop-step.all.items c.push_back.new.self.items
      (steps_in c.loop-step.first.items ++ c.loop-step.second.items)
      (steps_in c.take_next.new.first.items ++ c.take_next.new.second.items) c.in-Some.step c.loop-step.invariant.alike
      c.in-Some.ensures.next c.in_ok-push_back.ensures.items;
}

pub returns : goal.returns
returns c =
    no-more (c.args.first.items ++ c.args.second.items) c.loop-step.all.items
    (steps_in c.loop-step.first.items ++ c.loop-step.second.items) c.loop-step.invariant.alike
    (c.in_default.ensures.last refl)
