use Rattle.edit_ops.proofs.Common.{◌++◌, ◌/◌}
use Rattle.edit_ops.proofs.OrderLaws.{both-halves, alike-trans}
use Rattle.edit_ops.proofs.orders.+sorted.Goals as goal

pub returns : goal.returns
returns t c =
    let halves = both-halves (c.len-2.result / 2) c.args.steps.items c.split_off.new.self.items
    c.in_ok-second.second.items c.in_ok-first.first.items c.in_ok-second-2.second.items c.in_ok-second.ensures.items
    c.in_ok-second.ensures.tail c.in_ok-first.ensures c.in_ok-second-2.ensures in
    alike-trans c.args.steps.items (c.in_ok-first.first.items ++ c.in_ok-second-2.second.items)
    c.in_ok-merged.field-0.items halves c.in_ok-merged.ensures
