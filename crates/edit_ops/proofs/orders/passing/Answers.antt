use Rattle.edit_ops.proofs.OrderLaws.{passes-first}
use Rattle.edit_ops.proofs.orders.passing.Goals as goal

pub returns : goal.returns
returns c =
    let first = c.in_ok-front.ensures in
    let second = c.in_ok-front-2.ensures in
    passes-first c.args.first.now.items c.args.second.now.items c.in_ok-front.field-0.now c.in_ok-reach.reach
    c.in_ok-front-2.field-0.now c.lowered.result c.requires first.item.3.0 first.lookup c.in_ok-reach.was
    second.item.3.0 second.lookup c.lowered.ensures
