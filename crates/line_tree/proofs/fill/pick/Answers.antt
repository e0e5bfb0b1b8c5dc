use Rattle.line_tree.proofs.Common.{◌<◌, ◌-◌, sym, ◌∙◌, arith, kids, records}
use Rattle.line_tree.proofs.FillLaws.{insert-above}
use Rattle.line_tree.proofs.RowLaws.{child_is}
use Rattle.line_tree.proofs.fill.pick.Goals as goal

pub returns-else-i-at-2 : goal.returns-else-i-at-2
returns-else-i-at-2 g c = let m = records c.args.store.now in
    let above : c.args.extra.at < c.args.i = omega (arith, c.if-i-at.false, c.if-i-at-2.false) in
    child_is m c.args.extra.node c.requires.row c.child-else-i-at-2.result (c.args.i - 1)
    c.child-else-i-at-2.ensures.value
    ∙ sym (insert-above (kids m c.args.extra.node) c.args.extra.at c.args.i c.args.extra.child c.requires.place above)
