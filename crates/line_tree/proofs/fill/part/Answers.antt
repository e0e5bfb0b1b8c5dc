use Rattle.line_tree.proofs.Common.{◌≤◌, length, take, drop, arith, length-take, insert, kids, records}
use Rattle.line_tree.proofs.FillLaws.{same_row}
use Rattle.line_tree.proofs.fill.part.Goals as goal

pub returns : goal.returns
returns g c =
    let all = drop c.args.from
    (insert (kids (records c.args.store.now) c.args.extra.node) c.args.extra.at c.args.extra.child) in
    let few : length (take c.args.count all) ≤ 12 = omega (arith, length-take c.args.count all, c.requires.count) in
    same_row c.loop-i.part (take c.args.count all) few c.loop-i.invariant.long (λ k less.
    c.loop-i.invariant.items k (omega (arith, c.loop-i-test.false)))
