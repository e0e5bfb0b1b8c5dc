use Rattle.line_tree.proofs.Common.{◌≤◌, ◌++◌, length, take, drop, arith, length-take, kids, records}
use Rattle.line_tree.proofs.FillLaws.{same_row}
use Rattle.line_tree.proofs.PutLaws.{count-row}
use Rattle.line_tree.proofs.shrink.part_pair.Goals as goal

pub pick_pair-requires-clause-count : goal.pick_pair-requires-clause-count
pick_pair-requires-clause-count g c =
    count-row (records c.args.store.now) c.args.left c.children-first.result c.requires.left c.children-first.ensures

pub returns : goal.returns
returns g c = let m = records c.args.store.now in
    let all = drop c.args.from (kids m c.args.left ++ kids m c.args.right) in
    let few : length (take c.args.count all) ≤ 12 = omega (arith, length-take c.args.count all, c.requires.count) in
    same_row c.loop-i.part (take c.args.count all) few c.loop-i.invariant.long (λ k less.
    c.loop-i.invariant.items k (omega (arith, c.loop-i-test.false)))
