use Rattle.line_tree.proofs.Common.{◌≤◌, length, take, drop, arith, length-take}
use Rattle.line_tree.proofs.FillLaws.{same_row}
use Rattle.line_tree.proofs.raise.slots_of.Goals as goal

pub returns : goal.returns
returns c =
    let all = drop c.args.from c.args.list.now in
    let few : length (take c.args.count all) ≤ 12 = omega (arith, length-take c.args.count all, c.requires.few) in
    same_row c.loop-i.slots (take c.args.count all) few c.loop-i.invariant.long (λ k less.
    c.loop-i.invariant.items k (omega (arith, c.loop-i-test.false)))
