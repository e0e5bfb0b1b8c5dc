use Rattle.std.proofs.Common.{arith}
use Rattle.tree_bench.proofs.CountLaws.{one-more}
use Rattle.tree_bench.proofs.counted.insert.Goals as goal

pub overflow_add-counted : goal.overflow_add-counted
overflow_add-counted c =
    let old = c.args.counted.now in
    let more = one-more old.tree.lines c.args.line old.count c.whole.result c.sum.result old.same c.whole.ensures
    c.sum.ensures (c.fit.ensures c.if-not-fit.false) in
    omega (arith, more)
