use Rattle.std.proofs.Common.{◌∙◌}
use Rattle.tree_bench.proofs.CountLaws.{all-counted}
use Rattle.tree_bench.proofs.counted.whole.Goals as goal

pub returns : goal.returns
returns c =
    let old = c.args.counted.now in
    c.prefix.ensures ∙ all-counted old.tree.lines old.count old.same
