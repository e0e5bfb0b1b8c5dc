use Rattle.line_tree.proofs.Common.{suc, sym, ap, subst, IsTree, records}
use Rattle.line_tree.proofs.LowestLaws.{lowest-before}
use Rattle.line_tree.proofs.TreeLaws.{row-tree}
use Rattle.line_tree.proofs.climb.ahead.Goals as goal

pub before-requires-clause-row : goal.before-requires-clause-row
before-requires-clause-row g c = row-tree (records c.args.store.now) c.args.level c.args.node c.requires.tree

pub returns-then-level-eq0-clause-value : goal.returns-then-level-eq0-clause-value
returns-then-level-eq0-clause-value g c = let m = records c.args.store.now in
    sym (lowest-before m c.args.node c.args.slot
    (subst (λ h. IsTree m h c.args.node) (ap suc c.if-level-eq0.true) c.requires.tree) c.requires.within)
