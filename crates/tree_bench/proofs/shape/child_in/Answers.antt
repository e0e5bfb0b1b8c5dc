use Rattle.std.proofs.Common.{◌≡◌, ◌-◌, suc, sym, ◌∙◌, subst, arith}
use Rattle.raw_nodes.specs.Names.{records}
use Rattle.line_tree.specs.Shape.{IsTree}
use Rattle.line_tree.proofs.RowLaws.{child_is}
use Rattle.line_tree.proofs.TreeLaws.{named-tree, row-above}
use Rattle.tree_bench.proofs.shape.child_in.Goals as goal

pub child-requires-clause-name : goal.child-requires-clause-name
child-requires-clause-name c = named-tree (records c.args.store.now) c.args.height c.args.node c.requires.tree

pub returns : goal.returns
returns c x is = let m = records c.args.store.now in let h = c.args.height in let p = c.args.node in
    let more = c.requires.node in
    let e : h ≡ suc (h - 1) = omega arith in
    record {
      tree = subst (λ k. IsTree m k p) e c.requires.tree;
      at = sym (child_is m p (row-above m h (h - 1) p e c.requires.tree) c.child.result c.args.slot
          c.child.ensures.value) ∙ is;
    }
