use Rattle.line_tree.proofs.Common.{◌≡◌, ◌-◌, ◌<◌, suc, length, sym, ap, ◌∙◌, subst, arith, slice_get, option_map}
use Rattle.line_tree.proofs.Common.{IsBalanced, IsTree, lines_in, tree_at, records}
use Rattle.line_tree.proofs.RowLaws.{child_is}
use Rattle.line_tree.proofs.TreeLaws.{at_line, named-tree, row-tree}
use Rattle.line_tree.proofs.NextLaws.{first-child, has-child, some-line}
use Rattle.line_tree.proofs.walk.first.Goals as goal

pub child-requires-clause-name : goal.child-requires-clause-name
child-requires-clause-name g c =
    named-tree (records c.args.store.now) c.loop-level.level c.loop-level.at c.loop-level.invariant.tree

pub returns-in_default : goal.returns-in_default
returns-in_default g c = let m = records c.args.store.now in let at = c.loop-level.at in
    let n = c.loop-level.level - 1 in
    let e : c.loop-level.level ≡ suc n = omega (arith, c.loop-level-test.true) in
    let none = sym (child_is m at (row-tree m n at (subst (λ h. IsTree m h at) e c.loop-level.invariant.tree))
    c.child.result 0 c.child.ensures.value) ∙ c.in_default.is in
    absurd (has-child m n at (subst (λ h. IsBalanced h (tree_at m h at)) e c.loop-level.invariant.balanced) none)

pub loop-level-preserved : goal.loop-level-preserved
loop-level-preserved g c = let m = records c.args.store.now in let at = c.loop-level.at in
    let n = c.loop-level.level - 1 in
    let e : c.loop-level.level ≡ suc n = omega (arith, c.loop-level-test.true) in
    let tree = subst (λ h. IsTree m h at) e c.loop-level.invariant.tree in
    let child = sym (child_is m at (row-tree m n at tree) c.child.result 0 c.child.ensures.value) ∙ c.in-Some.is in
    let down = first-child m n at c.in-Some.child tree
    (subst (λ h. IsBalanced h (tree_at m h at)) e c.loop-level.invariant.balanced) child in
    let so_far = c.loop-level.invariant.ticks in let one = c.child.ensures.tick in
    record {
      tree = down.tree;
      balanced = down.balanced;
      line = c.loop-level.invariant.line ∙ ap (λ h. slice_get (lines_in m h at) 0) e ∙ down.line;
      ticks = omega arith;
    }

pub returns : goal.returns
returns g c = let m = records c.args.store.now in let at = c.loop-level.at in
    let e : c.loop-level.level ≡ 0 = omega (arith, c.loop-level-test.false) in
    let some = some-line m c.loop-level.level at c.loop-level.invariant.tree c.loop-level.invariant.balanced in
    let so_far = c.loop-level.invariant.ticks in
    record {
      name = ap (option_map (λ l. l.0)) (c.loop-level.invariant.line ∙ ap (λ h. slice_get (lines_in m h at) 0) e)
          ∙ at_line m at 0 (subst (λ h. 0 < length (lines_in m h at)) e some);
      ticks = omega arith;
    }
