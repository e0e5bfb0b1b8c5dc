use Rattle.line_tree.proofs.Common.{◌≡◌, ◌-◌, ◌<◌, suc, length, sym, ap, ◌∙◌, subst, arith, slice_get, option_map}
use Rattle.line_tree.proofs.Common.{IsTree, lines_in, records}
use Rattle.line_tree.proofs.TreeLaws.{at_line, below-tree, count-tree, descends}
use Rattle.line_tree.proofs.select.select.Goals as goal

pub find_at-found-requires : goal.find_at-found-requires
find_at-found-requires g c = let m = records c.args.store.now in let at = c.loop-level.at in
    let n = c.loop-level.level - 1 in
    let e : c.loop-level.level ≡ suc n = omega (arith, c.loop-level-test.true) in
    let tree = subst (λ h. IsTree m h at) e c.loop-level.invariant.tree in
    let below = ap (λ h. length (lines_in m h at)) e ∙ sym (below-tree m n at tree) in
    record {
      tree = tree;
      within = subst (λ x. c.loop-level.rest < x) below c.loop-level.invariant.within;
      lines = c.loop-level.invariant.lines ∙ below;
    }

pub loop-level-preserved : goal.loop-level-preserved
loop-level-preserved g c = let m = records c.args.store.now in let at = c.loop-level.at in
    let n = c.loop-level.level - 1 in
    let e : c.loop-level.level ≡ suc n = omega (arith, c.loop-level-test.true) in
    let tree = subst (λ h. IsTree m h at) e c.loop-level.invariant.tree in
    let down = descends m n at c.loop-level.rest c.find_at-found.result tree c.find_at-found.ensures.found in
    let so_far = c.loop-level.invariant.ticks in let one = c.find_at-found.ensures.ticks in
    record {
      tree = down.tree;
      line = c.loop-level.invariant.line ∙ ap (λ h. slice_get (lines_in m h at) c.loop-level.rest) e ∙ down.line;
      lines = c.find_at-found.ensures.found.lines ∙ count-tree m n c.find_at-found.result.child down.tree;
      within = down.within;
      ticks = omega arith;
    }

pub returns : goal.returns
returns g c = let m = records c.args.store.now in let at = c.loop-level.at in
    let e : c.loop-level.level ≡ 0 = omega (arith, c.loop-level-test.false) in
    let so_far = c.loop-level.invariant.ticks in
    record {
      name = ap (option_map (λ l. l.0)) (c.loop-level.invariant.line
          ∙ ap (λ h. slice_get (lines_in m h at) c.loop-level.rest) e)
          ∙ at_line m at c.loop-level.rest (subst (λ h. c.loop-level.rest
          < length (lines_in m h at)) e c.loop-level.invariant.within);
      ticks = omega arith;
    }
