use Rattle.line_tree.proofs.Common.{◌≡◌, ◌+◌, ◌-◌, ◌*◌, ◌≤◌, suc, subst, arith, IsTree, lines_in, records}
use Rattle.line_tree.proofs.PrefixLaws.{sum-below}
use Rattle.line_tree.proofs.SearchLaws.{Passes, passes-below, passes-fits, passes-line, passes-start, passes-step}
use Rattle.line_tree.proofs.SearchLaws.{steps-deeper}
use Rattle.line_tree.proofs.TreeLaws.{row-tree}
use Rattle.line_tree.proofs.search.descend.Goals as goal

pub loop-level-init : goal.loop-level-init
loop-level-init g c = let m = records c.args.store.now in record {
  tree = c.requires.tree;
  size = c.requires.size;
  passes = passes-start g.met.A.Aim.adds_up (lines_in m c.args.height c.args.sought.node) c.args.sought.k c.args.aim.now
      c.requires.within;
  low = omega arith;
  ticks = omega arith;
}

pub search_near-reached-requires : goal.search_near-reached-requires
search_near-reached-requires g c =
    let m = records c.args.store.now in let at = c.loop-level.here.node in let n = c.loop-level.level - 1 in
    let e : c.loop-level.level ≡ suc n = omega (arith, c.loop-level-test.true) in
    let ls = lines_in m c.args.height c.args.sought.node in
    record {
      row = row-tree m n at (subst (λ h. IsTree m h at) e c.loop-level.invariant.tree);
      within = passes-below g.met.A.Aim.adds_up m n at ls c.args.sought.k c.loop-level.here.k c.args.aim.now
          c.loop-level.aim (subst (λ h. IsTree m h at) e c.loop-level.invariant.tree)
          (subst (λ h. Passes g.A.Aim.wide g.A.Aim.behind ls (lines_in m h at) c.args.sought.k c.loop-level.here.k
          c.args.aim.now c.loop-level.aim) e c.loop-level.invariant.passes);
      fits = passes-fits g.met.A.Aim.adds_up m n at ls c.args.sought.k c.loop-level.here.k c.args.aim.now
          c.loop-level.aim (subst (λ h. IsTree m h at) e c.loop-level.invariant.tree)
          (subst (λ h. Passes g.A.Aim.wide g.A.Aim.behind ls (lines_in m h at) c.args.sought.k c.loop-level.here.k
          c.args.aim.now c.loop-level.aim) e c.loop-level.invariant.passes)
          c.requires.fits;
      whole = sum-below m n at (subst (λ h. IsTree m h at) e c.loop-level.invariant.tree);
      size = c.loop-level.invariant.size;
    }

pub loop-level-preserved : goal.loop-level-preserved
loop-level-preserved g c = let m = records c.args.store.now in let at = c.loop-level.here.node in
    let n = c.loop-level.level - 1 in let test = c.loop-level-test.true in
    let e : c.loop-level.level ≡ suc n = omega arith in
    let ls = lines_in m c.args.height c.args.sought.node in let reached = c.search_near-reached.result in
    let found = c.search_near-reached.ensures.reaches in
    let step = passes-step g.met.A.Aim.adds_up m n at ls c.args.sought.k c.loop-level.here.k c.args.aim.now
    c.loop-level.aim (subst (λ h. IsTree m h at) e c.loop-level.invariant.tree)
    (subst (λ h. Passes g.A.Aim.wide g.A.Aim.behind ls (lines_in m h at) c.args.sought.k c.loop-level.here.k
    c.args.aim.now c.loop-level.aim) e c.loop-level.invariant.passes) reached.slot reached.child reached.rest
    c.search_near-reached.new.aim found.child found.place found.rest c.search_near-reached.ensures.aim in
    let low = c.loop-level.invariant.low in
    record {
      tree = step.0;
      size = found.size;
      passes = step.1;
      low = omega arith;
      ticks = steps-deeper (g.A.Aim.steps + 12 * (g.A.Aim.steps + 2)) (c.args.height - c.loop-level.level)
          (c.args.height - n) _ _ _ (omega arith) c.loop-level.invariant.ticks c.search_near-reached.ensures.ticks;
    }

pub returns-clause-arrives : goal.returns-clause-arrives
returns-clause-arrives g c = let m = records c.args.store.now in let at = c.loop-level.here.node in
    let e : c.loop-level.level ≡ 0 = omega (arith, c.loop-level-test.false) in
    let ls = lines_in m c.args.height c.args.sought.node in
    passes-line g.met.A.Aim.adds_up m at ls c.args.sought.k c.loop-level.here.k c.args.aim.now c.loop-level.aim
    (subst (λ h. Passes g.A.Aim.wide g.A.Aim.behind ls (lines_in m h at) c.args.sought.k c.loop-level.here.k
    c.args.aim.now c.loop-level.aim) e c.loop-level.invariant.passes)

pub returns-clause-ticks : goal.returns-clause-ticks
returns-clause-ticks g c =
    let e : c.args.height - c.loop-level.level ≡ c.args.height = omega (arith, c.loop-level-test.false) in
    subst (λ n. g.C.Ticks.count c.loop-level.ticks
    ≤ g.C.Ticks.count c.args.ticks.now + (g.A.Aim.steps + 12 * (g.A.Aim.steps + 2)) * n) e c.loop-level.invariant.ticks
