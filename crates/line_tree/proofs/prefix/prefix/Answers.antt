use Rattle.line_tree.proofs.Common.{◌≡◌, ◌-◌, suc, take, sym, ap, ◌∙◌, subst, arith, no_text-plus, Count, no_text}
use Rattle.line_tree.proofs.Common.{FitsSum, IsTree, lines_in, records, total, sum-adds, sum_behind}
use Rattle.line_tree.specs.declared.aims.SumBefore.{SumBefore}
use Rattle.line_tree.proofs.PrefixLaws.{all-lines, some-left}
use Rattle.line_tree.proofs.RowLaws.{sum_is}
use Rattle.line_tree.proofs.SearchLaws.{Passes, arrives-before, passes-below, passes-fits, passes-line, passes-start}
use Rattle.line_tree.proofs.SearchLaws.{passes-step}
use Rattle.line_tree.proofs.TreeLaws.{named-tree, row-tree, total-lines}
use Rattle.line_tree.proofs.prefix.prefix.Goals as goal

pub sum-all-requires : goal.sum-all-requires
sum-all-requires g c = named-tree (records c.args.store.now) c.args.height c.args.root c.requires.tree

pub returns-then-k-lines : goal.returns-then-k-lines
returns-then-k-lines g c = let m = records c.args.store.now in let r = c.args.root in let h = c.args.height in
    all-lines m h r c.args.k c.lines-lines.result c.sum-all.result c.requires.tree
    (sum_is m r c.sum-all.result (named-tree m h r c.requires.tree) c.sum-all.ensures.value) c.lines-lines.ensures
    c.if-k-lines.true

pub loop-level-init : goal.loop-level-init
loop-level-init g c = let m = records c.args.store.now in let r = c.args.root in let h = c.args.height in
    let count = total-lines (lines_in m h r) in
    let less = some-left m h r c.args.k c.lines-lines.result c.sum-all.result c.requires.tree
    (sum_is m r c.sum-all.result (named-tree m h r c.requires.tree) c.sum-all.ensures.value) c.lines-lines.ensures
    c.if-k-lines.false c.requires.within in
    let ls = lines_in m h r in let none : SumBefore = record { sum = no_text } in
    record {
      tree = c.requires.tree;
      passes = subst (λ (s : Count). Passes (λ s. s.lines) sum_behind ls ls c.args.k c.args.k none (record { sum = s }))
          (sym c.zero.ensures) (passes-start sum-adds ls c.args.k none (omega arith));
    }

pub search-reached-requires : goal.search-reached-requires
search-reached-requires g c =
    let m = records c.args.store.now in let at = c.loop-level.at in let n = c.loop-level.level - 1 in
    let e : c.loop-level.level ≡ suc n = omega (arith, c.loop-level-test.true) in
    let ls = lines_in m c.args.height c.args.root in let none : SumBefore = record { sum = no_text } in
    record {
      row = row-tree m n at (subst (λ h. IsTree m h at) e c.loop-level.invariant.tree);
      within = passes-below sum-adds m n at ls c.args.k c.loop-level.rest none c.loop-level.before
          (subst (λ h. IsTree m h at) e c.loop-level.invariant.tree) (subst (λ h. Passes (λ s. s.lines) sum_behind ls
          (lines_in m h at) c.args.k c.loop-level.rest none c.loop-level.before) e c.loop-level.invariant.passes);
      fits = passes-fits sum-adds m n at ls c.args.k c.loop-level.rest none c.loop-level.before
          (subst (λ h. IsTree m h at) e c.loop-level.invariant.tree) (subst (λ h. Passes (λ s. s.lines) sum_behind ls
          (lines_in m h at) c.args.k c.loop-level.rest none c.loop-level.before) e c.loop-level.invariant.passes)
          (subst FitsSum (sym (no_text-plus (total ls))) c.requires.fits);
    }

pub loop-level-preserved : goal.loop-level-preserved
loop-level-preserved g c = let m = records c.args.store.now in let at = c.loop-level.at in
    let n = c.loop-level.level - 1 in
    let e : c.loop-level.level ≡ suc n = omega (arith, c.loop-level-test.true) in
    let ls = lines_in m c.args.height c.args.root in let none : SumBefore = record { sum = no_text } in
    let reached = c.search-reached.result in let found = c.search-reached.ensures.reaches in
    let step = passes-step sum-adds m n at ls c.args.k c.loop-level.rest none c.loop-level.before
    (subst (λ h. IsTree m h at) e c.loop-level.invariant.tree)
    (subst (λ h. Passes (λ s. s.lines) sum_behind ls (lines_in m h at) c.args.k c.loop-level.rest none
    c.loop-level.before) e c.loop-level.invariant.passes) reached.slot reached.child reached.rest
    c.search-reached.new.aim found.child found.place found.rest c.search-reached.ensures.aim in
    record { tree = step.0; passes = step.1 }

pub returns : goal.returns
returns g c = let m = records c.args.store.now in let at = c.loop-level.at in
    let e : c.loop-level.level ≡ 0 = omega (arith, c.loop-level-test.false) in
    let ls = lines_in m c.args.height c.args.root in let none : SumBefore = record { sum = no_text } in
    ap (λ (a : SumBefore). a.sum)
    (arrives-before (passes-line sum-adds m at ls c.args.k c.loop-level.rest none c.loop-level.before
    (subst (λ h. Passes (λ s. s.lines) sum_behind ls (lines_in m h at) c.args.k c.loop-level.rest none
    c.loop-level.before) e c.loop-level.invariant.passes)))
    ∙ no_text-plus (total (take c.args.k ls))
