use Rattle.line_tree.proofs.Common.{◌≡◌, ℕ, zero, suc, ◌+◌, ◌-◌, ◌<◌, ◌≤◌, ◌⊎◌, inl, inr, length, refl, sym, subst}
use Rattle.line_tree.proofs.Common.{arith, Some, None, ap, ◌∙◌, IsSome, remove, FitsSum, resummed, sum_all, IsTree}
use Rattle.line_tree.proofs.Common.{Links, lines_in, sum_at, sum_of, NodePtr, Records, kids, row, plus, records}
use Rattle.line_tree.proofs.Common.{same_Some, Found, CanRemove, Cleans, Removes, Settles}
use Rattle.line_tree.proofs.FillLaws.{sums-row}
use Rattle.line_tree.proofs.KeptLaws.{kept-whole}
use Rattle.line_tree.proofs.RowLaws.{lines_is, sum_is}
use Rattle.line_tree.proofs.RemovePairs.{sum-ready, below-now, can-mend, cleans-gone, cleans-ready, fill-ready}
use Rattle.line_tree.proofs.RemovePairs.{has-ready, inner-ready, links-ready, removes-gone, removes-ready, slot-ready}
use Rattle.line_tree.proofs.RemoveSteps.{can-below, child-named, child-now, gone-same, has-now, line-alone, one-cleans}
use Rattle.line_tree.proofs.RemoveSteps.{one-fill, one-long, one-removes, one-sum, two-kids, within-slot}
use Rattle.line_tree.proofs.RoomLaws.{len-gone, len-refilled, len-resummed, len-settles}
use Rattle.line_tree.proofs.TreeLaws.{below-tree, named-tree, row-tree, tops-tree_at, whole-below}
use Rattle.line_tree.proofs.UpdateLaws.{InnerIn, inner-refilled, named-refilled, room-given}
use Rattle.std.specs.FinMap as finite
use Rattle.line_tree.proofs.remove.+remove_in.Goals as goal

above : (m : Records) (h j : ℕ) (p : NodePtr) (k : ℕ) → j < h → (h ≡ j + 1 → ⊥) → CanRemove m h p k →
    CanRemove m (suc (suc (h - 2))) p k
above m h j p k low more can = let e : h ≡ suc (suc (h - 2)) = omega arith in subst (λ i. CanRemove m i p k) e can

child : (m l : Records) (h j : ℕ) (p : NodePtr) (k : ℕ) (x : NodePtr) → j < h → (h ≡ j + 1 → ⊥) →
    Removes m l (h - 1) p k j x → Removes m l (suc (h - 2)) p k j x
child m l h j p k x low more r = let e : h - 1 ≡ suc (h - 2) = omega arith in subst (λ i. Removes m l i p k j x) e r

down : (m : Records) (h j : ℕ) (p : NodePtr) (k : ℕ) → j < h → (h ≡ j + 1 → ⊥) → CanRemove m (suc (h - 2)) p k →
    CanRemove m (h - 1) p k
down m h j p k low more can = let e : suc (h - 2) ≡ h - 1 = omega arith in subst (λ i. CanRemove m i p k) e can

back : (m n : Records) (h j : ℕ) (p : NodePtr) (k : ℕ) (x : NodePtr) → j < h → (h ≡ j + 1 → ⊥) →
    Removes m n (suc (suc (h - 2))) p k j x → Removes m n h p k j x
back m n h j p k x low more r = let e : suc (suc (h - 2)) ≡ h = omega arith in subst (λ i. Removes m n i p k j x) e r

clean-child : (m l : Records) (h j : ℕ) (p x : NodePtr) → j < h → (h ≡ j + 1 → ⊥) → Cleans m l (h - 1) p j x →
    Cleans m l (suc (h - 2)) p j x
clean-child m l h j p x low more r = let e : h - 1 ≡ suc (h - 2) = omega arith in subst (λ i. Cleans m l i p j x) e r

clean-back : (m n : Records) (h j : ℕ) (p x : NodePtr) → j < h → (h ≡ j + 1 → ⊥) →
    Cleans m n (suc (suc (h - 2))) p j x → Cleans m n h p j x
clean-back m n h j p x low more r = let e : suc (suc (h - 2)) ≡ h = omega arith in
    subst (λ i. Cleans m n i p j x) e r

-- a node above the child that goes
right-above : (m : Records) (h j : ℕ) (p : NodePtr) (k : ℕ) → h ≡ j + 1 → CanRemove m h p k → CanRemove m (suc j) p k
right-above m h j p k e can = let f : h ≡ suc j = omega arith in subst (λ i. CanRemove m i p k) f can

right-back : (m n : Records) (h j : ℕ) (p : NodePtr) (k : ℕ) (x : NodePtr) → h ≡ j + 1 → Removes m n (suc j) p k j x →
    Removes m n h p k j x
right-back m n h j p k x e r = let f : suc j ≡ h = omega arith in subst (λ i. Removes m n i p k j x) f r

clean-right-back : (m n : Records) (h j : ℕ) (p x : NodePtr) → h ≡ j + 1 → Cleans m n (suc j) p j x → Cleans m n h p j x
clean-right-back m n h j p x e r = let f : suc j ≡ h = omega arith in subst (λ i. Cleans m n i p j x) f r

tree-above : (m : Records) (h j : ℕ) (p : NodePtr) (k : ℕ) → j < h → CanRemove m h p k → IsTree m (suc (h - 1)) p
tree-above m h j p k low can = let e : h ≡ suc (h - 1) = omega arith in subst (λ i. IsTree m i p) e can.tree

-- a line is refused by none
refused : (j most : ℕ) (f : Found) → (j ≡ 0 → f.lines ≤ 1) → f.rest < f.lines → 0 < most →
    (0 < f.rest) ⊎ ((f.rest ≤ 0) × (most < f.lines)) → 0 < j
refused zero most f one inside some either = let alone = one refl in
    elim either [ inl a ↦ omega arith | inr a ↦ let more = a.1 in omega arith ]
refused (suc j) most f one inside some either = omega arith

pub lines-lines-requires : goal.lines-lines-requires
lines-lines-requires g t c = let m = records c.args.store.now in let h = c.args.height in
    named-tree m (suc (h - 1)) c.args.node (tree-above m h c.args.branch.level c.args.node c.args.branch.first
    c.requires.node c.requires.remove)

pub find_at-found-requires : goal.find_at-found-requires
find_at-found-requires g t c = let m = records c.args.store.now in let h = c.args.height in let p = c.args.node in
    record {
      tree = tree-above m h c.args.branch.level c.args.node c.args.branch.first c.requires.node c.requires.remove;
      within =
          let low = c.requires.node in let w = c.requires.remove.place in let e : suc (h - 1) ≡ h = omega arith in
          let same = ap (λ i. length (lines_in m i p)) e in
          let n = below-tree m (h - 1) p
          (tree-above m h c.args.branch.level p c.args.branch.first c.requires.node c.requires.remove) in omega arith;
      lines =
          let tree = tree-above m h c.args.branch.level p c.args.branch.first c.requires.node c.requires.remove in
          lines_is m p c.lines-lines.result (named-tree m (suc (h - 1)) p tree) c.lines-lines.ensures.value
          ∙ whole-below m (h - 1) p tree;
    }

-- ---- the child itself goes
pub returns-then-found-gt0-clause-none : goal.returns-then-found-gt0-clause-none
returns-then-found-gt0-clause-none g t c none =
    let m = records c.args.store.now in let p = c.args.node in let k = c.args.branch.first in
    let j = c.args.branch.level in
    let can = right-above m c.args.height j p k c.if-height-branch.true c.requires.remove in
    let f = c.find_at-found.result in let finds = c.find_at-found.ensures.found in (
      refused j c.args.branch.most f (line-alone m j p k can f finds)
          (subst (λ n. f.rest < n) (sym finds.lines) finds.rest) c.requires.some c.then-found-gt0.either,
      refl,
    )

pub drop_child-requires : goal.drop_child-requires
drop_child-requires g t c = let m = records c.args.store.now in let p = c.args.node in let k = c.args.branch.first in
    let j = c.args.branch.level in
    let can = right-above m c.args.height j p k c.if-height-branch.true c.requires.remove in
    let f = c.find_at-found.result in let finds = c.find_at-found.ensures.found in
    let first : f.rest ≡ 0 = omega (arith, c.if-found-gt0.false) in
    record {
      row = row-tree m j p can.tree;
      links = subst (Links m p 0) (tops-tree_at m j (kids m p)) can.tree.1;
      slot = within-slot m j p k can f finds;
      fill = one-fill m j p k can f finds first;
      sum = ap (plus (sum_all m (remove (kids m p) f.slot)))
          (sum_is m f.child c.sum.result (child-named m j p k can f finds) c.sum.ensures.value)
          ∙ one-sum m j p k can f finds first;
    }

pub sum-requires : goal.sum-requires
sum-requires g t c =
    let m = records c.args.store.now in let p = c.args.node in let k = c.args.branch.first in
    let j = c.args.branch.level in
    let can = right-above m c.args.height j p k c.if-height-branch.true c.requires.remove in
    let f = c.find_at-found.result in let finds = c.find_at-found.ensures.found in
    child-named m j p k can f finds

-- ---- it goes below the child
pub remove_in-requires : goal.remove_in-requires
remove_in-requires g t c κs inside =
    let m = records c.args.store.now in let p = c.args.node in let k = c.args.branch.first in
    let j = c.args.branch.level in let g2 = c.args.height - 2 in let f = c.find_at-found.result in
    let finds = c.find_at-found.ensures.found in
    let can = above m c.args.height j p k c.requires.node c.if-height-branch.false c.requires.remove in
    let below = down m c.args.height j f.child f.rest c.requires.node c.if-height-branch.false
    (can-below m (suc g2) p k can f finds) in
    let more = c.if-height-branch.false in let low = c.requires.node in
    (omega (arith, c.decreases), (inside, (omega arith, (c.requires.some, below))))

pub settle-requires : goal.settle-requires
settle-requires g t c = let m = records c.args.store.now in let p = c.args.node in let k = c.args.branch.first in
    let j = c.args.branch.level in let g2 = c.args.height - 2 in let f = c.find_at-found.result in
    let finds = c.find_at-found.ensures.found in
    let can = above m c.args.height j p k c.requires.node c.if-height-branch.false c.requires.remove in
    let l = records c.remove_in.new.store in let x = c.in_ok-gone.gone in
    let rem = child m l c.args.height j f.child f.rest x c.requires.node c.if-height-branch.false
    c.in_ok-gone.ensures.removes in
    record {
      row = has-now m (suc g2) p k can f finds l j x rem;
      two = two-kids m (suc g2) p k can f finds l j x rem;
      child = child-now m (suc g2) p k can f finds l j x rem;
      below = below-now m g2 p k can f finds l j x rem;
      pairs = can-mend m g2 p k can f finds l j x rem;
    }

pub give_back-requires : goal.give_back-requires
give_back-requires g t c =
    let m = records c.args.store.now in let p = c.args.node in let k = c.args.branch.first in
    let j = c.args.branch.level in let g2 = c.args.height - 2 in let f = c.find_at-found.result in
    let finds = c.find_at-found.ensures.found in
    let can = above m c.args.height j p k c.requires.node c.if-height-branch.false c.requires.remove in
    let l = records c.remove_in.new.store in let x = c.in_ok-gone.gone in
    let rem = child m l c.args.height j f.child f.rest x c.requires.node c.if-height-branch.false
    c.in_ok-gone.ensures.removes in let n = records c.settle.new.store in
    let settles = subst (λ o. Settles l n p f.slot f.child o) c.in-Some.is c.settle.ensures.settles in
    let has = has-ready m g2 p k can f finds l j x rem n (Some c.in-Some.slot) settles in
    subst (λ z. IsSome (finite.get z c.drop_child-merged.result)) (sym c.drop_child-merged.ensures.records)
    (named-refilled n p (row (remove (kids n p) c.in-Some.slot)) c.drop_child-merged.result
    (has.each c.in-Some.slot c.drop_child-merged.result c.drop_child-merged.ensures.child))

pub lessen-requires : goal.lessen-requires
lessen-requires g t c = let m = records c.args.store.now in let p = c.args.node in let k = c.args.branch.first in
    let j = c.args.branch.level in let g2 = c.args.height - 2 in let f = c.find_at-found.result in
    let finds = c.find_at-found.ensures.found in
    let can = above m c.args.height j p k c.requires.node c.if-height-branch.false c.requires.remove in
    let l = records c.remove_in.new.store in let x = c.in_ok-gone.gone in
    let rem = child m l c.args.height j f.child f.rest x c.requires.node c.if-height-branch.false
    c.in_ok-gone.ensures.removes in let n = records c.settle.new.store in
    let settles = subst (λ o. Settles l n p f.slot f.child o) c.in-None.is c.settle.ensures.settles in
    record {
      row = has-ready m g2 p k can f finds l j x rem n None settles;
      sum =
          let less = c.in_ok-gone.ensures.less ∙ ap sum_of (sym (gone-same m (suc g2) p k can f finds l j x rem)) in
          (λ i. plus (sums-row n (kids n p) i) (less i)) ∙ sum-ready m g2 p k can f finds l j x rem n None settles;
      fits = subst FitsSum (sym (sums-row n (kids n p)))
          (fill-ready m g2 p k can f finds l j x rem n None settles).fits;
    }

pub drop_child-merged-requires : goal.drop_child-merged-requires
drop_child-merged-requires g t c =
    let m = records c.args.store.now in let p = c.args.node in let k = c.args.branch.first in
    let j = c.args.branch.level in let g2 = c.args.height - 2 in let f = c.find_at-found.result in
    let finds = c.find_at-found.ensures.found in
    let can = above m c.args.height j p k c.requires.node c.if-height-branch.false c.requires.remove in
    let l = records c.remove_in.new.store in let x = c.in_ok-gone.gone in
    let rem = child m l c.args.height j f.child f.rest x c.requires.node c.if-height-branch.false
    c.in_ok-gone.ensures.removes in let n = records c.settle.new.store in
    let settles = subst (λ o. Settles l n p f.slot f.child o) c.in-Some.is c.settle.ensures.settles in
    record {
      row = has-ready m g2 p k can f finds l j x rem n (Some c.in-Some.slot) settles;
      links = links-ready m g2 p k can f finds l j x rem n (Some c.in-Some.slot) settles;
      slot = slot-ready m g2 p k can f finds l j x rem n (Some c.in-Some.slot) settles c.in-Some.slot refl;
      fill = fill-ready m g2 p k can f finds l j x rem n (Some c.in-Some.slot) settles;
      sum =
          let less = c.in_ok-gone.ensures.less ∙ ap sum_of (sym (gone-same m (suc g2) p k can f finds l j x rem)) in
          ap (plus (sum_all n (remove (kids n p) c.in-Some.slot))) less
          ∙ sum-ready m g2 p k can f finds l j x rem n (Some c.in-Some.slot) settles;
    }

pub returns-then-height-branch : goal.returns-then-height-branch
returns-then-height-branch g t c =
    let m = records c.args.store.now in let p = c.args.node in let k = c.args.branch.first in
    let j = c.args.branch.level in
    let can = right-above m c.args.height j p k c.if-height-branch.true c.requires.remove in
    let f = c.find_at-found.result in let finds = c.find_at-found.ensures.found in
    let first : f.rest ≡ 0 = omega (arith, c.if-found-gt0.false) in
    let same = same_Some f.child c.drop_child.result (sym finds.child ∙ c.drop_child.ensures.child) in
    let s = c.drop_child.ensures.spares in
    record {
      removes =
          let n = records c.drop_child.new.store in
          right-back m n c.args.height j p k c.drop_child.result c.if-height-branch.true
          (subst (λ x. Removes m n (suc j) p k j x) same
          (one-removes m j p k can f finds first n c.drop_child.ensures.records));
      less = sum_is m f.child c.sum.result (child-named m j p k can f finds) c.sum.ensures.value ∙ ap (sum_at m) same;
      most = subst (λ x. length (lines_in m j x) ≤ c.args.branch.most) same
          (subst (λ n. n ≤ c.args.branch.most) (sym (one-long m j p k can f finds)) c.if-found-branch.false);
      clean =
          let n = records c.drop_child.new.store in
          clean-right-back m n c.args.height j p c.drop_child.result c.if-height-branch.true
          (subst (λ x. Cleans m n (suc j) p j x) same
          (one-cleans m j p k can f finds first n c.drop_child.ensures.records));
      none = λ e. cc;
      spares = omega arith;
      rooms = let r = c.drop_child.ensures.rooms in omega arith;
      count =
          let n = ap finite.len c.drop_child.ensures.records
          ∙ len-refilled m c.args.node (row (remove (kids m c.args.node) c.find_at-found.result.slot)) in omega arith;
    }

pub returns-in-Some : goal.returns-in-Some
returns-in-Some g t c = let m = records c.args.store.now in let p = c.args.node in let k = c.args.branch.first in
    let j = c.args.branch.level in let g2 = c.args.height - 2 in let f = c.find_at-found.result in
    let finds = c.find_at-found.ensures.found in
    let can = above m c.args.height j p k c.requires.node c.if-height-branch.false c.requires.remove in
    let l = records c.remove_in.new.store in let x = c.in_ok-gone.gone in
    let rem = child m l c.args.height j f.child f.rest x c.requires.node c.if-height-branch.false
    c.in_ok-gone.ensures.removes in let n = records c.settle.new.store in
    let settles = subst (λ o. Settles l n p f.slot f.child o) c.in-Some.is c.settle.ensures.settles in
    let s2 = c.settle.ensures.spares in let s3 = c.drop_child-merged.ensures.spares in
    let s4 = c.give_back.ensures.spares in
    record {
      removes = back m (records c.give_back.new.self) c.args.height j p k x c.requires.node c.if-height-branch.false
          (subst (λ z. Removes m z (suc (suc g2)) p k j x) (sym c.give_back.ensures.records)
          (removes-gone m g2 p k can f finds l j x rem n (Some c.in-Some.slot) settles
          (records c.drop_child-merged.new.store) c.in-Some.slot c.drop_child-merged.result refl
          c.drop_child-merged.ensures.child c.drop_child-merged.ensures.records));
      less = c.in_ok-gone.ensures.less;
      most = c.in_ok-gone.ensures.most;
      clean =
          let clean = clean-child m l c.args.height j f.child x c.requires.node c.if-height-branch.false
          c.in_ok-gone.ensures.clean in
          clean-back m (records c.give_back.new.self) c.args.height j p x c.requires.node c.if-height-branch.false
          (subst (λ z. Cleans m z (suc (suc g2)) p j x) (sym c.give_back.ensures.records)
          (cleans-gone m g2 p k can f finds l j x rem n (Some c.in-Some.slot) settles clean
          (records c.drop_child-merged.new.store) c.in-Some.slot c.drop_child-merged.result refl
          c.drop_child-merged.ensures.child c.drop_child-merged.ensures.records));
      none = λ e. cc;
      spares = let s1 = c.remove_in.ensures.spares in omega arith;
      rooms =
          let gone = c.drop_child-merged.result in
          let inner = subst (λ z. InnerIn z gone) (sym c.drop_child-merged.ensures.records)
          (inner-refilled n p (row (remove (kids n p) c.in-Some.slot)) gone (inner-ready m g2 p k can f finds l j x rem
          n (Some c.in-Some.slot) settles c.in-Some.slot gone c.drop_child-merged.ensures.child)) in
          let one = room-given (records c.drop_child-merged.new.store) gone c.give_back.result inner
          c.give_back.ensures.line in
          let r1 = c.remove_in.ensures.rooms in let r2 = c.settle.ensures.rooms in
          let r3 = c.drop_child-merged.ensures.rooms in let r4 = c.give_back.ensures.rooms in omega arith;
      count =
          let has = has-ready m g2 p k can f finds l j x rem n (Some c.in-Some.slot) settles in
          let named = subst (λ z. IsSome (finite.get z c.drop_child-merged.result))
          (sym c.drop_child-merged.ensures.records) (named-refilled n p (row (remove (kids n p) c.in-Some.slot))
          c.drop_child-merged.result
          (has.each c.in-Some.slot c.drop_child-merged.result c.drop_child-merged.ensures.child)) in
          let u = records c.drop_child-merged.new.store in let b = c.drop_child-merged.result in
          let a = len-settles l n c.args.node c.find_at-found.result.slot c.find_at-found.result.child c.settle.result
          c.settle.ensures.settles in
          let d = ap finite.len c.drop_child-merged.ensures.records
          ∙ len-refilled n c.args.node (row (remove (kids n c.args.node) c.in-Some.slot)) in
          let e = ap finite.len c.give_back.ensures.records in let without = len-gone u b named in
          let s1 = c.remove_in.ensures.count in omega arith;
    }

pub returns-in-None : goal.returns-in-None
returns-in-None g t c = let m = records c.args.store.now in let p = c.args.node in let k = c.args.branch.first in
    let j = c.args.branch.level in let g2 = c.args.height - 2 in let f = c.find_at-found.result in
    let finds = c.find_at-found.ensures.found in
    let can = above m c.args.height j p k c.requires.node c.if-height-branch.false c.requires.remove in
    let l = records c.remove_in.new.store in let x = c.in_ok-gone.gone in
    let rem = child m l c.args.height j f.child f.rest x c.requires.node c.if-height-branch.false
    c.in_ok-gone.ensures.removes in let n = records c.settle.new.store in
    let settles = subst (λ o. Settles l n p f.slot f.child o) c.in-None.is c.settle.ensures.settles in
    let s2 = c.settle.ensures.spares in let s3 = c.lessen.ensures.spares in
    record {
      removes = back m (records c.lessen.new.store) c.args.height j p k x c.requires.node c.if-height-branch.false
          (removes-ready m g2 p k can f finds l j x rem n None settles (records c.lessen.new.store)
          (c.lessen.ensures.records ∙ ap (λ z. resummed z p (row (kids n p))) (sym (kept-whole n p
          (has-ready m g2 p k can f finds l j x rem n None settles)
          (links-ready m g2 p k can f finds l j x rem n None settles)))));
      less = c.in_ok-gone.ensures.less;
      most = c.in_ok-gone.ensures.most;
      clean =
          let clean = clean-child m l c.args.height j f.child x c.requires.node c.if-height-branch.false
          c.in_ok-gone.ensures.clean in
          clean-back m (records c.lessen.new.store) c.args.height j p x c.requires.node c.if-height-branch.false
          (cleans-ready m g2 p k can f finds l j x rem n None settles clean (records c.lessen.new.store)
          (c.lessen.ensures.records ∙ ap (λ z. resummed z p (row (kids n p))) (sym (kept-whole n p
          (has-ready m g2 p k can f finds l j x rem n None settles)
          (links-ready m g2 p k can f finds l j x rem n None settles)))) refl);
      none = λ e. cc;
      spares = let s1 = c.remove_in.ensures.spares in omega arith;
      rooms =
          let r1 = c.remove_in.ensures.rooms in let r2 = c.settle.ensures.rooms in let r3 = c.lessen.ensures.rooms in
          omega arith;
      count =
          let a = len-settles l n c.args.node c.find_at-found.result.slot c.find_at-found.result.child c.settle.result
          c.settle.ensures.settles in
          let d = ap finite.len c.lessen.ensures.records ∙ len-resummed n c.args.node (row (kids n c.args.node)) in
          let s1 = c.remove_in.ensures.count in omega arith;
    }
