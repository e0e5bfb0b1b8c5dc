-- A removal at a node, from the removal at its child.
use Rattle.line_tree.proofs.Common.{◌≡◌, ℕ, suc, ◌+◌, ◌≤◌, List, [], ◌∷◌, ◌++◌, length, map, sym, ap, ◌∙◌, subst, arith}
use Rattle.line_tree.proofs.Common.{AllByRecursion, length-map, removed, Among, CanFill, FitsSum, refilled, Count, plus}
use Rattle.line_tree.proofs.Common.{IsBalanced, Named, Tree, names, tops, total, NodePtr, Records, kids, row, lines_in}
use Rattle.line_tree.proofs.Common.{tree_at, get_unmoved, length-row, HasRow, IsWide, KeepsLink, lines_of, names_of}
use Rattle.line_tree.proofs.Common.{CanRemove, Removes, Shrinks, ◌≢◌, slice_range}
use Rattle.line_tree.proofs.BuildLaws.{sum-trees, tree-is}
use Rattle.line_tree.proofs.FrameLaws.{holds-same, names-all-held, tops-among}
use Rattle.line_tree.proofs.GrowLaws.{to-one}
use Rattle.line_tree.proofs.LessLaws.{total-gone}
use Rattle.line_tree.proofs.ShrinkLaws.{shrinks-up}
use Rattle.line_tree.proofs.StepLaws.{keeps-after, keeps-refilled, keeps-then}
use Rattle.line_tree.proofs.SumLaws.{fits-left, fits-right, total-append}
use Rattle.line_tree.proofs.TreeLaws.{top-tree_at}
use Rattle.std.specs.FinMap as finite

-- ---- sums
part-fits : (a c b : Count) → FitsSum (plus a (plus c b)) → FitsSum c
part-fits a c b fits = fits-left c b (fits-right a (plus c b) fits)

total-parts : (xs cs ys : List Named) → total (xs ++ (cs ++ ys)) ≡ plus (total xs) (plus (total cs) (total ys))
total-parts xs cs ys = total-append xs (cs ++ ys) ∙ ap (plus (total xs)) (total-append cs ys)

pub fits-part : (xs cs ys : List Named) → FitsSum (total (xs ++ (cs ++ ys))) → FitsSum (total cs)
fits-part xs cs ys fits = part-fits (total xs) (total cs) (total ys) (subst FitsSum (total-parts xs cs ys) fits)

pub fits-removed : (ls : List Named) (from to : ℕ) → from ≤ to → FitsSum (total ls) →
    FitsSum (total (removed from to ls))
fits-removed ls from to ordered fits =
    fits-left (total (removed from to ls)) (total (slice_range ls from to))
    (subst FitsSum (sym (total-gone ls from to ordered)) fits)

-- ---- the new children can be given
pub can-fill : (m l : Records) (h : ℕ) (p : NodePtr) (ts : List (Tree h)) (k j : ℕ) (x : NodePtr) (us : List (Tree h)) →
    Shrinks m l h ts k j x us → (Among p (names_of h ts) → ⊥) → HasRow l p → length us ≤ 12 →
    FitsSum (total (lines_of h ts))
    → CanFill l p (tops h us)
can-fill m l h p ts k j x us g off_tree has few fits = let n = length-map us (λ (t : Tree h). t.0) in record {
  found = has.found;
  is = has.is;
  inner = has.inner;
  long = ap length has.children ∙ length-row (kids l p) has.few;
  few = omega arith;
  each = λ c a. names-all-held l h us g.holds c (tops-among h us c a);
  apart = λ a. off_tree (g.within p (tops-among h us p a));
  fits = subst FitsSum (sym (sum-trees l h us g.holds ∙ ap total g.line))
      (fits-removed (lines_of h ts) k (k + length (lines_in m j x)) (omega arith) fits);
}

-- ---- what is left of the node
pub finish : (m l n : Records) (h : ℕ) (p : NodePtr) (k j : ℕ) (x : NodePtr) (us : List (Tree h)) →
    (can : CanRemove m (suc h) p k) → Shrinks m l h (map (tree_at m h) (kids m p)) k j x us →
    finite.get l p ≡ finite.get m p
    → CanFill l p (tops h us) → AllByRecursion (IsBalanced h) us → length (kids m p) ≤ length us + 1 →
    n ≡ refilled l p (row (tops h us)) → Removes m n (suc h) p k j x
finish m l n h p k j x us can g same fill balanced long is =
    let ts = map (tree_at m h) (kids m p) in
    let up = shrinks-up m l n h p ts k j x us g can.distinct.0 fill is in
    let tree = tree-is n (suc h) (p, us) up.holds.0 in
    let few = fill.few in let e = length-map us (λ (t : Tree h). t.0) in let f = length-map (kids m p) (tree_at m h) in
    record {
      shrinks = subst (λ t. Shrinks m n (suc h) ((p, ts) ∷ []) k j x (t ∷ [])) (sym tree) up;
      wide = λ least w. subst (IsWide least (suc h)) (sym tree) (let low = w.0 in (omega arith, omega arith, balanced));
      link = subst (λ z. KeepsLink m z p) (sym is)
          (keeps-after m l (refilled l p (row (tops h us))) p same (keeps-refilled l p (tops h us) fill));
    }

-- a record that is in the tree no more is given back
pub removes-drop : (m n : Records) (h : ℕ) (p : NodePtr) (k j : ℕ) (x b : NodePtr) → Removes m n h p k j x →
    (Among b (names h (tree_at n h p)) → ⊥) → Among b (names h (tree_at m h p)) →
    (Among b (names j (tree_at m j x)) → ⊥) → p ≢ b → Removes m (finite.remove n b) h p k j x
removes-drop m n h p k j x b r gone was other p_b =
    let g = r.shrinks in let last = finite.remove n b in let t = tree_at n h p in
    let off : (q : NodePtr) → Among q (names h t) → finite.get last q
    ≡ finite.get n q = λ q a. get_unmoved n b q (λ e. gone (subst (λ z. Among z (names h t)) e a)) in
    let holds = holds-same n last h t g.holds.0 off in
    let same : tree_at last h p ≡ t = ap (tree_at last h) (sym (top-tree_at n h p)) ∙ tree-is last h t holds in
    record {
      shrinks = subst (λ u. Shrinks m last h (tree_at m h p ∷ []) k j x (u ∷ [])) (sym same) (record {
        holds = (holds, tt);
        line = g.line;
        gone = g.gone;
        tree = g.tree;
        distinct = g.distinct;
        within = g.within;
        inside = g.inside;
        out = g.out;
        other = λ q outside. get_unmoved n b q (λ e.
            outside (to-one q (names h (tree_at m h p)) (subst (λ z. Among z (names h (tree_at m h p))) (sym e) was)))
            ∙ g.other q outside;
        left = λ q a. get_unmoved n b q (λ e. other (subst (λ z. Among z (names j (tree_at m j x))) e a)) ∙ g.left q a;
      });
      wide = λ least w. subst (IsWide least h) (sym same) (r.wide least w);
      link = keeps-then m n last p r.link (get_unmoved n b p p_b);
    }

pub drop-tree : (m n : Records) (h : ℕ) (p : NodePtr) (k j : ℕ) (x b : NodePtr) → Removes m n h p k j x →
    (Among b (names h (tree_at n h p)) → ⊥) → tree_at (finite.remove n b) h p ≡ tree_at n h p
drop-tree m n h p k j x b r gone = let last = finite.remove n b in let t = tree_at n h p in
    ap (tree_at last h) (sym (top-tree_at n h p))
    ∙ tree-is last h t (holds-same n last h t r.shrinks.holds.0 (λ q a.
    get_unmoved n b q (λ e. gone (subst (λ z. Among z (names h t)) e a))))
