-- A root with one child, and what was taken out of a tree: given back, and the lines that are left.
use Rattle.line_tree.proofs.Common.{◌≡◌, ℕ, zero, suc, ◌+◌, ◌-◌, ◌<◌, ◌≤◌, inl, inr, List, [], ◌∷◌, ◌++◌, length, map}
use Rattle.line_tree.proofs.Common.{take, drop, refl, sym, ap, ◌∙◌, subst, arith, ◌≢◌, IsSome, slice_get, Option, None}
use Rattle.line_tree.proofs.Common.{Some, AllByRecursion, append-nil, none-some, same_Some, removed, Among, Distinct}
use Rattle.line_tree.proofs.Common.{FitsSum, Holds, IsTree, line_of, lines_in, tree_at, IsBalanced, IsBalancedRoot}
use Rattle.line_tree.proofs.Common.{Named, Tree, inner, lines, names, total, LineContent, NodePtr, Record, Records}
use Rattle.line_tree.proofs.Common.{update, with_parent, kids, get_unmoved, some_of, get-update-other, remove-named}
use Rattle.line_tree.proofs.Common.{update-named, Without, IsWide, Stands, StandsAlone, lines_of, names_of, CanLower}
use Rattle.line_tree.proofs.Common.{CanRemove, Cleans, Lowers, Removes}
use mathlib.Core.Bool.{false≢true}
use Rattle.line_tree.proofs.AmongLaws.{among-left, among-or}
use Rattle.line_tree.proofs.BuildLaws.{tree-is}
use Rattle.line_tree.proofs.DistinctLaws.{distinct-left}
use Rattle.line_tree.proofs.FillLaws.{at-update}
use Rattle.line_tree.proofs.FrameLaws.{holds-moved, holds-same}
use Rattle.line_tree.proofs.GrowLaws.{of-one, to-one, unnamed}
use Rattle.line_tree.proofs.RemoveLaws.{fits-removed}
use Rattle.line_tree.proofs.TreeLaws.{top-tree_at}
use Rattle.std.specs.FinMap as finite

-- ---- a tree that stands can lose a line
two-wide : (m : Records) (h : ℕ) (r : NodePtr) → Stands m h r → 2 ≤ length (lines_in m h r) → IsWide 2 h (tree_at m h r)
two-wide m zero r s two = tt
two-wide m (suc zero) r s two = let all = leaves m (tree_at m 1 r).1 s.tree.2 in let b = s.balanced in
    (omega arith, b.1, b.2) where
      leaves : (m : Records) (ts : List (Tree 0)) → AllByRecursion (Holds m 0) ts → length (lines_of 0 ts) ≡ length ts
      leaves m [] all = refl
      leaves m (t ∷ ts) all = one t.1 all.0.some (leaves m ts all.1) where
        one : (o : Option LineContent) → IsSome o → length (lines_of 0 ts) ≡ length ts →
            length (lines zero (t.0, o) ++ lines_of 0 ts) ≡ suc (length ts)
        one None s e = absurd (false≢true s)
        one (Some l) s e = ap suc e
two-wide m (suc (suc h)) r s two = s.balanced

pub can-remove : (m : Records) (h : ℕ) (r : NodePtr) (k : ℕ) → Stands m h r → 2 ≤ length (lines_in m h r) →
    k < length (lines_in m h r) → CanRemove m h r k
can-remove m h r k s two place =
    record { tree = s.tree; wide = two-wide m h r s two; distinct = s.distinct; place = place; fits = s.fits }

pub line-removed : (m n : Records) (h : ℕ) (r : NodePtr) (k j : ℕ) (x : NodePtr) → Removes m n h r k j x →
    lines_in n h r ≡ removed k (k + length (lines_in m j x)) (lines_in m h r)
line-removed m n h r k j x removes =
    sym (append-nil (lines_in n h r)) ∙ removes.shrinks.line
    ∙ ap (removed k (k + length (lines_in m j x))) (append-nil (lines_in m h r))

pub can-lower : (m n : Records) (h : ℕ) (r : NodePtr) (k j : ℕ) (x : NodePtr) → Stands m h r →
    2 ≤ length (lines_in m h r) → Removes m n h r k j x → CanLower n h r
can-lower m n h r k j x s two removes =
    let g = removes.shrinks in let link = removes.link in let root = s.root in
    let ordered : k ≤ k + length (lines_in m j x) = omega arith in
    record {
      tree = g.holds.0;
      wide = removes.wide 1 (two-wide m h r s two);
      distinct = subst Distinct (append-nil (names h (tree_at n h r))) g.distinct;
      root = record {
        found = link.after;
        is = link.is;
        parent = link.parent
            ∙ ap (λ z. z.parent) (same_Some link.before root.found (sym link.was ∙ root.is)) ∙ root.parent;
      };
      fits = subst (λ ls. FitsSum (total ls)) (sym (line-removed m n h r k j x removes))
          (fits-removed (lines_in m h r) k (k + length (lines_in m j x)) ordered s.fits);
    }

-- ---- the root stays
pub lowers-same : (m : Records) (h : ℕ) (r : NodePtr) → CanLower m h r → IsBalancedRoot h (tree_at m h r) →
    Lowers m m h r h r
lowers-same m h r can balanced = record {
  stands = record { tree = can.tree; balanced = balanced; distinct = can.distinct; root = can.root; fits = can.fits };
  lines = refl;
  within = λ q a. a;
  other = λ q off. refl;
  clean = λ q s out. (s, out);
}

root-balanced : (h : ℕ) (t : Tree h) → 0 < h → IsBalanced h t → IsBalancedRoot h t
root-balanced zero t some b = absurd (omega arith)
root-balanced (suc zero) t some b = let low = b.0 in (omega arith, b.1, b.2)
root-balanced (suc (suc h)) t some b = let low = b.0 in (omega arith, b.1, b.2)

-- ---- its only child is the root
pub lowers-child : (m : Records) (g : ℕ) (r c : NodePtr) → CanLower m (suc (suc g)) r → kids m r ≡ c ∷ [] →
    Lowers m (finite.remove (update m c (λ x. with_parent x None 0)) r) (suc (suc g)) r (suc g) c
lowers-child m g r c can only =
    let h = suc g in let t = tree_at m h c in let set : Record → Record = λ x. with_parent x None 0 in
    let mid = update m c set in let last = finite.remove mid r in
    let whole : tree_at m (suc h) r ≡ (r, t ∷ []) = λ i. (r, map (tree_at m h) (only i)) in
    let holds = subst (Holds m (suc h)) whole can.tree in
    let d = subst (λ z. Distinct (names (suc h) z)) whole can.distinct in
    let wide = subst (IsWide 1 (suc h)) whole can.wide in
    let inside : (q : NodePtr) → Among q (names h t) →
    Among q (names_of h (t ∷ [])) = λ q a. among-left q (names h t) [] a in
    let c_r : c ≢ r = λ e. d.0 (inside r (inl (sym e))) in
    let rec = some_of (finite.get m c) (subst (λ z. IsSome z) (sym holds.2.0.0.is) refl) in
    let at : finite.get last c ≡ Some (set rec.0) = get_unmoved mid r c c_r ∙ at-update m c set rec.0 rec.1 in
    let off : (q : NodePtr) → q ≢ c → q ≢ r → finite.get last q ≡ finite.get m q = λ q n1 n2. get_unmoved mid r q n2
    ∙ get-update-other m c set q n1 in
    let own = distinct-left (names h t) [] d.1 in
    let held : Holds last h t = holds-moved m last h t holds.2.0
    (λ x is. let e = same_Some rec.0 x (sym rec.1 ∙ is) in
    record {
      found = set rec.0;
      is = at;
      children = ap (λ y. y.children) e;
      sum = ap (λ y. y.sum) e;
      line = ap (λ y. y.line) e;
    })
    (λ q a. off q (λ e. own.0 (subst (λ z. Among z (inner h t)) e a)) (λ e.
    d.0 (inside r (inr (subst (λ z. Among z (inner h t)) e a))))) in
    let now = tree-is last h t held in
    let ls : lines_in m (suc h) r ≡ lines h t = ap (lines (suc h)) whole ∙ append-nil (lines h t) in
    record {
      stands = record {
        tree = subst (Holds last h) (sym now) held;
        balanced = subst (IsBalancedRoot h) (sym now) (root-balanced h t (omega arith) wide.2.0);
        distinct = subst (λ z. Distinct (names h z)) (sym now) own;
        root = record { found = set rec.0; is = at; parent = refl };
        fits = subst (λ z. FitsSum (total (lines h z))) (sym now) (subst (λ z. FitsSum (total z)) ls can.fits);
      };
      lines = ap (lines h) now ∙ sym ls;
      within = λ q a. subst (λ z. Among q (names (suc h) z)) (sym whole)
          (inr (inside q (subst (λ z. Among q (names h z)) now a)));
      other = λ q outside.
          let out : Among q (names (suc h) (r, t ∷ [])) →
          ⊥ = λ a. outside (subst (λ z. Among q (names (suc h) z)) (sym whole) a) in
          off q (λ e. out (inr (inside q (inl e)))) (λ e. out (inl e));
      clean = λ q s out.
          let named = remove-named mid r q s in (
            update-named m c set q named.1,
            λ a. elim (subst (λ z. Among q (names (suc h) z)) whole a) [
              | inl e ↦ named.0 e
              | inr b ↦ out (subst (λ z. Among q (names h z)) (sym now) (of-one q (names h t) b))
            ],
          );
    }

-- ---- records that are not in the tree are given back
pub same-without : (u v : Records) (i : ℕ) (s : NodePtr) (ps : List NodePtr) → Stands u i s → Without u v ps →
    ((q : NodePtr) → Among q ps → Among q (names i (tree_at u i s)) → ⊥) → tree_at v i s ≡ tree_at u i s
same-without u v i s ps stands w out =
    let t = tree_at u i s in
    ap (tree_at v i) (sym (top-tree_at u i s))
    ∙ tree-is v i t (holds-same u v i t stands.tree (λ q a. w.other q (λ b. out q b a)))

pub stands-without : (u v : Records) (i : ℕ) (s : NodePtr) (ps : List NodePtr) → Stands u i s → Without u v ps →
    ((q : NodePtr) → Among q ps → Among q (names i (tree_at u i s)) → ⊥) →
    Stands v i s × (lines_in v i s ≡ lines_in u i s)
stands-without u v i s ps stands w out =
    let t = tree_at u i s in
    let off : (q : NodePtr) → Among q (names i t) → finite.get v q ≡ finite.get u q = λ q a.
    w.other q (λ b. out q b a) in
    let same = same-without u v i s ps stands w out in
    let root = stands.root in (
      record {
        tree = subst (Holds v i) (sym same) (holds-same u v i t stands.tree off);
        balanced = subst (IsBalancedRoot i) (sym same) stands.balanced;
        distinct = subst (λ z. Distinct (names i z)) (sym same) stands.distinct;
        root =
            record { found = root.found; is = off s (inl (sym (top-tree_at u i s))) ∙ root.is; parent = root.parent };
        fits = subst (λ z. FitsSum (total (lines i z))) (sym same) stands.fits;
      },
      ap (lines i) same,
    )

-- ---- the line that is handed out
pub record Gone (m : Records) (ls : List Named) (k : ℕ) (x : NodePtr) : Type 0 where
  pub line : LineContent
  pub at : slice_get ls k ≡ Some (x, line)
  pub found : Record
  pub is : finite.get m x ≡ Some found
  pub has : found.line ≡ Some line
  pub one : lines_in m 0 x ≡ (x, line) ∷ []

first-of : (ls : List Named) (k : ℕ) (l : Named) → take 1 (drop k ls) ≡ l ∷ [] → slice_get ls k ≡ Some l
first-of [] zero l is = absurd (let e = ap length is in omega arith)
first-of [] (suc k) l is = absurd (let e = ap length is in omega arith)
first-of (n ∷ ls) zero l is = ap (λ zs. slice_get zs 0) is
first-of (n ∷ ls) (suc k) l is = first-of ls k l is

pub gone-of : (m n : Records) (h : ℕ) (r : NodePtr) (k : ℕ) (x : NodePtr) → Removes m n h r k 0 x →
    Gone m (lines_in m h r) k x
gone-of m n h r k x removes =
    let g = removes.shrinks in let ls = lines_in m h r in
    let l = some_of (line_of (finite.get m x)) g.tree.some in
    let one : lines_in m 0 x ≡ (x, l.0) ∷ [] = ap (λ o. lines zero (x, o)) l.1 in
    let e : k + length (lines_in m 0 x) - k ≡ 1 = let long = ap length one in omega arith in
    let cut : take (k + length (lines_in m 0 x) - k) (drop k (lines_of h (tree_at m h r ∷ []))) ≡ lines_in m 0 x =
    g.gone in
    record {
      line = l.0;
      at = first-of ls k (x, l.0) (ap (λ i. take i (drop k ls)) (sym e)
          ∙ ap (λ zs. take (k + length (lines_in m 0 x) - k) (drop k zs)) (sym (append-nil ls)) ∙ cut ∙ one);
      found = g.tree.found;
      is = g.tree.is;
      has = g.tree.line ∙ l.1;
      one = one;
    }

-- ---- what was taken out stands as it did, and in the tree no more
pub gone-after : (m n u : Records) (h i : ℕ) (r s : NodePtr) (k j : ℕ) (x : NodePtr) → Removes m n h r k j x →
    Lowers n u h r i s → (q : NodePtr) → Among q (names j (tree_at m j x)) → finite.get u q ≡ finite.get m q
gone-after m n u h i r s k j x removes lowers q a =
    lowers.other q (λ b. removes.shrinks.out q a (to-one q (names h (tree_at n h r)) b)) ∙ removes.shrinks.left q a

pub gone-out : (m n u : Records) (h i : ℕ) (r s : NodePtr) (k j : ℕ) (x : NodePtr) → Removes m n h r k j x →
    Lowers n u h r i s → (q : NodePtr) → Among q (names j (tree_at m j x)) → Among q (names i (tree_at u i s)) → ⊥
gone-out m n u h i r s k j x removes lowers q a b =
    removes.shrinks.out q a (to-one q (names h (tree_at n h r)) (lowers.within q b))

pub branch-after : (m n u : Records) (h i : ℕ) (r s : NodePtr) (k j : ℕ) (x : NodePtr) → Removes m n h r k j x →
    Lowers n u h r i s → IsTree u j x × (tree_at u j x ≡ tree_at m j x)
branch-after m n u h i r s k j x removes lowers =
    let t = tree_at m j x in
    let holds = holds-same m u j t removes.shrinks.tree (gone-after m n u h i r s k j x removes lowers) in
    let same : tree_at u j x ≡ t = ap (tree_at u j) (sym (top-tree_at m j x)) ∙ tree-is u j t holds in
    (subst (Holds u j) (sym same) holds, same)

pub only-child : (cs : List NodePtr) (c : NodePtr) → slice_get cs 0 ≡ Some c → length cs ≤ 1 → cs ≡ c ∷ []
only-child [] c at few = absurd (none-some c at)
only-child (d ∷ []) c at few = ap (λ z. z ∷ []) (same_Some d c at)
only-child (d ∷ e ∷ cs) c at few = absurd (omega arith)

-- ---- no other record
pub alone-after : (m n u v : Records) (h i : ℕ) (r s : NodePtr) (k j : ℕ) (x : NodePtr) → StandsAlone m h r →
    Removes m n h r k j x → Cleans m n h r j x → Lowers n u h r i s → Without u v (names j (tree_at m j x)) →
    StandsAlone v i s
alone-after m n u v h i r s k j x alone removes clean lowers w =
    let ps = names j (tree_at m j x) in
    let apart = gone-out m n u h i r s k j x removes lowers in
    let same = same-without u v i s ps lowers.stands w apart in
    record {
      stands = (stands-without u v i s ps lowers.stands w apart).0;
      whole = λ q c. let kept : Among q ps → ⊥ = λ a. unnamed v q c (w.gone q a) in
          subst (λ t. Among q (names i t)) (sym same) (elim (among-or q (names i (tree_at u i s))) [
            | inl a ↦ a
            | inr out ↦
                let before = lowers.clean q (subst (λ o. IsSome o) (w.other q kept) c) out in
                absurd (elim (among-or q (names h (tree_at m h r))) [
                  | inl a ↦ unnamed n q before.0 (clean q a before.1 kept)
                  | inr off ↦ off
                      (alone.whole q (subst (λ o. IsSome o)
                      (removes.shrinks.other q (λ a. off (of-one q (names h (tree_at m h r)) a))) before.0))
                ])
          ]);
    }

-- ---- the lines that are left
pub taken-out : (m n u v : Records) (h i : ℕ) (r s : NodePtr) (k j : ℕ) (x : NodePtr) → StandsAlone m h r →
    Removes m n h r k j x → Cleans m n h r j x → Lowers n u h r i s → Without u v (names j (tree_at m j x)) →
    StandsAlone v i s × (lines_in v i s ≡ removed k (k + length (lines_in m j x)) (lines_in m h r))
taken-out m n u v h i r s k j x alone removes clean lowers w =
    let apart = gone-out m n u h i r s k j x removes lowers in (
      alone-after m n u v h i r s k j x alone removes clean lowers w,
      (stands-without u v i s (names j (tree_at m j x)) lowers.stands w apart).1 ∙ lowers.lines
          ∙ line-removed m n h r k j x removes,
    )
