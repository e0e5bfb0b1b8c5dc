-- What holds of a tree that stands in records.
use Rattle.line_tree.proofs.Common.{◌≡◌, ℕ, zero, suc, ◌+◌, ◌-◌, ◌<◌, ◌≤◌, List, [], ◌∷◌, ◌++◌, length, take, map, refl}
use Rattle.line_tree.proofs.Common.{sym, ap, ◌∙◌, subst, arith, length-append, IsSome, slice_get, Option, None, Some}
use Rattle.line_tree.proofs.Common.{AllByRecursion, flat_map, sum_by, option_map, sum_by-cons, none-some, same_Some}
use Rattle.line_tree.proofs.Common.{Holds, IsTree, line_of, lines_at, lines_in, sum_at, sum_of, tree_at, LineContent}
use Rattle.line_tree.proofs.Common.{Named, Tree, lines, tops, total, NodePtr, Records, kids, row, Finds, HasRow}
use Rattle.line_tree.proofs.Common.{lines_below, Found}
use Rattle.std.specs.FinMap as finite

-- ---- lists
pub get-left : {X : Type 0} (xs ys : List X) (i : ℕ) → i < length xs → slice_get (xs ++ ys) i ≡ slice_get xs i
get-left [] ys i h = absurd (omega arith)
get-left (x ∷ xs) ys zero h = refl
get-left (x ∷ xs) ys (suc i) h = get-left xs ys i (omega arith)

pub get-right : {X : Type 0} (xs ys : List X) (i k : ℕ) → k ≡ length xs + i → slice_get (xs ++ ys) k ≡ slice_get ys i
get-right [] ys i k h = let e : k ≡ i = omega arith in ap (slice_get ys) e
get-right (x ∷ xs) ys i zero h = absurd (omega arith)
get-right (x ∷ xs) ys i (suc k) h = get-right xs ys i k (omega arith)

-- ---- sums and names
pub total-lines : (ls : List Named) → (total ls).lines ≡ length ls
total-lines [] = refl
total-lines (l ∷ ls) = let r = total-lines ls in omega arith

pub sum-held : (m : Records) (h : ℕ) (t : Tree h) → Holds m h t → sum_at m t.0 ≡ total (lines h t)
sum-held m zero t holds = ap sum_of holds.is ∙ holds.sum
sum-held m (suc h) t holds = ap sum_of holds.0.is ∙ holds.0.sum

pub count-held : (m : Records) (h : ℕ) (t : Tree h) → Holds m h t → lines_at m t.0 ≡ length (lines h t)
count-held m h t holds = ap (λ s. s.lines) (sum-held m h t holds) ∙ total-lines (lines h t)

pub named-held : (m : Records) (h : ℕ) (t : Tree h) → Holds m h t → IsSome (finite.get m t.0)
named-held m zero t holds = subst (λ o. IsSome o) (sym holds.is) refl
named-held m (suc h) t holds = subst (λ o. IsSome o) (sym holds.0.is) refl

-- ---- the tree at a name
pub top-tree_at : (m : Records) (h : ℕ) (p : NodePtr) → (tree_at m h p).0 ≡ p
top-tree_at m zero p = refl
top-tree_at m (suc h) p = refl

pub tops-tree_at : (m : Records) (h : ℕ) (cs : List NodePtr) → tops h (map (tree_at m h) cs) ≡ cs
tops-tree_at m h [] = refl
tops-tree_at m h (c ∷ cs) = λ i. top-tree_at m h c i ∷ tops-tree_at m h cs i

pub count-tree : (m : Records) (h : ℕ) (p : NodePtr) → IsTree m h p → lines_at m p ≡ length (lines_in m h p)
count-tree m h p is = ap (lines_at m) (sym (top-tree_at m h p)) ∙ count-held m h (tree_at m h p) is

pub sum-tree : (m : Records) (h : ℕ) (p : NodePtr) → IsTree m h p → sum_at m p ≡ total (lines_in m h p)
sum-tree m h p is = ap (sum_at m) (sym (top-tree_at m h p)) ∙ sum-held m h (tree_at m h p) is

pub named-tree : (m : Records) (h : ℕ) (p : NodePtr) → IsTree m h p → IsSome (finite.get m p)
named-tree m h p is = subst (λ q. IsSome (finite.get m q)) (top-tree_at m h p) (named-held m h (tree_at m h p) is)

pub child-tree : (m : Records) (h : ℕ) (cs : List NodePtr) (i : ℕ) (c : NodePtr) →
    AllByRecursion (Holds m h) (map (tree_at m h) cs) → slice_get cs i ≡ Some c → IsTree m h c
child-tree m h [] i c all is = absurd (none-some c is)
child-tree m h (d ∷ cs) zero c all is = subst (λ q. IsTree m h q) (same_Some d c is) all.0
child-tree m h (d ∷ cs) (suc i) c all is = child-tree m h cs i c all.1 is

pub counted : (m : Records) (h : ℕ) (cs : List NodePtr) → AllByRecursion (Holds m h) (map (tree_at m h) cs) →
    sum_by (lines_at m) cs ≡ length (flat_map (lines h) (map (tree_at m h) cs))
counted m h [] all = refl
counted m h (c ∷ cs) all =
    let here = count-tree m h c all.0 in let rest = counted m h cs all.1 in
    let s = sum_by-cons (lines_at m) c cs in
    let l = length-append (lines h (tree_at m h c)) (flat_map (lines h) (map (tree_at m h) cs)) in omega arith

-- ---- one level down
pub row-tree : (m : Records) (h : ℕ) (p : NodePtr) → IsTree m (suc h) p → HasRow m p
row-tree m h p is = let node = is.0 in record {
  found = node.found;
  is = node.is;
  children = node.children ∙ ap row (tops-tree_at m h (kids m p));
  few = subst (λ cs. length cs ≤ 12) (tops-tree_at m h (kids m p)) node.few;
  inner = node.inner;
  each = λ i c at. named-tree m h c (child-tree m h (kids m p) i c is.2 at);
}

pub row-above : (m : Records) (h n : ℕ) (p : NodePtr) → h ≡ suc n → IsTree m h p → HasRow m p
row-above m h n p e is = row-tree m n p (subst (λ k. IsTree m k p) e is)

pub below-tree : (m : Records) (h : ℕ) (p : NodePtr) → IsTree m (suc h) p →
    lines_below m p ≡ length (lines_in m (suc h) p)
below-tree m h p is = counted m h (kids m p) is.2

pub whole-below : (m : Records) (h : ℕ) (p : NodePtr) → IsTree m (suc h) p → lines_at m p ≡ lines_below m p
whole-below m h p is = count-tree m (suc h) p is ∙ sym (below-tree m h p is)

pub line-found : (m : Records) (h : ℕ) (cs : List NodePtr) (i r k : ℕ) (c : NodePtr) →
    AllByRecursion (Holds m h) (map (tree_at m h) cs) → slice_get cs i ≡ Some c
    → sum_by (lines_at m) (take i cs) + r ≡ k → r < lines_at m c →
    slice_get (flat_map (lines h) (map (tree_at m h) cs)) k ≡ slice_get (lines_in m h c) r
line-found m h [] i r k c all at place rest = absurd (none-some c at)
line-found m h (d ∷ cs) zero r k c all at place rest =
    let e : k ≡ r = omega arith in let same = same_Some d c at in let n = count-tree m h d all.0 in
    let less = subst (λ q. r < lines_at m q) (sym same) rest in
    ap (slice_get (flat_map (lines h) (map (tree_at m h) (d ∷ cs)))) e
    ∙ get-left (lines_in m h d) (flat_map (lines h) (map (tree_at m h) cs)) r (omega arith)
    ∙ ap (λ q. slice_get (lines_in m h q) r) same
line-found m h (d ∷ cs) (suc i) r k c all at place rest =
    let n = count-tree m h d all.0 in let s = sum_by-cons (lines_at m) d (take i cs) in
    get-right (lines_in m h d) (flat_map (lines h) (map (tree_at m h) cs)) (k - lines_at m d) k (omega arith)
    ∙ line-found m h cs i r (k - lines_at m d) c all.1 at (omega arith) rest

pub record Descends (m : Records) (h : ℕ) (p : NodePtr) (k : ℕ) (f : Found) : Type 0 where
  pub tree : IsTree m h f.child
  pub line : slice_get (lines_in m (suc h) p) k ≡ slice_get (lines_in m h f.child) f.rest
  pub within : f.rest < length (lines_in m h f.child)

pub descends : (m : Records) (h : ℕ) (p : NodePtr) (k : ℕ) (f : Found) → IsTree m (suc h) p → Finds m p k f →
    Descends m h p k f
descends m h p k f is found =
    let tree = child-tree m h (kids m p) f.slot f.child is.2 found.child in let n = count-tree m h f.child tree in
    let less = found.rest in
    record {
      tree = tree;
      line = line-found m h (kids m p) f.slot f.rest k f.child is.2 found.child found.place
          found.rest;
      within = omega arith;
    }

-- at the bottom
pub at_line : (m : Records) (p : NodePtr) (k : ℕ) → k < length (lines_in m zero p) →
    option_map (λ l. l.0) (slice_get (lines_in m zero p) k) ≡ Some p
at_line m p k = one (line_of (finite.get m p)) k where
  one : (o : Option LineContent) (k : ℕ) → k < length (lines zero (p, o)) →
      option_map (λ l. l.0) (slice_get (lines zero (p, o)) k) ≡ Some p
  one None k h = absurd (omega arith)
  one (Some l) zero h = refl
  one (Some l) (suc k) h = absurd (omega arith)

pub named-row : (m : Records) (p : NodePtr) → HasRow m p → IsSome (finite.get m p)
named-row m p has = subst (λ o. IsSome o) (sym has.is) refl
