-- Where names stand in a tree.
use Rattle.line_tree.proofs.Common.{◌≡◌, ℕ, zero, suc, ◌+◌, ◌-◌, ◌<◌, inl, inr, List, [], ◌∷◌, length, take, map, refl}
use Rattle.line_tree.proofs.Common.{sym, ap, ◌∙◌, subst, arith, IfSome, IsSome, slice_get, Option, None, Some}
use Rattle.line_tree.proofs.Common.{AllByRecursion, flat_map, sum_by, option_map, cases_lt, sum_by-cons, none-some}
use Rattle.line_tree.proofs.Common.{same_Some, slice_get_within, Holds, IsLinked, IsTree, Links, line_of, lines_at}
use Rattle.line_tree.proofs.Common.{lines_in, tree_at, LineContent, Named, lines, NodePtr, Records, kids, at_some}
use Rattle.line_tree.proofs.Common.{IsChild, IsLineAt, Sits, lines_before}
use Rattle.line_tree.proofs.TreeLaws.{child-tree, count-tree, get-left, get-right, tops-tree_at}
use Rattle.std.specs.FinMap as finite

-- ---- links
linked-at : (m : Records) (p : NodePtr) (from i : ℕ) (cs : List NodePtr) (c : NodePtr) → Links m p from cs →
    slice_get cs i ≡ Some c → IsLinked m p (from + i) c
linked-at m p from i [] c links at = absurd (none-some c at)
linked-at m p from zero (d ∷ cs) c links at =
    let e : from ≡ from + 0 = omega arith in
    subst (λ n. IsLinked m p n c) e (subst (λ q. IsLinked m p from q) (same_Some d c at) links.0)
linked-at m p from (suc i) (d ∷ cs) c links at =
    let e : suc from + i ≡ from + suc i = omega arith in
    subst (λ n. IsLinked m p n c) e (linked-at m p (suc from) i cs c links.1 at)

pub linked : (m : Records) (h : ℕ) (q : NodePtr) (i : ℕ) (c : NodePtr) → IsChild m h q i c → IsLinked m q i c
linked m h q i c child =
    let e : 0 + i ≡ i = omega arith in
    subst (λ n. IsLinked m q n c) e (linked-at m q 0 i (kids m q) c
    (subst (λ cs. Links m q 0 cs) (tops-tree_at m h (kids m q)) child.tree.1) child.at)

pub child-is-tree : (m : Records) (h : ℕ) (q : NodePtr) (i : ℕ) (c : NodePtr) → IsChild m h q i c → IsTree m h c
child-is-tree m h q i c child = child-tree m h (kids m q) i c child.tree.2 child.at

-- ---- from a line to its child
pub record Through (m : Records) (h : ℕ) (cs : List NodePtr) (k : ℕ) (l : Named) : Type 0 where
  pub slot : ℕ
  pub rest : ℕ
  pub child : NodePtr
  pub at : slice_get cs slot ≡ Some child
  pub place : k ≡ sum_by (lines_at m) (take slot cs) + rest
  pub line : slice_get (lines_in m h child) rest ≡ Some l

pub through : (m : Records) (h : ℕ) (cs : List NodePtr) (k : ℕ) (l : Named) →
    AllByRecursion (Holds m h) (map (tree_at m h) cs) → slice_get (flat_map (lines h) (map (tree_at m h) cs)) k
    ≡ Some l → Through m h cs k l
through m h [] k l all at = absurd (none-some l at)
through m h (c ∷ cs) k l all at =
    let ls = lines_in m h c in let rest = flat_map (lines h) (map (tree_at m h) cs) in let n = count-tree m h c all.0 in
    elim (cases_lt k (length ls)) [
      | inl below ↦ record {
        slot = 0;
        rest = k;
        child = c;
        at = refl;
        place = omega arith;
        line = sym (get-left ls rest k below) ∙ at;
      }
      | inr above ↦
          let e : k ≡ length ls + (k - length ls) = omega arith in
          let t = through m h cs (k - length ls) l all.1 (sym (get-right ls rest (k - length ls) k e) ∙ at) in
          let s = sum_by-cons (lines_at m) c (take t.slot cs) in let p = t.place in
          record { slot = suc t.slot; rest = t.rest; child = t.child; at = t.at; place = omega arith; line = t.line }
    ]

sits-one : (m : Records) (d : ℕ) (r q p : NodePtr) (o k : ℕ) → Sits m d 0 r q o → IsLineAt (lines_in m 0 q) k p →
    Sits m d 0 r p (o + k)
sits-one m d r q p o k sits at = one (line_of (finite.get m q)) k at where
  one : (l : Option LineContent) (k : ℕ) → IsLineAt (lines zero (q, l)) k p → Sits m d 0 r p (o + k)
  one None k at = absurd (none-some p at)
  one (Some l) zero at = let e : o ≡ o + 0 = omega arith in
      subst (λ x. Sits m d 0 r p x) e (subst (λ x. Sits m d 0 r x o) (same_Some q p at) sits)
  one (Some l) (suc k) at = absurd (none-some p at)

pub named_line : (ls : List Named) (k : ℕ) (p : NodePtr) → IsLineAt ls k p →
    (l : Named) × (slice_get ls k ≡ Some l) × (l.0 ≡ p)
named_line ls k p at = of (slice_get ls k) refl at where
  of : (o : Option Named) → slice_get ls k ≡ o → option_map (λ l. l.0) o ≡ Some p →
      (l : Named) × (slice_get ls k ≡ Some l) × (l.0 ≡ p)
  of None is at = absurd (none-some p at)
  of (Some l) is at = (l, is, same_Some l.0 p at)

pub sits-line : (m : Records) (h d : ℕ) (r q p : NodePtr) (o k : ℕ) → IsTree m h q → Sits m d h r q o →
    IsLineAt (lines_in m h q) k p → Sits m (d + h) 0 r p (o + k)
sits-line m zero d r q p o k tree sits at = let e : d ≡ d + 0 = omega arith in
    subst (λ x. Sits m x 0 r p (o + k)) e (sits-one m d r q p o k sits at)
sits-line m (suc h) d r q p o k tree sits at =
    let l = named_line (lines_in m (suc h) q) k p at in
    let t = through m h (kids m q) k l.0 tree.2 l.1 in
    let child = child-tree m h (kids m q) t.slot t.child tree.2 t.at in
    let next = o + lines_before m q t.slot in
    let down = sits-line m h (suc d) r t.child p next t.rest child (
      q,
      t.slot,
      o,
      sits,
      record { tree = tree; at = t.at },
      refl,
    ) (ap (option_map (λ x. x.0)) t.line ∙ ap (λ x. Some x) l.2) in
    let place = t.place in
    let levels : suc d + h ≡ d + suc h = omega arith in
    let e : next + t.rest ≡ o + k = omega arith in
    subst (λ x. Sits m x 0 r p (o + k)) levels (subst (λ x. Sits m (suc d + h) 0 r p x) e down)

-- a line of the root
pub sits : (m : Records) (h : ℕ) (r p : NodePtr) (k : ℕ) → IsTree m h r → IsLineAt (lines_in m h r) k p →
    Sits m h 0 r p k
sits m h r p k tree at = let d : 0 + h ≡ h = omega arith in let o : 0 + k ≡ k = omega arith in
    subst (λ x. Sits m x 0 r p k) d (subst (λ x. Sits m (0 + h) 0 r p x) o
    (sits-line m h 0 r r p 0 k tree (refl, refl) at))

-- ---- one level up
pub level : (m : Records) (h j : ℕ) (r p : NodePtr) (o : ℕ) → j < h → Sits m (h - j) j r p o →
    Sits m (suc (h - suc j)) j r p o
level m h j r p o less s = let e : h - j ≡ suc (h - suc j) = omega arith in subst (λ x. Sits m x j r p o) e s

-- what the record of a child says
pub child-named : (m : Records) (h : ℕ) (q : NodePtr) (i : ℕ) (c : NodePtr) → IsChild m h q i c →
    IsSome (finite.get m c)
child-named m h q i c child = subst (λ x. IsSome x) (sym (linked m h q i c child).is) refl

pub child-parent : (m : Records) (h : ℕ) (q : NodePtr) (i : ℕ) (c : NodePtr) → IsChild m h q i c →
    (up : Option NodePtr) → IfSome (finite.get m c) (λ x. up ≡ x.parent) → up ≡ Some q
child-parent m h q i c child up says = let l = linked m h q i c child in
    at_some (finite.get m c) (λ x. up ≡ x.parent) l.found says l.is ∙ l.parent

pub child-slot : (m : Records) (h : ℕ) (q : NodePtr) (i : ℕ) (c : NodePtr) → IsChild m h q i c → (slot : ℕ) →
    IfSome (finite.get m c) (λ x. slot ≡ x.slot) → slot ≡ i
child-slot m h q i c child slot says = let l = linked m h q i c child in
    at_some (finite.get m c) (λ x. slot ≡ x.slot) l.found says l.is ∙ l.slot

pub record Up (m : Records) (d j : ℕ) (r p : NodePtr) (o : ℕ) (up : NodePtr) (slot : ℕ) : Type 0 where
  pub base : ℕ
  pub sits : Sits m d (suc j) r up base
  pub child : IsChild m j up slot p
  pub offset : o ≡ base + lines_before m up slot

pub up_from : (m : Records) (d j : ℕ) (r p : NodePtr) (o : ℕ) → Sits m (suc d) j r p o → (parent : Option NodePtr) →
    IfSome (finite.get m p) (λ x. parent ≡ x.parent) → (up : NodePtr) → parent ≡ Some up
    → (slot : ℕ) → IfSome (finite.get m p) (λ x. slot ≡ x.slot) → Up m d j r p o up slot
up_from m d j r p o s parent says up is slot slot_says =
    let q = same_Some s.0 up (sym (child-parent m j s.0 s.1 p s.4 parent says) ∙ is) in
    let i = sym (child-slot m j s.0 s.1 p s.4 slot slot_says) in
    let at_up : Up m d j r p o up s.1 = subst (λ x. Up m d j r p o x s.1) q
    (record { base = s.2; sits = s.3; child = s.4; offset = s.5 }) in
    subst (λ x. Up m d j r p o up x) i at_up

pub line-within : (ls : List Named) (k : ℕ) (p : NodePtr) → IsLineAt ls k p → k < length ls
line-within ls k p at = let l = named_line ls k p at in slice_get_within ls k l.0 l.1
