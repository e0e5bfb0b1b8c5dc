-- A line that is changed, from there up to the root.
--     down            what holds on the way from the root to the line
--     Climbs          so far up the change is counted
--     line-tree, line-can, root-can, starts  at the line
--     Above, above-of one level up, where it isn't counted yet
--     next            where it is
--     climbed         at the root
use Rattle.line_tree.proofs.Common.{◌≡◌, ℕ, zero, suc, ◌+◌, ◌-◌, ◌<◌, ◌≤◌, refl, sym, ap, ◌∙◌, subst, arith, IfSome}
use Rattle.line_tree.proofs.Common.{IsSome, Option, Some, same_Some, Count, Distinct, IsTree, lines_at, lines_in}
use Rattle.line_tree.proofs.Common.{tree_at, LineContent, NodePtr, Records, names, at_some, Finds, IsChild, IsLineAt}
use Rattle.line_tree.proofs.Common.{Sits, lines_before, CanChange, Changes, Found}
use Rattle.line_tree.proofs.BehindLaws.{at-root, child-within, led}
use Rattle.line_tree.proofs.ChangingLaws.{named-as-linked, record-linked}
use Rattle.line_tree.proofs.LowestLaws.{one-line}
use Rattle.line_tree.proofs.PlaceLaws.{child-is-tree, level, line-within, linked, sits}
use Rattle.line_tree.proofs.TreeLaws.{count-tree, named-tree}
use Rattle.std.specs.FinMap as finite

-- ---- the way down
finds-child : (m : Records) (h : ℕ) (q : NodePtr) (i : ℕ) (p : NodePtr) (k b o : ℕ) → IsChild m h q i p →
    o ≡ b + lines_before m q i → o ≤ k → k < o + lines_at m p → Finds m q (k - b) (led m i p k o)
finds-child m h q i p k b o child is low high =
    record { child = child.at; place = omega (arith, is, low); rest = omega (arith, low, high); lines = refl }

below : (m : Records) (h : ℕ) (q : NodePtr) (i : ℕ) (p : NodePtr) (k b o : ℕ) → IsChild m h q i p →
    o ≡ b + lines_before m q i → k < o + lines_at m p → k < b + lines_at m q
below m h q i p k b o child is high = let n = child-within m h q i p child in omega (arith, n, is, high)

module _ (m : Records) (P : ℕ → NodePtr → ℕ → Type 0)
    (step : (h : ℕ) (q : NodePtr) (k : ℕ) → P (suc h) q k → (f : Found) → Finds m q k f → P h f.child f.rest) where
  down-to : (d h : ℕ) (r p : NodePtr) (o k : ℕ) → Sits m d h r p o → o ≤ k → k < o + lines_at m p → P (d + h) r k →
      P h p (k - o)
  down-to zero h r p o k s low high holds =
      let none = s.1 in let e : k ≡ k - o = omega (arith, none) in let f : zero + h ≡ h = omega arith in
      subst (λ q. P h q (k - o)) (sym s.0) (subst (λ n. P h r n) e (subst (λ n. P n r k) f holds))
  down-to (suc d) h r p o k s low high holds =
      let e : suc d + h ≡ d + suc h = omega arith in let is = s.5 in
      step h s.0 (k - s.2)
      (down-to d (suc h) r s.0 s.2 k s.3 (omega (arith, is, low)) (below m h s.0 s.1 p k s.2 o s.4 is high)
      (subst (λ n. P n r k) e holds))
      (led m s.1 p k o) (finds-child m h s.0 s.1 p k s.2 o s.4 is low high)

  -- what holds of a line of the root, and goes down to the child with the line, holds of each node above the line
  pub down : (h j : ℕ) (r p : NodePtr) (o k : ℕ) → j ≤ h → Sits m (h - j) j r p o → o ≤ k → k < o + lines_at m p →
      P h r k → P j p (k - o)
  down h j r p o k within s low high holds = let e : h ≡ (h - j) + j = omega (arith, within) in
      down-to (h - j) j r p o k s low high (subst (λ n. P n r k) e holds)

-- ---- the way up
-- the line is changed below p, j levels up, and what went and what came isn't yet counted above it
pub record Climbs (m l : Records) (h : ℕ) (r : NodePtr) (k : ℕ) (f : LineContent → LineContent) (gone more : Count)
    (j : ℕ) (p : NodePtr) : Type 0 where
  pub before : ℕ
  pub sits : Sits m (h - j) j r p before
  pub low : before ≤ k
  pub high : k < before + lines_at m p
  pub changes : Changes m l j p (k - before) f gone more

-- one level up
pub record Above (m l : Records) (h : ℕ) (r : NodePtr) (k : ℕ) (f : LineContent → LineContent) (gone more : Count)
    (j : ℕ) (p q : NodePtr) : Type 0 where
  pub before : ℕ
  pub sits : Sits m (h - suc j) (suc j) r q before
  pub low : before ≤ k
  pub high : k < before + lines_at m q
  pub found : Found
  pub same : found.child ≡ p
  pub finds : Finds m q (k - before) found
  pub changes : Changes m l j found.child found.rest f gone more

-- a line is a tree
tree-below : (m : Records) (d h : ℕ) (r p : NodePtr) (o : ℕ) → IsTree m (d + h) r → Sits m d h r p o → IsTree m h p
tree-below m zero h r p o tree s = let e : zero + h ≡ h = omega arith in
    subst (IsTree m h) (sym s.0) (subst (λ n. IsTree m n r) e tree)
tree-below m (suc d) h r p o tree s = child-is-tree m h s.0 s.1 p s.4

module _ (m : Records) (h : ℕ) (r : NodePtr) (k : ℕ) (name : NodePtr) (tree : IsTree m h r)
    (at : IsLineAt (lines_in m h r) k name) where
  pub line-tree : IsTree m 0 name
  line-tree = let e : h ≡ h + 0 = omega arith in
      tree-below m h 0 r name k (subst (λ n. IsTree m n r) e tree) (sits m h r name k tree at)

  pub line-can : CanChange m 0 name 0
  line-can = let one = one-line m name line-tree in let all = count-tree m 0 name line-tree in
      record { tree = line-tree; distinct = (λ none. none, tt); place = omega (arith, one, all) }

  pub root-can : Distinct (names h (tree_at m h r)) → CanChange m h r k
  root-can distinct =
      record { tree = tree; distinct = distinct; place = line-within (lines_in m h r) k name at }

  pub starts : (l : Records) (f : LineContent → LineContent) (gone more : Count) → Changes m l 0 name 0 f gone more →
      Climbs m l h r k f gone more 0 name
  starts l f gone more changes =
      let e : h ≡ h - 0 = omega arith in let first : 0 ≡ k - k = omega arith in
      let one = one-line m name line-tree in
      record {
        before = k;
        sits = subst (λ d. Sits m d 0 r name k) e (sits m h r name k tree at);
        low = omega arith;
        high = omega (arith, one);
        changes = subst (λ n. Changes m l 0 name n f gone more) first changes;
      }

module _ (m l : Records) (h : ℕ) (r : NodePtr) (k : ℕ) (f : LineContent → LineContent) (gone more : Count) (j : ℕ)
    (p : NodePtr) (c : Climbs m l h r k f gone more j p) where
  pub climbed : j ≡ h → Changes m l h r k f gone more
  climbed e =
      let root = at-root m (h - j) j r p c.before (omega (arith, e)) c.sits in let none = root.1 in
      let all : k - c.before ≡ k = omega (arith, none) in
      subst (λ n. Changes m l n r k f gone more) e (subst (λ q. Changes m l j q k f gone more) root.0
      (subst (λ n. Changes m l j p n f gone more) all c.changes))

  module _ (less : j < h) where
    pub still-named : IsSome (finite.get l p)
    still-named = named-as-linked m l c.changes.links p
        (let s = level m h j r p c.before less c.sits in named-tree m j p (child-is-tree m j s.0 s.1 p s.4))

    parent-now : (up : Option NodePtr) → IfSome (finite.get l p) (λ y. up ≡ y.parent) →
        up ≡ Some (level m h j r p c.before less c.sits).0
    parent-now up says =
        let s = level m h j r p c.before less c.sits in let was = linked m j s.0 s.1 p s.4 in
        let v = record-linked (finite.get m p) (finite.get l p) was.found (c.changes.links p) was.is in
        at_some (finite.get l p) (λ y. up ≡ y.parent) v.0 says v.1 ∙ ap (λ x. x.0) v.2 ∙ was.parent

    pub has-parent : (up : Option NodePtr) → IfSome (finite.get l p) (λ y. up ≡ y.parent) → IsSome up
    has-parent up says = subst (λ o. IsSome o) (sym (parent-now up says)) refl

    one-up : Above m l h r k f gone more j p (level m h j r p c.before less c.sits).0
    one-up =
        let s = level m h j r p c.before less c.sits in let is = s.5 in let low = c.low in
        record {
          before = s.2;
          sits = s.3;
          low = omega (arith, is, low);
          high = below m j s.0 s.1 p k s.2 c.before s.4 is c.high;
          found = led m s.1 p k c.before;
          same = refl;
          finds = finds-child m j s.0 s.1 p k s.2 c.before s.4 is low c.high;
          changes = c.changes;
        }

    pub above-of : (up : Option NodePtr) → IfSome (finite.get l p) (λ y. up ≡ y.parent) → (q : NodePtr) → up ≡ Some q →
        Above m l h r k f gone more j p q
    above-of up says q is =
        subst (Above m l h r k f gone more j p) (same_Some _ q (sym (parent-now up says) ∙ is)) one-up

-- there the change is counted too
pub next : (m l n : Records) (h : ℕ) (r : NodePtr) (k : ℕ) (f : LineContent → LineContent) (gone more : Count) (j : ℕ)
    (p q : NodePtr) (a : Above m l h r k f gone more j p q) → Changes m n (suc j) q (k - a.before) f gone more →
    Climbs m n h r k f gone more (j + 1) q
next m l n h r k f gone more j p q a changes = let e : suc j ≡ j + 1 = omega arith in
    subst (λ i. Climbs m n h r k f gone more i q) e (record {
      before = a.before;
      sits = a.sits;
      low = a.low;
      high = a.high;
      changes = changes;
    })
