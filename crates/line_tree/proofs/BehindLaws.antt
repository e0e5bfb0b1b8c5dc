-- A line put in behind another, from there up to the root.
use Rattle.line_tree.proofs.Common.{◌≡◌, ℕ, zero, suc, ◌+◌, ◌-◌, ◌<◌, ◌≤◌, take, refl, sym, ap, ◌∙◌, subst, arith, drop}
use Rattle.line_tree.proofs.Common.{IfSome, IsSome, Option, None, Some, sum_by, take-append-drop, sum_by-append}
use Rattle.line_tree.proofs.Common.{same_Some, slice_get_within, IsTree, lines_at, lines_in, NodePtr, Record, Records}
use Rattle.line_tree.proofs.Common.{kids, at_some, Leads, CanInsert, Inserts, IsChild, IsLineAt, Sits, lines_before}
use Rattle.line_tree.proofs.Common.{Found}
use Rattle.line_tree.proofs.InsertLaws.{can-child}
use Rattle.line_tree.proofs.LowestLaws.{lowest-before}
use Rattle.line_tree.proofs.PlaceLaws.{child-named, child-parent, level, linked, sits, up_from}
use Rattle.line_tree.proofs.RowLaws.{step_yes}
use Rattle.line_tree.proofs.TreeLaws.{row-tree, whole-below}
use Rattle.std.specs.FinMap as finite

-- the first children's lines are among those of their node
before-within : (m : Records) (h : ℕ) (q : NodePtr) (i : ℕ) → IsTree m (suc h) q → lines_before m q i ≤ lines_at m q
before-within m h q i tree =
    let ks = kids m q in
    let parts = ap (sum_by (lines_at m)) (sym (take-append-drop i ks))
    ∙ sum_by-append (lines_at m) (take i ks) (drop i ks) in
    let all = whole-below m h q tree in omega (arith, parts, all)

pub child-within : (m : Records) (h : ℕ) (q : NodePtr) (i : ℕ) (p : NodePtr) → IsChild m h q i p →
    lines_before m q i + lines_at m p ≤ lines_at m q
child-within m h q i p child =
    let n = step_yes (lines_at m) (kids m q) i p child.at in let w = before-within m h q (i + 1) child.tree in
    omega (arith, n, w)

-- a child below which a line can become number k of its node's
abbrev pub led : Records → ℕ → NodePtr → ℕ → ℕ → Found
led m i p k o = record { child = p; slot = i; lines = lines_at m p; rest = k - o }

pub leads-child : (m : Records) (h : ℕ) (q : NodePtr) (i : ℕ) (p : NodePtr) (k b o : ℕ) → IsChild m h q i p →
    o ≡ b + lines_before m q i → o ≤ k → k ≤ o + lines_at m p → Leads m q (k - b) (led m i p k o)
leads-child m h q i p k b o child is low high =
    record { child = child.at; place = omega (arith, is, low); rest = omega (arith, high) }

pub above : (m : Records) (h : ℕ) (q : NodePtr) (i : ℕ) (p : NodePtr) (k b o : ℕ) → IsChild m h q i p →
    o ≡ b + lines_before m q i → k ≤ o + lines_at m p → k ≤ b + lines_at m q
above m h q i p k b o child is high = let n = child-within m h q i p child in omega (arith, n, is, high)

-- the line can be put in below each node on the way
can-sits : (m : Records) (d h : ℕ) (r p : NodePtr) (o k : ℕ) (x : NodePtr) → Sits m d h r p o → o ≤ k →
    k ≤ o + lines_at m p → CanInsert m (d + h) r k x → CanInsert m h p (k - o) x
can-sits m zero h r p o k x s low high can =
    let e : k ≡ k - o = omega (arith, s.1) in let f : zero + h ≡ h = omega arith in
    subst (λ q. CanInsert m h q (k - o) x) (sym s.0)
    (subst (λ n. CanInsert m h r n x) e (subst (λ n. CanInsert m n r k x) f can))
can-sits m (suc d) h r p o k x s low high can =
    let e : suc d + h ≡ d + suc h = omega arith in let is = s.5 in
    let up = can-sits m d (suc h) r s.0 s.2 k x s.3 (omega (arith, is, low)) (above m h s.0 s.1 p k s.2 o s.4 is high)
    (subst (λ n. CanInsert m n r k x) e can) in
    can-child m h s.0 (k - s.2) x up (led m s.1 p k o) (leads-child m h s.0 s.1 p k s.2 o s.4 is low high)

pub can-at : (m : Records) (h j : ℕ) (r p : NodePtr) (o k : ℕ) (x : NodePtr) → j ≤ h → Sits m (h - j) j r p o → o ≤ k →
    k ≤ o + lines_at m p → CanInsert m h r k x → CanInsert m j p (k - o) x
can-at m h j r p o k x within s low high can = let e : h ≡ (h - j) + j = omega arith in
    can-sits m (h - j) j r p o k x s low high (subst (λ n. CanInsert m n r k x) e can)

-- the line is below p, j levels up, and not yet counted above it
pub record Climbs (m l : Records) (h : ℕ) (r : NodePtr) (k : ℕ) (x : NodePtr) (j : ℕ) (p : NodePtr) : Type 0 where
  pub before : ℕ
  pub sits : Sits m (h - j) j r p before
  pub low : before ≤ k
  pub high : k ≤ before + lines_at m p
  pub inserts : Inserts m l j p (k - before) x None

-- one level up
pub record Above (m l : Records) (h : ℕ) (r : NodePtr) (k : ℕ) (x : NodePtr) (j : ℕ) (p q : NodePtr) : Type 0 where
  pub before : ℕ
  pub sits : Sits m (h - suc j) (suc j) r q before
  pub low : before ≤ k
  pub high : k ≤ before + lines_at m q
  pub can : CanInsert m (suc j) q (k - before) x
  pub found : Found
  pub leads : Leads m q (k - before) found
  pub inserts : Inserts m l j found.child found.rest x None

pub parent-now : (m l : Records) (h : ℕ) (r : NodePtr) (k : ℕ) (x : NodePtr) (j : ℕ) (p : NodePtr) (less : j < h)
    (c : Climbs m l h r k x j p) (up : Option NodePtr) → IfSome (finite.get l p) (λ y. up ≡ y.parent)
    → up ≡ Some (level m h j r p c.before less c.sits).0
parent-now m l h r k x j p less c up says =
    let s = level m h j r p c.before less c.sits in let was = linked m j s.0 s.1 p s.4 in
    let link = c.inserts.link in
    at_some (finite.get l p) (λ y. up ≡ y.parent) link.after says link.is ∙ link.parent
    ∙ at_some (finite.get m p) (λ y. y.parent ≡ Some s.0) link.before
    (subst (λ o. IfSome o (λ (y : Record). y.parent ≡ Some s.0)) (sym was.is) was.parent) link.was

pub one-up : (m l : Records) (h : ℕ) (r : NodePtr) (k : ℕ) (x : NodePtr) (j : ℕ) (p : NodePtr) (less : j < h)
    → CanInsert m h r k x → (c : Climbs m l h r k x j p)
    → Above m l h r k x j p (level m h j r p c.before less c.sits).0
one-up m l h r k x j p less can c =
    let s = level m h j r p c.before less c.sits in let is = s.5 in let low = c.low in
    let high = above m j s.0 s.1 p k s.2 c.before s.4 is c.high in
    record {
      before = s.2;
      sits = s.3;
      low = omega (arith, is, low);
      high = high;
      can = can-at m h (suc j) r s.0 s.2 k x (omega arith) s.3 (omega (arith, is, low)) high can;
      found = led m s.1 p k c.before;
      leads = leads-child m j s.0 s.1 p k s.2 c.before s.4 is low c.high;
      inserts = c.inserts;
    }

pub above-of : (m l : Records) (h : ℕ) (r : NodePtr) (k : ℕ) (x : NodePtr) (j : ℕ) (p : NodePtr) → j < h →
    CanInsert m h r k x → Climbs m l h r k x j p → (up : Option NodePtr) →
    IfSome (finite.get l p) (λ y. up ≡ y.parent) → (q : NodePtr) → up ≡ Some q → Above m l h r k x j p q
above-of m l h r k x j p less can c up says q is =
    subst (Above m l h r k x j p) (same_Some _ q (sym (parent-now m l h r k x j p less c up says) ∙ is))
    (one-up m l h r k x j p less can c)

pub some-parent : (m l : Records) (h : ℕ) (r : NodePtr) (k : ℕ) (x : NodePtr) (j : ℕ) (p : NodePtr) → j < h →
    Climbs m l h r k x j p → (up : Option NodePtr) → IfSome (finite.get l p) (λ y. up ≡ y.parent) → IsSome up
some-parent m l h r k x j p less c up says =
    subst (λ o. IsSome o) (sym (parent-now m l h r k x j p less c up says)) refl

-- at the root
pub at-root : (m : Records) (d h : ℕ) (r p : NodePtr) (o : ℕ) → d ≡ 0 → Sits m d h r p o → (p ≡ r) × (o ≡ 0)
at-root m d h r p o e s = subst (λ n. Sits m n h r p o) e s

pub climbed : (m l : Records) (h : ℕ) (r : NodePtr) (k : ℕ) (x : NodePtr) (j : ℕ) (p : NodePtr) → j ≡ h →
    Climbs m l h r k x j p → Inserts m l h r k x None
climbed m l h r k x j p e c =
    let root = at-root m (h - j) j r p c.before (omega (arith, e)) c.sits in let none = root.1 in
    let all : k - c.before ≡ k = omega (arith, none) in
    subst (λ n. Inserts m l n r k x None) e (subst (λ q. Inserts m l j q k x None) root.0
    (subst (λ n. Inserts m l j p n x None) all c.inserts))

-- the node above the line that is named
pub record Base (m : Records) (h : ℕ) (r : NodePtr) (k : ℕ) (x node : NodePtr) (slot : ℕ) : Type 0 where
  pub before : ℕ
  pub sits : Sits m (h - 1) 1 r node before
  pub low : before ≤ k
  pub high : k ≤ before + lines_at m node
  pub can : CanInsert m 1 node (k - before) x
  pub place : k - before ≡ slot + 1
  pub tree : IsTree m 1 node
  pub small : slot < 12

module _ (m : Records) (h : ℕ) (r : NodePtr) (k : ℕ) (x name : NodePtr) (some : 0 < h) (can : CanInsert m h r k x)
    (later : 0 < k) (at : IsLineAt (lines_in m h r) (k - 1) name) where
  sits-name : Sits m (suc (h - suc 0)) 0 r name (k - 1)
  sits-name = let e : h ≡ h - 0 = omega arith in
      level m h 0 r name (k - 1) some (subst (λ d. Sits m d 0 r name (k - 1)) e (sits m h r name (k - 1) can.tree at))

  pub named-behind : IsSome (finite.get m name)
  named-behind = child-named m 0 sits-name.0 sits-name.1 name sits-name.4

  pub parent-behind : (up : Option NodePtr) → IfSome (finite.get m name) (λ y. up ≡ y.parent) → IsSome up
  parent-behind up says =
      subst (λ o. IsSome o) (sym (child-parent m 0 sits-name.0 sits-name.1 name sits-name.4 up says)) refl

  pub base-of : (up : Option NodePtr) → IfSome (finite.get m name) (λ y. up ≡ y.parent) → (node : NodePtr) →
      up ≡ Some node → (slot : ℕ) → IfSome (finite.get m name) (λ y. slot ≡ y.slot) → Base m h r k x node slot
  base-of up says node is slot slot_says =
      let u = up_from m (h - suc 0) 0 r name (k - 1) sits-name up says node is slot slot_says in
      let in_row = slice_get_within (kids m node) slot name u.child.at in
      let few = (row-tree m 0 node u.child.tree).few in
      let first = lowest-before m node slot u.child.tree (omega (arith, in_row)) in
      let next = lowest-before m node (slot + 1) u.child.tree (omega (arith, in_row)) in
      let all = before-within m 0 node (slot + 1) u.child.tree in
      let offset = u.offset in
      let low : u.base ≤ k = omega (arith, offset, later) in
      let high : k ≤ u.base + lines_at m node = omega (arith, offset, later, first, next, all) in
      record {
        before = u.base;
        sits = u.sits;
        low = low;
        high = high;
        can = can-at m h 1 r node u.base k x (omega (arith, some)) u.sits low high can;
        place = omega (arith, offset, later, first);
        tree = u.child.tree;
        small = omega (arith, in_row, few);
      }
