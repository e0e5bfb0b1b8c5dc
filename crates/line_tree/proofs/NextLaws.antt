-- From a line to the one behind it: up to the next branch, and down to its first line.
use Rattle.line_tree.proofs.Common.{◌≡◌, ℕ, zero, suc, ◌+◌, ◌-◌, ◌<◌, ◌≤◌, List, [], ◌∷◌, length, map, refl, sym, ap}
use Rattle.line_tree.proofs.Common.{◌∙◌, subst, arith, IfSome, slice_get, Option, None, Some, AllByRecursion, sum_by}
use Rattle.line_tree.proofs.Common.{take_all, none-some, same_Some, slice_get_within, IsBalanced, IsBalancedRoot, Named}
use Rattle.line_tree.proofs.Common.{Tree, IsTree, lines_at, lines_in, tree_at, NodePtr, Records, kids, IsChild}
use Rattle.line_tree.proofs.Common.{IsLineAt, Sits, lines_before}
use Rattle.line_tree.specs.Walks.{IsFirstLine}
use Rattle.line_tree.specs.declared.walk.Subtree.{Subtree}
use Rattle.line_tree.proofs.CountLaws.{least-lines, one-line, pow-more}
use Rattle.line_tree.proofs.PlaceLaws.{Up, child-is-tree, sits, up_from}
use Rattle.line_tree.proofs.RowLaws.{step_yes}
use Rattle.line_tree.proofs.TreeLaws.{below-tree, child-tree, count-tree, line-found}
use Rattle.std.specs.FinMap as finite

-- ---- balance, and a first line
balanced-at : (m : Records) (h : ℕ) (cs : List NodePtr) (i : ℕ) (c : NodePtr) →
    AllByRecursion (IsBalanced h) (map (tree_at m h) cs) → slice_get cs i ≡ Some c → IsBalanced h (tree_at m h c)
balanced-at m h [] i c all at = absurd (none-some c at)
balanced-at m h (d ∷ cs) zero c all at = subst (λ q. IsBalanced h (tree_at m h q)) (same_Some d c at) all.0
balanced-at m h (d ∷ cs) (suc i) c all at = balanced-at m h cs i c all.1 at

-- what stands below the root is balanced
pub sits-balanced : (m : Records) (d h n : ℕ) (r p : NodePtr) (o : ℕ) → n ≡ suc d + h →
    IsBalancedRoot n (tree_at m n r) → Sits m (suc d) h r p o → IsBalanced h (tree_at m h p)
sits-balanced m zero h n r p o e balanced s =
    let high : n ≡ suc h = omega arith in
    let top : IsBalancedRoot (suc h) (tree_at m (suc h) s.0) = subst (λ q. IsBalancedRoot (suc h) (tree_at m (suc h) q))
    (sym s.3.0) (subst (λ k. IsBalancedRoot k (tree_at m k r)) high balanced) in
    balanced-at m h (kids m s.0) s.1 p top.2 s.4.at
sits-balanced m (suc d) h n r p o e balanced s =
    let above = sits-balanced m d (suc h) n r s.0 s.2 (omega arith) balanced s.3 in
    balanced-at m h (kids m s.0) s.1 p above.2 s.4.at

pub balanced-high : (h : ℕ) (t : Tree h) → IsBalancedRoot h t → 1 ≤ h
balanced-high zero t balanced = absurd balanced
balanced-high (suc h) t balanced = omega arith

pub some-line : (m : Records) (h : ℕ) (p : NodePtr) → IsTree m h p → IsBalanced h (tree_at m h p) →
    0 < length (lines_in m h p)
some-line m h p tree balanced = let least = least-lines m h (tree_at m h p) tree balanced in let more = pow-more h in
    omega arith

-- ---- lines of a place are lines of the root
pub line-above : (m : Records) (d h n : ℕ) (r p : NodePtr) (o i : ℕ) (l : Named) → n ≡ d + h → Sits m d h r p o →
    slice_get (lines_in m h p) i ≡ Some l → slice_get (lines_in m n r) (o + i) ≡ Some l
line-above m zero h n r p o i l e s at =
    let high : n ≡ h = omega arith in let same : o + i ≡ i = omega (arith, s.1) in
    (λ j. slice_get (lines_in m (high j) (sym s.0 j)) (same j)) ∙ at
line-above m (suc d) h n r p o i l e s at =
    let q = s.0 in let child = s.4 in
    let within = slice_get_within (lines_in m h p) i l at in
    let count = count-tree m h p (child-is-tree m h q s.1 p child) in
    let below : slice_get (lines_in m (suc h) q) (lines_before m q s.1 + i)
    ≡ Some l = line-found m h (kids m q) s.1 i (lines_before m q s.1 + i) p child.tree.2 child.at refl (omega arith)
    ∙ at in
    let place : o + i ≡ s.2 + (lines_before m q s.1 + i) = omega (arith, s.5) in
    ap (slice_get (lines_in m n r)) place
    ∙ line-above m d (suc h) n r q s.2 (lines_before m q s.1 + i) l (omega arith) s.3 below

get-some : (ls : List Named) (i : ℕ) → i < length ls → (l : Named) × (slice_get ls i ≡ Some l)
get-some [] i less = absurd (omega arith)
get-some (l ∷ ls) zero less = (l, refl)
get-some (l ∷ ls) (suc i) less = get-some ls i (omega arith)

-- ---- the lines below p end with line k of the root
pub record Ends (m : Records) (d h : ℕ) (r p : NodePtr) (k : ℕ) : Type 0 where
  pub before : ℕ
  pub sits : Sits m d h r p before
  pub last : before + length (lines_in m h p) ≡ k + 1

-- the tree of a place
pub sits-tree : (m : Records) (d h n : ℕ) (r p : NodePtr) (o : ℕ) → n ≡ d + h → IsTree m n r → Sits m d h r p o →
    IsTree m h p
sits-tree m zero h n r p o e tree s = let high : n ≡ h = omega arith in
    subst (λ q. IsTree m h q) (sym s.0) (subst (λ k. IsTree m k r) high tree)
sits-tree m (suc d) h n r p o e tree s = child-is-tree m h s.0 s.1 p s.4

pub ends-line : (m : Records) (h : ℕ) (r p : NodePtr) (k : ℕ) → IsTree m h r → IsLineAt (lines_in m h r) k p →
    Ends m (h - 0) 0 r p k
ends-line m h r p k tree at =
    let s = sits m h r p k tree at in let line = sits-tree m h 0 h r p k (omega arith) tree s in
    let one : length (lines_in m 0 p) ≡ 1 = one-line (tree_at m 0 p).0 (tree_at m 0 p).1 line.some in
    let none : h ≡ h - 0 = omega arith in
    record { before = k; sits = subst (λ x. Sits m x 0 r p k) none s; last = omega arith }

-- one level up
pub ends-level : (m : Records) (h j : ℕ) (r p : NodePtr) (k : ℕ) → j < h → Ends m (h - j) j r p k →
    Ends m (suc (h - suc j)) j r p k
ends-level m h j r p k less e = let same : h - j ≡ suc (h - suc j) = omega arith in subst (λ x. Ends m x j r p k) same e

pub ends-above : (m : Records) (h j : ℕ) (r p : NodePtr) (k : ℕ) → Ends m (h - suc j) (suc j) r p k →
    Ends m (h - (j + 1)) (j + 1) r p k
ends-above m h j r p k e = let same : suc j ≡ j + 1 = omega arith in subst (λ x. Ends m (h - x) x r p k) same e

-- where p stands below its parent
pub record Child (m : Records) (d h : ℕ) (r p : NodePtr) (k : ℕ) (up : NodePtr) (slot : ℕ) : Type 0 where
  pub before : ℕ
  pub last : before + length (lines_in m h p) ≡ k + 1
  pub place : Up m d h r p before up slot

pub ends-child : (m : Records) (d h : ℕ) (r p : NodePtr) (k : ℕ) → Ends m (suc d) h r p k → (parent : Option NodePtr) →
    IfSome (finite.get m p) (λ x. parent ≡ x.parent) → (up : NodePtr) → parent ≡ Some up
    → (slot : ℕ) → IfSome (finite.get m p) (λ x. slot ≡ x.slot) → Child m d h r p k up slot
ends-child m d h r p k e parent says up is slot slot_says =
    record {
      before = e.before;
      last = e.last;
      place = up_from m d h r p e.before e.sits parent says up is slot slot_says;
    }

-- a last child ends where its parent does
pub ends-last : (m : Records) (d h : ℕ) (r p : NodePtr) (k : ℕ) (up : NodePtr) (slot : ℕ) → Child m d h r p k up slot →
    length (kids m up) ≤ slot + 1 → Ends m d (suc h) r up k
ends-last m d h r p k up slot c less =
    let u = c.place in let offset = u.offset in let last = c.last in
    let here = count-tree m h p (child-is-tree m h up slot p u.child) in let all = below-tree m h up u.child.tree in
    let step = step_yes (lines_at m) (kids m up) slot p u.child.at in
    let whole = ap (sum_by (lines_at m)) (take_all (slot + 1) (kids m up) less) in
    record { before = u.base; sits = u.sits; last = omega arith }

ends-top : (m : Records) (h : ℕ) (r p : NodePtr) (k : ℕ) → Ends m 0 h r p k → length (lines_in m h r) ≡ k + 1
ends-top m h r p k e = let last = e.last in let none = e.sits.1 in
    let same = ap (λ q. length (lines_in m h q)) e.sits.0 in omega arith

pub ends-root : (m : Records) (h j : ℕ) (r p : NodePtr) (k : ℕ) → j ≡ h → Ends m (h - j) j r p k →
    length (lines_in m h r) ≡ k + 1
ends-root m h j r p k same e = let none : h - j ≡ 0 = omega arith in
    ends-top m h r p k (subst (λ x. Ends m 0 x r p k) same (subst (λ x. Ends m x j r p k) none e))

-- behind another child its neighbour begins
pub ends-next : (m : Records) (d h n : ℕ) (r p : NodePtr) (k : ℕ) (up : NodePtr) (slot : ℕ) →
    Child m d h r p k up slot → n ≡ suc d + h → IsBalancedRoot n (tree_at m n r)
    → (b : Subtree) → b.height ≡ h → slice_get (kids m up) (slot + 1) ≡ Some b.node → IsFirstLine m n r (k + 1) b
ends-next m d h n r p k up slot c high balanced b same at =
    let u = c.place in
    let child : IsChild m h up (slot + 1) b.node = record { tree = u.child.tree; at = at } in
    let s : Sits m (suc d) h r b.node (u.base + lines_before m up (slot + 1)) = (
      up,
      slot + 1,
      u.base,
      u.sits,
      child,
      refl,
    ) in
    let last = c.last in let offset = u.offset in
    let here = count-tree m h p (child-is-tree m h up slot p u.child) in
    let step = step_yes (lines_at m) (kids m up) slot p u.child.at in
    let tree = child-is-tree m h up (slot + 1) b.node child in
    let full = sits-balanced m d h n r b.node (u.base + lines_before m up (slot + 1)) high balanced s in
    let l = get-some (lines_in m h b.node) 0 (some-line m h b.node tree full) in
    let place : k + 1 ≡ (u.base + lines_before m up (slot + 1)) + 0 = omega arith in
    let line = ap (slice_get (lines_in m n r)) place
    ∙ line-above m (suc d) h n r b.node (u.base + lines_before m up (slot + 1)) 0 l.0 high s l.1 ∙ sym l.1 in
    let back = sym same in
    record {
      low = omega arith;
      tree = subst (λ x. IsTree m x b.node) back tree;
      balanced = subst (λ x. IsBalanced x (tree_at m x b.node)) back full;
      line = subst (λ x. slice_get (lines_in m n r) (k + 1) ≡ slice_get (lines_in m x b.node) 0) back line;
    }

-- ---- one level down
pub record First (m : Records) (h : ℕ) (p c : NodePtr) : Type 0 where
  pub tree : IsTree m h c
  pub balanced : IsBalanced h (tree_at m h c)
  pub line : slice_get (lines_in m (suc h) p) 0 ≡ slice_get (lines_in m h c) 0

pub first-child : (m : Records) (h : ℕ) (p c : NodePtr) → IsTree m (suc h) p →
    IsBalanced (suc h) (tree_at m (suc h) p) → slice_get (kids m p) 0 ≡ Some c → First m h p c
first-child m h p c tree balanced at =
    let below = child-tree m h (kids m p) 0 c tree.2 at in let full = balanced-at m h (kids m p) 0 c balanced.2 at in
    let count = count-tree m h c below in let some = some-line m h c below full in
    record { tree = below; balanced = full; line = line-found m h (kids m p) 0 0 0 c tree.2 at refl (omega arith) }

some-child : (m : Records) (h : ℕ) (cs : List NodePtr) → 6 ≤ length (map (tree_at m h) cs) → slice_get cs 0 ≡ None → ⊥
some-child m h [] many at = omega arith
some-child m h (c ∷ cs) many at = none-some c (sym at)

pub has-child : (m : Records) (h : ℕ) (p : NodePtr) → IsBalanced (suc h) (tree_at m (suc h) p) →
    slice_get (kids m p) 0 ≡ None → ⊥
has-child m h p balanced at = some-child m h (kids m p) balanced.0 at
