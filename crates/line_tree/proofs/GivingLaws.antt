-- A lowest node and its lines are given back.
use Rattle.line_tree.proofs.Common.{◌≡◌, ℕ, zero, suc, ◌+◌, ◌-◌, ◌<◌, ◌⊎◌, ◌++◌, inl, inr, List, [], ◌∷◌, get_or}
use Rattle.line_tree.proofs.Common.{length, map, take, refl, sym, ap, ◌∙◌, subst, arith, IfSome, IsSome, slice_get}
use Rattle.line_tree.proofs.Common.{Option, None, Some, take_more, get_or_from_slice_get, none-some, same_Some}
use Rattle.line_tree.proofs.Common.{slice_get_within, removed, rooms_for, Among, IsTree, lines_in, tree_at, NodePtr}
use Rattle.line_tree.proofs.Common.{Record, Records, kids, lines, names, at_some, get_removed, get_unmoved, some_of}
use Rattle.line_tree.proofs.Common.{same_or_other, Without, StandsAlone, names_of, IsLineAt, Sits, Cleans, Lowers}
use Rattle.line_tree.proofs.Common.{Removes}
use Rattle.line_tree.proofs.AmongLaws.{among-cases, among-get, among-left, among-right, among-take}
use Rattle.line_tree.proofs.LowerLaws.{branch-after, gone-of, taken-out}
use Rattle.line_tree.proofs.PlaceLaws.{linked, sits}
use Rattle.line_tree.proofs.RowLaws.{child_is}
use Rattle.line_tree.proofs.TreeLaws.{child-tree, named-tree, row-tree}
use Rattle.std.specs.FinMap as finite

-- ---- the records but those of some names
pub without-none : (m : Records) → Without m m []
without-none m = record { gone = λ q a. absurd a; other = λ q out. refl }

pub without-next : (m n : Records) (ps qs : List NodePtr) (c : NodePtr) → Without m n ps →
    ((q : NodePtr) → Among q qs → (q ≡ c) ⊎ Among q ps) → ((q : NodePtr) → (q ≡ c) ⊎ Among q ps → Among q qs) →
    Without m (finite.remove n c) qs
without-next m n ps qs c w from to = record {
  gone = λ q a. elim (same_or_other q c) [
    | inl e ↦ subst (λ z. finite.get (finite.remove n c) z ≡ None) (sym e) (get_removed n c)
    | inr off ↦ get_unmoved n c q off ∙ w.gone q (elim (from q a) [ inl e ↦ absurd (off e) | inr b ↦ b ])
  ];
  other = λ q out. get_unmoved n c q (λ e. out (to q (inl e))) ∙ w.other q (λ a. out (to q (inr a)));
}

-- ---- the names of a lowest node
names-lines : (m : Records) (cs : List NodePtr) → names_of 0 (map (tree_at m 0) cs) ≡ cs
names-lines m [] = refl
names-lines m (c ∷ cs) = ap (λ zs. c ∷ zs) (names-lines m cs)

pub names-low : (m : Records) (p : NodePtr) → names 1 (tree_at m 1 p) ≡ p ∷ kids m p
names-low m p = ap (λ zs. p ∷ zs) (names-lines m (kids m p))

-- it is no line
pub no-line : (m : Records) (p : NodePtr) → IsTree m 1 p → Among p (kids m p) → ⊥
no-line m p tree a =
    let at = among-get p (kids m p) a in let line = child-tree m 0 (kids m p) at.0 p tree.2 at.1 in
    let node = tree.0 in let l = some_of _ line.some in
    none-some l.0 (sym node.inner
    ∙ ap (λ (r : Record). r.line) (same_Some node.found line.found (sym node.is ∙ line.is)) ∙ line.line ∙ l.1)

get-take : (cs : List NodePtr) (i j : ℕ) (c : NodePtr) → slice_get (take i cs) j ≡ Some c →
    (j < i) × (slice_get cs j ≡ Some c)
get-take cs zero j c at = absurd (none-some c at)
get-take [] (suc i) j c at = absurd (none-some c at)
get-take (d ∷ cs) (suc i) zero c at = (omega arith, at)
get-take (d ∷ cs) (suc i) (suc j) c at = let r = get-take cs i j c at in let less = r.0 in (omega arith, r.1)

-- each line stands in one slot
pub line-apart : (m : Records) (p : NodePtr) (i : ℕ) (c : NodePtr) → IsTree m 1 p → slice_get (kids m p) i ≡ Some c →
    Among c (take i (kids m p)) → ⊥
line-apart m p i c tree at a =
    let before = among-get c (take i (kids m p)) a in let r = get-take (kids m p) i before.0 c before.1 in
    let here = linked m 0 p i c (record { tree = tree; at = at }) in
    let there = linked m 0 p before.0 c (record { tree = tree; at = r.1 }) in
    let less = r.0 in
    let same = sym here.slot
    ∙ ap (λ (x : Record). x.slot) (same_Some here.found there.found (sym here.is ∙ there.is)) ∙ there.slot in
    omega arith

pub line-named : (m : Records) (p : NodePtr) (i : ℕ) (c : NodePtr) → IsTree m 1 p → slice_get (kids m p) i ≡ Some c →
    IsSome (finite.get m c)
line-named m p i c tree at = named-tree m 0 c (child-tree m 0 (kids m p) i c tree.2 at)

-- the node's record is as it was, so it gives line i
pub gives-line : (m n : Records) (p : NodePtr) (i : ℕ) (o : Option NodePtr) → IsTree m 1 p →
    Without m n (take i (kids m p)) → IfSome (finite.get n p) (λ r. o ≡ get_or r.children i None) →
    o ≡ slice_get (kids m p) i
gives-line m n p i o tree w says = child_is m p (row-tree m 0 p tree) o i
    (subst (λ x. IfSome x (λ (r : Record). o ≡ get_or r.children i None))
    (w.other p (λ a. no-line m p tree (among-take p i (kids m p) a))) says)

-- a line takes no room, and the node takes one
pub line-roomless : (m n : Records) (p : NodePtr) (i : ℕ) (c : NodePtr) (old new : ℕ) → IsTree m 1 p →
    slice_get (kids m p) i ≡ Some c → Without m n (take i (kids m p)) →
    IfSome (finite.get n c) (λ r. new ≡ old + rooms_for r.line) → new ≡ old
line-roomless m n p i c old new tree at w says =
    let line = child-tree m 0 (kids m p) i c tree.2 at in let l = some_of _ line.some in
    let same = w.other c (line-apart m p i c tree at) ∙ line.is in
    let is : new ≡ old + rooms_for line.found.line = at_some (finite.get n c)
    (λ (r : Record). new ≡ old + rooms_for r.line) line.found says same in
    let none : rooms_for line.found.line ≡ 0 = ap rooms_for (line.line ∙ l.1) in omega arith

pub node-room : (m n : Records) (p : NodePtr) (old new : ℕ) → IsTree m 1 p → Without m n (kids m p) →
    IfSome (finite.get n p) (λ r. new ≡ old + rooms_for r.line) → new ≡ old + 1
node-room m n p old new tree w says =
    let node = tree.0 in let same = w.other p (no-line m p tree) ∙ node.is in
    let is : new ≡ old + rooms_for node.found.line = at_some (finite.get n p)
    (λ (r : Record). new ≡ old + rooms_for r.line) node.found says same in
    let one : rooms_for node.found.line ≡ 1 = ap rooms_for node.inner in omega arith

-- ---- a line more
pub without-line : (m n : Records) (cs : List NodePtr) (i : ℕ) (c : NodePtr) → slice_get cs i ≡ Some c →
    Without m n (take i cs) → Without m (finite.remove n c) (take (i + 1) cs)
without-line m n cs i c at w =
    let more = take_more cs i c (slice_get_within cs i c at)
    ∙ ap (λ x. take i cs ++ x ∷ []) (get_or_from_slice_get cs i c c at) in
    subst (λ zs. Without m (finite.remove n c) zs) (sym more)
    (without-next m n (take i cs) (take i cs ++ c ∷ []) c w
    (λ q a. elim (among-cases q (take i cs) (c ∷ []) a) [
      | inl b ↦ inr b
      | inr b ↦ elim b [ inl e ↦ inl e | inr none ↦ absurd none ]
    ])
    (λ q a. elim a [
      | inl e ↦ among-right q (take i cs) (c ∷ []) (inl e)
      | inr b ↦ among-left q (take i cs) (c ∷ []) b
    ]))

-- the node
pub without-node : (m n : Records) (p : NodePtr) → Without m n (kids m p) →
    Without m (finite.remove n p) (names 1 (tree_at m 1 p))
without-node m n p w = subst (λ zs. Without m (finite.remove n p) zs) (sym (names-low m p))
    (without-next m n (kids m p) (p ∷ kids m p) p w (λ q a. a) (λ q a. a))

-- one line
pub without-one : (m : Records) (x : NodePtr) → Without m (finite.remove m x) (x ∷ [])
without-one m x = without-next m m [] (x ∷ []) x (without-none m) (λ q a. a) (λ q a. a)

-- ---- a branch is taken out, and given back
pub record Out (m v : Records) (h i : ℕ) (r s : NodePtr) (k n : ℕ) : Type 0 where
  pub alone : StandsAlone v i s
  pub lines : lines_in v i s ≡ removed k (k + n) (lines_in m h r)

pub branch-out : (m n u v : Records) (h i : ℕ) (r s : NodePtr) (k : ℕ) (x : NodePtr) (count : ℕ) → StandsAlone m h r →
    Removes m n h r k 1 x → Cleans m n h r 1 x → Lowers n u h r i s → count ≡ length (lines_in u 1 x) →
    Without u v (names 1 (tree_at u 1 x)) → (count ≡ length (lines_in m 1 x)) × Out m v h i r s k count
branch-out m n u v h i r s k x count alone removes clean lowers is w =
    let same = (branch-after m n u h i r s k 1 x removes lowers).1 in
    let long = is ∙ ap (λ t. length (lines 1 t)) same in
    let out = taken-out m n u v h i r s k 1 x alone removes clean lowers
    (subst (λ t. Without u v (names 1 t)) same w) in
    (long, record { alone = out.0; lines = out.1 ∙ ap (λ j. removed k (k + j) (lines_in m h r)) (sym long) })

pub line-out : (m n u v : Records) (h i : ℕ) (r s : NodePtr) (k : ℕ) (x : NodePtr) → StandsAlone m h r →
    Removes m n h r k 0 x → Cleans m n h r 0 x → Lowers n u h r i s → v ≡ finite.remove u x → Out m v h i r s k 1
line-out m n u v h i r s k x alone removes clean lowers is =
    let one = ap length (gone-of m n h r k x removes).one in
    let out = taken-out m n u v h i r s k 0 x alone removes clean lowers
    (subst (λ z. Without u z (x ∷ [])) (sym is) (without-one u x)) in
    record { alone = out.0; lines = out.1 ∙ ap (λ j. removed k (k + j) (lines_in m h r)) one }

-- ---- what stands above a line
pub node-above : (m : Records) (h : ℕ) (r : NodePtr) (k : ℕ) (p : NodePtr) → 0 < h → IsTree m h r →
    IsLineAt (lines_in m h r) k p →
    IsSome (finite.get m p) × IfSome (finite.get m p) (λ x. IfSome x.parent (λ q. IsSome (finite.get m q)))
node-above m h r k p some tree at =
    let e : h ≡ suc (h - 1) = omega arith in let s = subst (λ d. Sits m d 0 r p k) e (sits m h r p k tree at) in
    let l = linked m 0 s.0 s.1 p s.4 in (
      subst (λ o. IsSome o) (sym l.is) refl,
      subst (λ o. IfSome o (λ (x : Record). IfSome x.parent (λ q. IsSome (finite.get m q)))) (sym l.is)
          (subst (λ o. IfSome o (λ q. IsSome (finite.get m q))) (sym l.parent) (named-tree m 1 s.0 s.4.tree)),
    )
