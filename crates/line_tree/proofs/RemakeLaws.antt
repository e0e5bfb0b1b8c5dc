-- A node that is made anew with other trees among its children.
use Rattle.line_tree.proofs.Common.{◌≡◌, ℕ, suc, ◌+◌, ◌*◌, ◌≤◌, inl, inr, List, [], ◌∷◌, ◌++◌, length, take, drop, refl}
use Rattle.line_tree.proofs.Common.{sym, ap, ◌∙◌, subst, arith, length-append, IsSome, AllByRecursion, length-map}
use Rattle.line_tree.proofs.Common.{map-append, take-append-drop, flat_map-append, plus-associative, plus-commutative}
use Rattle.line_tree.proofs.Common.{Among, Distinct, FitsSum, sum_all, Holds, IsTree, lines_in, tree_at, IsBalanced}
use Rattle.line_tree.proofs.Common.{Named, Tree, lines, names, tops, total, NodePtr, Records, kids, plus, IsWide}
use Rattle.line_tree.proofs.Common.{lines_of, names_of, Becomes, CanRaise, HasKids, Raises, TakesRow, below_all}
use Rattle.line_tree.proofs.Common.{trees_at, with_lines}
use Rattle.line_tree.proofs.AmongLaws.{among-cases, among-left, among-right}
use Rattle.line_tree.proofs.BecomeLaws.{and-then, both, gone, renamed, stays}
use Rattle.line_tree.proofs.BuildLaws.{sum-trees, trees-is}
use Rattle.line_tree.proofs.DistinctLaws.{distinct-apart, distinct-left, distinct-right}
use Rattle.line_tree.proofs.FrameLaws.{all-same, names-all-held}
use Rattle.line_tree.proofs.GrowLaws.{all-append, all-left, all-right, edit-middle, names-append}
use Rattle.line_tree.proofs.SumLaws.{total-append}
use Rattle.line_tree.proofs.TreeLaws.{named-tree, tops-tree_at}
use Rattle.std.specs.FinMap as finite

-- ---- lines among others
pub total-with_lines : (ls : List Named) (k : ℕ) (added : List Named) →
    total (with_lines ls k added) ≡ plus (total ls) (total added)
total-with_lines ls k added =
    let a = total (take k ls) in let b = total (drop k ls) in let s = total added in
    total-append (take k ls) (added ++ drop k ls) ∙ ap (plus a) (total-append added (drop k ls))
    ∙ ap (plus a) (plus-commutative s b) ∙ sym (plus-associative a b s)
    ∙ ap (λ t. plus t s) (sym (total-append (take k ls) (drop k ls)) ∙ ap total (take-append-drop k ls))

pub lines-below : (h : ℕ) (vs : List (Tree (suc h))) → lines_of (suc h) vs ≡ lines_of h (below_all h vs)
lines-below h [] = refl
lines-below h (v ∷ vs) = ap (λ ls. lines (suc h) v ++ ls) (lines-below h vs)
    ∙ sym (flat_map-append (lines h) v.1 (below_all h vs))

-- ---- balance
pub wide-all : (least h : ℕ) (vs : List (Tree (suc h))) → AllByRecursion (HasKids least h) vs →
    AllByRecursion (IsBalanced h) (below_all h vs) → AllByRecursion (IsWide least (suc h)) vs
wide-all least h [] kids balanced = tt
wide-all least h (v ∷ vs) kids balanced = (
  (kids.0.0, kids.0.1, all-left (IsBalanced h) v.1 (below_all h vs) balanced),
  wide-all least h vs kids.1 (all-right (IsBalanced h) v.1 (below_all h vs) balanced),
)

pub some-above : (m n : Records) (h : ℕ) (cs : List NodePtr) (all : ℕ) (ps : List NodePtr) → Raises m n h cs all ps →
    1 ≤ length cs → 1 ≤ length ps
some-above m n h cs all [] r some =
    let e = ap length r.below in let long = length-map cs (tree_at m h) in absurd (omega arith)
some-above m n h cs all (p ∷ ps) r some = omega arith

module _ (m l : Records) (h : ℕ) (p : NodePtr) (front mid back ys xs : List NodePtr) (tree : IsTree m (suc h) p)
    (split : kids m p ≡ front ++ (mid ++ back)) (row : AllByRecursion (Holds m 0) (trees_at m 0 xs))
    (d : Distinct (names (suc h) (tree_at m (suc h) p) ++ names_of 0 (trees_at m 0 xs)))
    (b : Becomes m l (names_of h (trees_at m h mid) ++ names_of 0 (trees_at m 0 xs)) h (trees_at l h ys)) where
  abbrev fs : List (Tree h)
  fs = trees_at m h front

  abbrev ms : List (Tree h)
  ms = trees_at m h mid

  abbrev bs : List (Tree h)
  bs = trees_at m h back

  abbrev us : List (Tree h)
  us = trees_at l h ys

  abbrev old : List NodePtr
  old = names_of h (trees_at m h (kids m p))

  abbrev new : List NodePtr
  new = names_of 0 (trees_at m 0 xs)

  abbrev part : List NodePtr
  part = names_of h (trees_at m h mid) ++ names_of 0 (trees_at m 0 xs)

  kids-are : trees_at m h (kids m p) ≡ fs ++ (ms ++ bs)
  kids-are = ap (trees_at m h) split ∙ map-append (tree_at m h) front (mid ++ back)
      ∙ ap (λ zs. trees_at m h front ++ zs) (map-append (tree_at m h) mid back)

  all : AllByRecursion (Holds m h) (fs ++ (ms ++ bs))
  all = subst (AllByRecursion (Holds m h)) kids-are tree.2

  fs-all : AllByRecursion (Holds m h) fs
  fs-all = all-left (Holds m h) fs (ms ++ bs) all

  ms-all : AllByRecursion (Holds m h) ms
  ms-all = all-left (Holds m h) ms bs (all-right (Holds m h) fs (ms ++ bs) all)

  bs-all : AllByRecursion (Holds m h) bs
  bs-all = all-right (Holds m h) ms bs (all-right (Holds m h) fs (ms ++ bs) all)

  names-are : old ≡ names_of h fs ++ (names_of h ms ++ names_of h bs)
  names-are = ap (names_of h) kids-are ∙ names-append h fs (ms ++ bs)
      ∙ ap (λ zs. names_of h fs ++ zs) (names-append h ms bs)

  apart : Distinct (names_of h fs ++ (names_of h ms ++ names_of h bs))
  apart = subst Distinct names-are (distinct-left old new d.1)

  in-fs : (q : NodePtr) → Among q (names_of h fs) → Among q old
  in-fs q a = subst (Among q) (sym names-are) (among-left q (names_of h fs) (names_of h ms ++ names_of h bs) a)

  in-ms : (q : NodePtr) → Among q (names_of h ms) → Among q old
  in-ms q a = subst (Among q) (sym names-are)
      (among-right q (names_of h fs) (names_of h ms ++ names_of h bs) (among-left q (names_of h ms) (names_of h bs) a))

  in-bs : (q : NodePtr) → Among q (names_of h bs) → Among q old
  in-bs q a = subst (Among q) (sym names-are)
      (among-right q (names_of h fs) (names_of h ms ++ names_of h bs) (among-right q (names_of h ms) (names_of h bs) a))

  off-new : (q : NodePtr) → Among q old → Among q new → ⊥
  off-new = distinct-apart old new d.1

  apart-bs : (q : NodePtr) → Among q (names_of h bs) → Among q part → ⊥
  apart-bs q a c = elim (among-cases q (names_of h ms) new c) [
    | inl e ↦ distinct-apart (names_of h ms) (names_of h bs)
        (distinct-right (names_of h fs) (names_of h ms ++ names_of h bs) apart) q e a
    | inr e ↦ off-new q (in-bs q a) e
  ]

  apart-fs : (q : NodePtr) → Among q (part ++ names_of h bs) → Among q (names_of h fs) → ⊥
  apart-fs q c a = elim (among-cases q part (names_of h bs) c) [
    | inl e ↦ elim (among-cases q (names_of h ms) new e) [
      | inl f ↦ distinct-apart (names_of h fs) (names_of h ms ++ names_of h bs) apart q a
          (among-left q (names_of h ms) (names_of h bs) f)
      | inr f ↦ off-new q (in-fs q a) f
    ]
    | inr e ↦ distinct-apart (names_of h fs) (names_of h ms ++ names_of h bs) apart q a
        (among-right q (names_of h ms) (names_of h bs) e)
  ]

  named-bs : (q : NodePtr) → Among q (names_of h bs) → IsSome (finite.get m q)
  named-bs = names-all-held m h bs bs-all

  named-part : (q : NodePtr) → Among q (part ++ names_of h bs) → IsSome (finite.get m q)
  named-part q c = elim (among-cases q part (names_of h bs) c) [
    | inl e ↦ elim (among-cases q (names_of h ms) new e)
        [ inl f ↦ names-all-held m h ms ms-all q f | inr f ↦ names-all-held m 0 (trees_at m 0 xs) row q f ]
    | inr e ↦ named-bs q e
  ]

  -- the trees before and behind stay
  among-all : Becomes m l (names_of h fs ++ (part ++ names_of h bs)) h (fs ++ (us ++ bs))
  among-all = both m m l (names_of h fs) (part ++ names_of h bs) h fs (us ++ bs)
      (stays m h fs fs-all (distinct-left (names_of h fs) (names_of h ms ++ names_of h bs) apart))
      (both m l l part (names_of h bs) h us bs b
      (stays l h bs
      (all-same m l h bs bs-all (λ q a. b.other q (named-bs q a) (apart-bs q a)))
      (distinct-right (names_of h ms) (names_of h bs)
      (distinct-right (names_of h fs) (names_of h ms ++ names_of h bs) apart)))
      apart-bs named-bs) apart-fs named-part

  to-all : (q : NodePtr) → Among q (names_of h fs ++ (part ++ names_of h bs)) → Among q (old ++ new)
  to-all q a = elim (among-cases q (names_of h fs) (part ++ names_of h bs) a) [
    | inl c ↦ among-left q old new (in-fs q c)
    | inr c ↦ elim (among-cases q part (names_of h bs) c) [
      | inl e ↦ elim (among-cases q (names_of h ms) new e)
          [ inl f ↦ among-left q old new (in-ms q f) | inr f ↦ among-right q old new f ]
      | inr e ↦ among-left q old new (in-bs q e)
    ]
  ]

  from-old : (q : NodePtr) → Among q (names_of h fs ++ (names_of h ms ++ names_of h bs)) →
      Among q (names_of h fs ++ (part ++ names_of h bs))
  from-old q a = elim (among-cases q (names_of h fs) (names_of h ms ++ names_of h bs) a) [
    | inl c ↦ among-left q (names_of h fs) (part ++ names_of h bs) c
    | inr c ↦ among-right q (names_of h fs) (part ++ names_of h bs) (elim (among-cases q (names_of h ms) (names_of h bs) c) [
      | inl e ↦ among-left q part (names_of h bs) (among-left q (names_of h ms) new e)
      | inr e ↦ among-right q part (names_of h bs) e
    ])
  ]

  from-all : (q : NodePtr) → Among q (old ++ new) → Among q (names_of h fs ++ (part ++ names_of h bs))
  from-all q a = elim (among-cases q old new a) [
    | inl c ↦ from-old q (subst (Among q) names-are c)
    | inr c ↦ among-right q (names_of h fs) (part ++ names_of h bs)
        (among-left q part (names_of h bs) (among-right q (names_of h ms) new c))
  ]

  named-node : IsSome (finite.get m p)
  named-node = named-tree m (suc h) p tree

  pub node-stays : finite.get l p ≡ finite.get m p
  node-stays = b.other p named-node (λ c. elim (among-cases p (names_of h ms) new c) [
    | inl e ↦ d.0 (among-left p old new (in-ms p e))
    | inr e ↦ d.0 (among-right p old new e)
  ])

  -- and the node goes
  abbrev left : Records
  left = finite.remove l p

  abbrev list : List NodePtr
  list = front ++ (ys ++ back)

  taken : Becomes m left (p ∷ (names_of h fs ++ (part ++ names_of h bs))) h (fs ++ (us ++ bs))
  taken = gone m l p (names_of h fs ++ (part ++ names_of h bs)) h (fs ++ (us ++ bs)) among-all named-node (λ a.
      d.0 (to-all p a))

  tops-now : tops h (fs ++ (us ++ bs)) ≡ list
  tops-now = map-append (λ (t : Tree h). t.0) fs (us ++ bs)
      ∙ ap (λ zs. tops h (trees_at m h front) ++ zs) (map-append (λ (t : Tree h). t.0) us bs)
      ∙ (λ i. tops-tree_at m h front i ++ (tops-tree_at l h ys i ++ tops-tree_at m h back i))

  trees-now : trees_at left h list ≡ fs ++ (us ++ bs)
  trees-now = ap (trees_at left h) (sym tops-now) ∙ trees-is left h (fs ++ (us ++ bs)) taken.holds

  becomes-now : Becomes m left (names (suc h) (tree_at m (suc h) p) ++ new) h (trees_at left h list)
  becomes-now = subst (λ zs. Becomes m left (names (suc h) (tree_at m (suc h) p) ++ new) h zs) (sym trees-now)
      (renamed m left (p ∷ (names_of h fs ++ (part ++ names_of h bs))) (p ∷ (old ++ new)) h (fs ++ (us ++ bs)) taken
      (λ q a. elim a [ inl e ↦ inl e | inr c ↦ inr (to-all q c) ])
      (λ q a. elim a [ inl e ↦ inl e | inr c ↦ inr (from-all q c) ]))

  module _ (r k : ℕ) (at : k ≡ length (lines_of h fs) + r) (low : r ≤ length (lines_of h ms))
      (added : lines_of h us ≡ with_lines (lines_of h ms) r (lines_of 0 (trees_at m 0 xs))) where
    lines-split : lines_in m (suc h) p ≡ lines_of h fs ++ (lines_of h ms ++ lines_of h bs)
    lines-split = ap (lines_of h) kids-are ∙ flat_map-append (lines h) fs (ms ++ bs)
        ∙ ap (λ zs. lines_of h (trees_at m h front) ++ zs) (flat_map-append (lines h) ms bs)

    lines-now : lines_of h (trees_at left h list)
        ≡ with_lines (lines_in m (suc h) p) k (lines_of 0 (trees_at m 0 xs))
    lines-now = ap (lines_of h) trees-now ∙ flat_map-append (lines h) fs (us ++ bs)
        ∙ ap (λ zs. lines_of h (trees_at m h front) ++ zs)
        (flat_map-append (lines h) us bs ∙ ap (λ zs. zs ++ lines_of h (trees_at m h back)) added)
        ∙ sym (edit-middle (lines_of h fs) (lines_of h ms) (lines_of h bs) (lines_of 0 (trees_at m 0 xs)) r k at low)
        ∙ ap (λ zs. with_lines zs k (lines_of 0 (trees_at m 0 xs))) (sym lines-split)

    pub can-raise : FitsSum (plus (total (lines_in m (suc h) p)) (total (lines_of 0 (trees_at m 0 xs)))) →
        CanRaise left h list
    can-raise fits = record {
      holds = becomes-now.holds;
      distinct = becomes-now.distinct;
      fits = subst FitsSum (sym (ap (sum_all left) (sym (tops-tree_at left h list))
          ∙ sum-trees left h (trees_at left h list) becomes-now.holds ∙ ap total lines-now
          ∙ total-with_lines (lines_in m (suc h) p) k (lines_of 0 (trees_at m 0 xs)))) fits;
    }

    module _ (wide : IsWide 1 (suc h) (tree_at m (suc h) p)) (some : 1 ≤ length ys) (more : length mid ≤ length ys)
        (balanced : AllByRecursion (IsBalanced h) us) (n : Records) (ps : List NodePtr)
        (raises : Raises left n h list (length list) ps) (few : 12 * length ps ≤ length list + 11) where
      long-list : length (kids m p) ≤ length list
      long-list = let e = ap length split in let a = length-append front (mid ++ back) in
          let c = length-append mid back in let f = length-append front (ys ++ back) in
          let g = length-append ys back in omega arith

      some-list : 1 ≤ length list
      some-list = let f = length-append front (ys ++ back) in let g = length-append ys back in omega arith

      list-balanced : AllByRecursion (IsBalanced h) (below_all h (trees_at n (suc h) ps))
      list-balanced =
          let was = subst (AllByRecursion (IsBalanced h)) kids-are wide.2 in
          subst (AllByRecursion (IsBalanced h)) (sym (raises.below ∙ trees-now))
          (all-append (IsBalanced h) fs (us ++ bs) (all-left (IsBalanced h) fs (ms ++ bs) was)
          (all-append (IsBalanced h) us bs balanced
          (all-right (IsBalanced h) ms bs (all-right (IsBalanced h) fs (ms ++ bs) was))))

      pub takes-row : TakesRow m n (suc h) p k xs ps
      takes-row = record {
        becomes = and-then m left n (names (suc h) (tree_at m (suc h) p) ++ new) h (suc h) (trees_at left h list)
            (trees_at n (suc h) ps) becomes-now raises.becomes;
        lines = lines-below h (trees_at n (suc h) ps) ∙ ap (lines_of h) raises.below ∙ lines-now;
        some = some-above left n h list (length list) ps raises some-list;
        wide = λ least six w.
            let long = length-map (kids m p) (tree_at m h) in let e = w.0 in let f = long-list in
            wide-all least h (trees_at n (suc h) ps) (raises.wide least six (omega arith)) list-balanced;
        split = λ two. wide-all 6 h (trees_at n (suc h) ps) (raises.wide 6 (omega arith) (omega (arith, few, two)))
            list-balanced;
        loose = raises.loose;
      }
