-- One level of a removal.
use Rattle.line_tree.proofs.Common.{◌≡◌, ℕ, zero, suc, ◌+◌, ◌<◌, ◌≤◌, inl, inr, List, [], ◌∷◌, ◌++◌, length, take, drop}
use Rattle.line_tree.proofs.Common.{map, refl, sym, ap, ◌∙◌, subst, arith, length-take, ◌≢◌, IsSome, slice_get, Option}
use Rattle.line_tree.proofs.Common.{None, Some, AllByRecursion, remove, length-map, map-append, flat_map-append}
use Rattle.line_tree.proofs.Common.{length-remove, none-some, same_Some, slice_get-map, slice_get_within, Among}
use Rattle.line_tree.proofs.Common.{CanFill, Distinct, FitsSum, refilled, sum_all, Holds, IsTree, Links, lines_in}
use Rattle.line_tree.proofs.Common.{sum_at, tree_at, IsBalanced, Tree, inner, lines, names, tops, total, LineContent}
use Rattle.line_tree.proofs.Common.{NodePtr, Records, kids, kids_of, row, plus, same_or_other, Finds, HasRow, IsWide}
use Rattle.line_tree.proofs.Common.{KeepsLink, lines_of, names_of, CanRemove, Cleans, Removes, Shrinks, Found}
use Rattle.line_tree.proofs.AmongLaws.{among-cases, among-get, among-left, among-right}
use Rattle.line_tree.proofs.BuildLaws.{sum-kids, tree-is, trees-is}
use Rattle.line_tree.proofs.DistinctLaws.{distinct-left, distinct-right}
use Rattle.line_tree.proofs.FrameLaws.{inner-no-top}
use Rattle.line_tree.proofs.GrowLaws.{all-append, all-left, all-right, in-cases, in-left, in-right, names-append}
use Rattle.line_tree.proofs.GrowLaws.{of-one}
use Rattle.line_tree.proofs.InsertLaws.{all-get}
use Rattle.line_tree.proofs.LessLaws.{sum_all-remove}
use Rattle.line_tree.proofs.RemoveLaws.{can-fill, finish, fits-part, fits-removed}
use Rattle.line_tree.proofs.ShrinkLaws.{shrinks-one, shrinks-up, shrinks-wide}
use Rattle.line_tree.proofs.StepLaws.{at-place, keeps-same, links-kept, split-same}
use Rattle.line_tree.proofs.TreeLaws.{child-tree, count-tree, counted, named-tree, row-tree, top-tree_at, tops-tree_at}
use Rattle.std.specs.FinMap as finite

-- ---- lists by index
all-but : {X : Type 0} (P : X → Type 0) (ls : List X) (t : X) (rs : List X) → AllByRecursion P ls →
    AllByRecursion P rs → (j : ℕ) (u : X) → slice_get (ls ++ (t ∷ rs)) j ≡ Some u → j ≢ length ls → P u
all-but P [] t rs bl br zero u at n = absurd (n refl)
all-but P [] t rs bl br (suc j) u at n = by-index P rs br j u at where
  by-index : {X : Type 0} (P : X → Type 0) (rs : List X) → AllByRecursion P rs → (j : ℕ) (u : X) →
      slice_get rs j ≡ Some u → P u
  by-index P [] b j u at = absurd (none-some u at)
  by-index P (r ∷ rs) b zero u at = subst P (same_Some r u at) b.0
  by-index P (r ∷ rs) b (suc j) u at = by-index P rs b.1 j u at
all-but P (l ∷ ls) t rs bl br zero u at n = subst P (same_Some l u at) bl.0
all-but P (l ∷ ls) t rs bl br (suc j) u at n = all-but P ls t rs bl.1 br j u at (λ e. n (ap suc e))

pub all-from : {X Y : Type 0} (P : Y → Type 0) (f : X → Y) (xs : List X) →
    ((j : ℕ) (x : X) → slice_get xs j ≡ Some x → P (f x)) → AllByRecursion P (map f xs)
all-from P f [] each = tt
all-from P f (x ∷ xs) each = (each 0 x refl, all-from P f xs (λ j y at. each (suc j) y at))

pub in-take : {X : Type 0} (n : ℕ) (xs : List X) (j : ℕ) (x : X) → slice_get (take n xs) j ≡ Some x →
    (j < n) × (slice_get xs j ≡ Some x)
in-take zero xs j x at = absurd (none-some x at)
in-take (suc n) [] j x at = absurd (none-some x at)
in-take (suc n) (y ∷ xs) zero x at = (omega arith, at)
in-take (suc n) (y ∷ xs) (suc j) x at = let r = in-take n xs j x at in let less = r.0 in (omega arith, r.1)

pub in-drop : {X : Type 0} (n : ℕ) (xs : List X) (j : ℕ) (x : X) → slice_get (drop n xs) j ≡ Some x →
    slice_get xs (n + j) ≡ Some x
in-drop zero xs j x at = let e : j ≡ 0 + j = omega arith in ap (slice_get xs) (sym e) ∙ at
in-drop (suc n) [] j x at = absurd (none-some x at)
in-drop (suc n) (y ∷ xs) j x at = let e : suc n + j ≡ suc (n + j) = omega arith in
    ap (slice_get (y ∷ xs)) e ∙ in-drop n xs j x at

pub pair-same : {X : Type 0} (xs : List X) (i : ℕ) (a b : X) → slice_get xs i ≡ Some a → slice_get xs (suc i) ≡ Some b →
    xs ≡ take i xs ++ (a ∷ b ∷ drop (suc (suc i)) xs)
pair-same [] i a b at_a at_b = absurd (none-some a at_a)
pair-same (x ∷ []) zero a b at_a at_b = absurd (none-some b at_b)
pair-same (x ∷ y ∷ xs) zero a b at_a at_b = λ i. same_Some x a at_a i ∷ same_Some y b at_b i ∷ xs
pair-same (x ∷ xs) (suc i) a b at_a at_b = ap (λ zs. x ∷ zs) (pair-same xs i a b at_a at_b)

pub pair-place : {X Y : Type 0} (f : X → Y) (xs : List X) (i : ℕ) (a b : X) → slice_get xs i ≡ Some a →
    slice_get xs (suc i) ≡ Some b → map f xs ≡ map f (take i xs) ++ ((f a ∷ f b ∷ []) ++ map f (drop (suc (suc i)) xs))
pair-place f xs i a b at_a at_b = ap (map f) (pair-same xs i a b at_a at_b)
    ∙ map-append f (take i xs) (a ∷ b ∷ drop (suc (suc i)) xs)

pub pair-remove : {X : Type 0} (xs : List X) (i : ℕ) (a b : X) → slice_get xs i ≡ Some a →
    slice_get xs (suc i) ≡ Some b → remove xs (suc i) ≡ take i xs ++ (a ∷ drop (suc (suc i)) xs)
pair-remove [] i a b at_a at_b = absurd (none-some a at_a)
pair-remove (x ∷ []) zero a b at_a at_b = absurd (none-some b at_b)
pair-remove (x ∷ y ∷ xs) zero a b at_a at_b = ap (λ z. z ∷ xs) (same_Some x a at_a)
pair-remove (x ∷ xs) (suc i) a b at_a at_b = ap (λ zs. x ∷ zs) (pair-remove xs i a b at_a at_b)

line-few : (h : ℕ) (t : Tree h) → h ≡ 0 → length (lines h t) ≤ 1
line-few zero t e = one t.1 where
  one : (o : Option LineContent) → length (lines zero (t.0, o)) ≤ 1
  one None = omega arith
  one (Some l) = omega arith
line-few (suc h) t e = absurd (omega arith)

-- ---- at a node above the child with line k
module _ (m : Records) (h : ℕ) (p : NodePtr) (k : ℕ) (can : CanRemove m (suc h) p k) (f : Found) (finds : Finds m p k f)
  where
    abbrev before : List (Tree h)
    before = map (tree_at m h) (take f.slot (kids m p))

    abbrev after : List (Tree h)
    after = map (tree_at m h) (drop (suc f.slot) (kids m p))

    abbrev ts : List (Tree h)
    ts = map (tree_at m h) (kids m p)

    split : ts ≡ before ++ (tree_at m h f.child ∷ after)
    split = at-place (tree_at m h) (kids m p) f.slot f.child finds.child

    whole : AllByRecursion (Holds m h) (before ++ (tree_at m h f.child ∷ after))
    whole = subst (AllByRecursion (Holds m h)) split can.tree.2

    apart : Distinct (names_of h (before ++ (tree_at m h f.child ∷ after)))
    apart = subst (λ zs. Distinct (names_of h zs)) split can.distinct.1

    in-child : (q : NodePtr) → Among q (names h (tree_at m h f.child)) → Among q (names_of h ts)
    in-child q a = subst (λ zs. Among q (names_of h zs)) (sym split)
        (subst (Among q) (sym (names-append h before (tree_at m h f.child ∷ after)))
        (among-right q (names_of h before) (names_of h (tree_at m h f.child ∷ after))
        (among-left q (names h (tree_at m h f.child)) (names_of h after) a)))

    tree-child : IsTree m h f.child
    tree-child = child-tree m h (kids m p) f.slot f.child can.tree.2 finds.child

    pub balanced-child : IsBalanced h (tree_at m h f.child)
    balanced-child = all-get (IsBalanced h) (tree_at m h) (kids m p) f.slot f.child can.wide.2 finds.child

    rest-within : f.rest < length (lines_in m h f.child)
    rest-within = let n = count-tree m h f.child tree-child in let r = finds.rest in omega arith

    wide-two : (t : Tree h) → IsBalanced h t → IsWide 2 h t
    wide-two t b = two h t b where
      two : (h : ℕ) (t : Tree h) → IsBalanced h t → IsWide 2 h t
      two zero t b = tt
      two (suc h) t b = let low = b.0 in (omega arith, b.1, b.2)

    pub can-below : CanRemove m h f.child f.rest
    can-below = record {
      tree = tree-child;
      wide = wide-two (tree_at m h f.child) balanced-child;
      distinct = distinct-left (names h (tree_at m h f.child)) (names_of h after)
          (distinct-right (names_of h before) (names_of h (tree_at m h f.child ∷ after))
          (subst Distinct (names-append h before (tree_at m h f.child ∷ after)) apart));
      place = rest-within;
      fits = fits-part (lines_of h before) (lines_in m h f.child) (lines_of h after)
          (subst (λ ls. FitsSum (total ls)) (ap (lines_of h) split
          ∙ flat_map-append (lines h) before (tree_at m h f.child ∷ after)) can.fits);
    }

    -- line k is so many lines behind those of the children before
    place-before : k ≡ length (lines_of h before) + f.rest
    place-before = let place = finds.place in
        let e = counted m h (take f.slot (kids m p)) (all-left (Holds m h) before (tree_at m h f.child ∷ after) whole)
        in omega arith

    pub within-slot : f.slot < length (kids m p)
    within-slot = slice_get_within (kids m p) f.slot f.child finds.child

    pub child-named : IsSome (finite.get m f.child)
    child-named = named-tree m h f.child tree-child

    pub one-long : length (lines_in m h f.child) ≡ f.lines
    one-long = sym (count-tree m h f.child tree-child) ∙ sym finds.lines

    pub line-alone : h ≡ 0 → f.lines ≤ 1
    line-alone e = let n = one-long in let few = line-few h (tree_at m h f.child) e in omega arith

    -- ---- the child itself goes, whose first line is line k
    module _ (first : f.rest ≡ 0) where
      one-shrinks : Shrinks m m h ts k h f.child (before ++ after)
      one-shrinks = let at = place-before in
          subst (λ zs. Shrinks m m h zs k h f.child (before ++ after)) (sym split)
          (shrinks-one m h before f.child after k whole apart (omega arith))

      one-tops : tops h (before ++ after) ≡ remove (kids m p) f.slot
      one-tops = map-append (λ (t : Tree h). t.0) before after
          ∙ (λ i. tops-tree_at m h (take f.slot (kids m p)) i ++ tops-tree_at m h (drop (suc f.slot) (kids m p)) i)

      one-few : length (before ++ after) + 1 ≡ length (kids m p)
      one-few = let e = ap length one-tops in let d = length-map (before ++ after) (λ (t : Tree h). t.0) in
          let n = length-remove (kids m p) f.slot within-slot in omega arith

      one-balanced : AllByRecursion (IsBalanced h) (before ++ after)
      one-balanced = let old = subst (AllByRecursion (IsBalanced h)) split can.wide.2 in
          all-append (IsBalanced h) before after (all-left (IsBalanced h) before (tree_at m h f.child ∷ after) old)
          (all-right (IsBalanced h) before (tree_at m h f.child ∷ after) old).1

      one-fill-trees : CanFill m p (tops h (before ++ after))
      one-fill-trees = let has = row-tree m h p can.tree in let n = one-few in let few = has.few in
          can-fill m m h p ts k h f.child (before ++ after) one-shrinks can.distinct.0 has (omega arith) can.fits

      pub one-fill : CanFill m p (remove (kids m p) f.slot)
      one-fill = subst (CanFill m p) one-tops one-fill-trees

      pub one-removes : (n : Records) → n ≡ refilled m p (row (remove (kids m p) f.slot)) →
          Removes m n (suc h) p k h f.child
      one-removes n is = let e = one-few in
          finish m m n h p k h f.child (before ++ after) can one-shrinks refl one-fill-trees one-balanced (omega arith)
          (is ∙ ap (λ cs. refilled m p (row cs)) (sym one-tops))

      pub one-cleans : (n : Records) → n ≡ refilled m p (row (remove (kids m p) f.slot)) →
          Cleans m n (suc h) p h f.child
      one-cleans n is q a out other =
          let up = shrinks-up m m n h p ts k h f.child (before ++ after) one-shrinks can.distinct.0 one-fill-trees
          (is ∙ ap (λ cs. refilled m p (row cs)) (sym one-tops)) in
          let tree : tree_at n (suc h) p ≡ (p, before ++ after) = tree-is n (suc h) (p, before ++ after) up.holds.0 in
          let gone : Among q (p ∷ names_of h (before ++ after)) →
          ⊥ = λ b. out (subst (λ t. Among q (names (suc h) t)) (sym tree) b) in
          absurd (elim a [
            | inl e ↦ gone (inl e)
            | inr b ↦ elim (in-cases h before (tree_at m h f.child ∷ after) q
                (subst (λ zs. Among q (names_of h zs)) split b)) [
                  | inl c ↦ gone (inr (in-left h before after q c))
                  | inr c ↦ elim (among-cases q (names h (tree_at m h f.child)) (names_of h after) c)
                      [ inl d ↦ other d | inr d ↦ gone (inr (in-right h before after q d)) ]
                ]
          ])

      pub one-sum : plus (sum_all m (remove (kids m p) f.slot)) (sum_at m f.child) ≡ sum_at m p
      one-sum = sum_all-remove m (kids m p) f.slot f.child finds.child ∙ sym (sum-kids m h p can.tree)

    -- ---- so much goes below it
    module _ (l : Records) (j : ℕ) (x : NodePtr) (rem : Removes m l h f.child f.rest j x) where
      abbrev now : List (Tree h)
      now = map (tree_at l h) (kids m p)

      first : Shrinks m l h ts k j x (before ++ (tree_at l h f.child ∷ after))
      first = let less = rest-within in
          subst (λ zs. Shrinks m l h zs k j x (before ++ (tree_at l h f.child ∷ after))) (sym split)
          (shrinks-wide m l h before (tree_at m h f.child) after f.rest k j x (tree_at l h f.child ∷ []) rem.shrinks
          whole apart place-before (omega arith))

      pub node-same : finite.get l p ≡ finite.get m p
      node-same = rem.shrinks.other p (λ a. can.distinct.0 (in-child p (of-one p (names h (tree_at m h f.child)) a)))

      pub kids-same : kids l p ≡ kids m p
      kids-same = ap kids_of node-same

      -- what goes has its record yet
      pub gone-same : finite.get l x ≡ finite.get m x
      gone-same = rem.shrinks.left x (inl (sym (top-tree_at m j x)))

      tops-first : tops h (before ++ (tree_at l h f.child ∷ after)) ≡ kids m p
      tops-first = map-append (λ (t : Tree h). t.0) before (tree_at l h f.child ∷ after)
          ∙ (λ i. tops-tree_at m h (take f.slot (kids m p)) i
          ++ (top-tree_at l h f.child i ∷ tops-tree_at m h (drop (suc f.slot) (kids m p)) i))
          ∙ sym (split-same (kids m p) f.slot f.child finds.child)

      now-are : before ++ (tree_at l h f.child ∷ after) ≡ now
      now-are =
          sym (trees-is l h (before ++ (tree_at l h f.child ∷ after)) first.holds) ∙ ap (map (tree_at l h)) tops-first

      pub shrinks-now : Shrinks m l h ts k j x now
      shrinks-now = subst (λ zs. Shrinks m l h ts k j x zs) now-are first

      pub has-now : HasRow l p
      has-now = let has = row-tree m h p can.tree in record {
        found = has.found;
        is = node-same ∙ has.is;
        children = has.children ∙ ap row (sym kids-same);
        few = subst (λ cs. length cs ≤ 12) (sym kids-same) has.few;
        inner = has.inner;
        each = λ i c at. named-tree l h c (child-tree l h (kids m p) i c shrinks-now.holds
            (ap (λ cs. slice_get cs i) (sym kids-same) ∙ at));
      }

      pub two-kids : 2 ≤ length (kids l p)
      two-kids = let n = ap length kids-same in let w = can.wide.0 in let e = length-map (kids m p) (tree_at m h) in
          omega arith

      pub child-now : slice_get (kids l p) f.slot ≡ Some f.child
      child-now = ap (λ cs. slice_get cs f.slot) kids-same ∙ finds.child

      pub balanced-but : (i : ℕ) (d : NodePtr) → slice_get (kids m p) i ≡ Some d → i ≢ f.slot →
          IsBalanced h (tree_at l h d)
      balanced-but i d at n =
          let old = subst (AllByRecursion (IsBalanced h)) split can.wide.2 in
          let w = slice_get_within (kids m p) f.slot f.child finds.child in
          let a = length-map (take f.slot (kids m p)) (tree_at m h) in let b = length-take f.slot (kids m p) in
          let long : length before ≡ f.slot = omega arith in
          all-but (IsBalanced h) before (tree_at l h f.child) after
          (all-left (IsBalanced h) before (tree_at m h f.child ∷ after) old)
          (all-right (IsBalanced h) before (tree_at m h f.child ∷ after) old).1
          i (tree_at l h d) (ap (λ zs. slice_get zs i) now-are ∙ slice_get-map (tree_at l h) (kids m p) i
          ∙ ap (λ o. elim o as (λ _. Option (Tree h)) [ None ↦ None | Some y ↦ Some (tree_at l h y) ]) at) (λ e.
          n (e ∙ long))

      pub fits-now : FitsSum (total (lines_of h now))
      fits-now =
          subst (λ ls. FitsSum (total ls)) (sym shrinks-now.line)
          (fits-removed (lines_of h ts) k (k + length (lines_in m j x)) (omega arith) can.fits)

      -- each child keeps its place
      keeps-now : (q : NodePtr) → Among q (kids m p) → KeepsLink m l q
      keeps-now q a =
          let top = subst (Among q) (sym (tops-tree_at m h (kids m p))) a in
          let i = among-get q (kids m p) a in let named = (row-tree m h p can.tree).each i.0 q i.1 in
          elim (same_or_other q f.child) [
            | inl e ↦ subst (λ z. KeepsLink m l z) (sym e) rem.link
            | inr n ↦ keeps-same m l q named (rem.shrinks.other q (λ b.
                elim (of-one q (names h (tree_at m h f.child)) b) [
                  | inl e ↦ n (e ∙ top-tree_at m h f.child)
                  | inr c ↦ all-get (λ t. (z : NodePtr) → Among z (inner h t) → Among z (tops h ts) →
                      ⊥) (tree_at m h) (kids m p) f.slot f.child (inner-no-top h ts can.distinct.1) finds.child q c top
                ]))
          ]

      pub links-now : Links l p 0 (kids m p)
      links-now = links-kept m l p 0 (kids m p) (subst (Links m p 0) (tops-tree_at m h (kids m p)) can.tree.1) keeps-now

      -- what is in the tree no more
      pub now-lost : Cleans m l h f.child j x → (q : NodePtr) → Among q (names_of h ts) →
          (Among q (names_of h now) → ⊥) → (Among q (names j (tree_at m j x)) → ⊥) → finite.get l q ≡ None
      now-lost clean q a out n =
          let to-now : Among q (names_of h (before ++ (tree_at l h f.child ∷ after))) →
          Among q (names_of h now) = λ b. subst (λ zs. Among q (names_of h zs)) now-are b in
          elim (in-cases h before (tree_at m h f.child ∷ after) q (subst (λ zs. Among q (names_of h zs)) split a)) [
            | inl b ↦ absurd (out (to-now (in-left h before (tree_at l h f.child ∷ after) q b)))
            | inr b ↦ elim (among-cases q (names h (tree_at m h f.child)) (names_of h after) b) [
              | inl c ↦ clean q c (λ d.
                  out (to-now (in-right h before (tree_at l h f.child ∷ after) q
                  (among-left q (names h (tree_at l h f.child)) (names_of h after) d)))) n
              | inr c ↦ absurd
                  (out (to-now (in-right h before (tree_at l h f.child ∷ after) q
                  (among-right q (names h (tree_at l h f.child)) (names_of h after) c))))
            ]
          ]
