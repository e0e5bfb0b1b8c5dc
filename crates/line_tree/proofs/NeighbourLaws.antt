-- Two neighbours among the trees below a node, which share their children or become one.
use Rattle.line_tree.proofs.Common.{◌≡◌, ℕ, suc, inl, inr, List, [], ◌∷◌, ◌++◌, length, take, drop, map, sym, ap, ◌∙◌}
use Rattle.line_tree.proofs.Common.{subst, arith, length-take, length-drop, ◌≢◌, IsSome, slice_get, Some}
use Rattle.line_tree.proofs.Common.{AllByRecursion, length-map, map-append, flat_map-append, Among, CanEven, Distinct}
use Rattle.line_tree.proofs.Common.{FitsSum, Merges, Shares, refilled, sum_all, Holds, Links, tree_at, IsBalanced, Tree}
use Rattle.line_tree.proofs.Common.{inner, lines, names, tops, total, NodePtr, Records, kids, row, same_or_other}
use Rattle.line_tree.proofs.Common.{KeepsLink, lines_of, names_of, Turns}
use Rattle.line_tree.proofs.AmongLaws.{among-drop, among-get, among-take}
use Rattle.line_tree.proofs.BuildLaws.{sum-kids, sum-trees}
use Rattle.line_tree.proofs.DistinctLaws.{distinct-left, distinct-right}
use Rattle.line_tree.proofs.EvenLaws.{fill-back, fill-front, fill-whole}
use Rattle.line_tree.proofs.FillLaws.{refilled-other}
use Rattle.line_tree.proofs.FrameLaws.{inner-no-top, tops-among}
use Rattle.line_tree.proofs.GrowLaws.{all-append, in-cases, names-append, of-one}
use Rattle.line_tree.proofs.InsertLaws.{all-get}
use Rattle.line_tree.proofs.PairLaws.{Pair, kids-both, pair-of, turns-merge, turns-share, two-lines}
use Rattle.line_tree.proofs.RemoveLaws.{fits-part}
use Rattle.line_tree.proofs.RemoveSteps.{pair-place}
use Rattle.line_tree.proofs.ShrinkLaws.{turns-wide}
use Rattle.line_tree.proofs.StepLaws.{all-drop, all-take, keeps-after, keeps-refilled, keeps-same, keeps-then}
use Rattle.line_tree.proofs.StepLaws.{links-kept}
use Rattle.line_tree.proofs.TreeLaws.{child-tree, named-tree, row-tree, tops-tree_at}
use Rattle.line_tree.proofs.UpdateLaws.{named-refilled, refilled-named}
use Rattle.std.specs.FinMap as finite

-- the trees of these names stand below p, and their lines can be counted
pub record Siblings (l : Records) (g : ℕ) (p : NodePtr) (cs : List NodePtr) : Type 0 where
  pub holds : AllByRecursion (Holds l (suc g)) (map (tree_at l (suc g)) cs)
  pub distinct : Distinct (names_of (suc g) (map (tree_at l (suc g)) cs))
  pub fits : FitsSum (total (lines_of (suc g) (map (tree_at l (suc g)) cs)))
  pub links : Links l p 0 cs

module _ (l : Records) (g : ℕ) (p : NodePtr) (cs : List NodePtr) (stand : Siblings l g p cs) (j : ℕ) (a b : NodePtr)
    (at_a : slice_get cs j ≡ Some a) (at_b : slice_get cs (suc j) ≡ Some b) where
  abbrev left : List (Tree (suc g))
  left = map (tree_at l (suc g)) (take j cs)

  abbrev right : List (Tree (suc g))
  right = map (tree_at l (suc g)) (drop (suc (suc j)) cs)

  abbrev two : List (Tree (suc g))
  two = tree_at l (suc g) a ∷ tree_at l (suc g) b ∷ []

  abbrev xs : List (Tree g)
  xs = map (tree_at l g) (kids l a)

  abbrev ys : List (Tree g)
  ys = map (tree_at l g) (kids l b)

  abbrev below : List (Tree g)
  below = xs ++ ys

  pub pair-placed : map (tree_at l (suc g)) cs ≡ left ++ (two ++ right)
  pair-placed = pair-place (tree_at l (suc g)) cs j a b at_a at_b

  pub pair-apart : Distinct (names_of (suc g) (left ++ (two ++ right)))
  pair-apart = subst (λ zs. Distinct (names_of (suc g) zs)) pair-placed stand.distinct

  pub pair-right-apart : Distinct (names_of (suc g) two ++ names_of (suc g) right)
  pair-right-apart = subst Distinct (names-append (suc g) two right)
      (distinct-right (names_of (suc g) left) (names_of (suc g) (two ++ right))
      (subst Distinct (names-append (suc g) left (two ++ right)) pair-apart))

  pub pair-two-apart : Distinct (names_of (suc g) two)
  pair-two-apart = distinct-left (names_of (suc g) two) (names_of (suc g) right) pair-right-apart

  pub hold-left : Holds l (suc g) (a, xs)
  hold-left = child-tree l (suc g) cs j a stand.holds at_a

  pub hold-right : Holds l (suc g) (b, ys)
  hold-right = child-tree l (suc g) cs (suc j) b stand.holds at_b

  pub pair-facts : Pair g a b xs ys
  pair-facts = pair-of g a b xs ys pair-two-apart

  pub pair-kids : kids l a ++ kids l b ≡ tops g below
  pair-kids = kids-both l g a b xs ys hold-left hold-right pair-two-apart

  pub pair-long : length (kids l a ++ kids l b) ≡ length below
  pair-long = ap length pair-kids ∙ length-map below (λ (t : Tree g). t.0)

  two-fits : FitsSum (total (lines_of g below))
  two-fits = subst (λ ls. FitsSum (total ls)) (two-lines g a b xs ys)
      (fits-part (lines_of (suc g) left) (lines_of (suc g) two) (lines_of (suc g) right)
      (subst (λ ls. FitsSum (total ls)) (ap (lines_of (suc g)) pair-placed
      ∙ flat_map-append (lines (suc g)) left (two ++ right)
      ∙ ap (λ zs. lines_of (suc g) left ++ zs) (flat_map-append (lines (suc g)) two right)) stand.fits))

  pub can-even : CanEven l a b
  can-even = record {
    left = row-tree l g a hold-left;
    links = subst (Links l a 0) (tops-tree_at l g (kids l a)) hold-left.1;
    right = row-tree l g b hold-right;
    two = pair-facts.two;
    off_left = λ s. pair-facts.off_left (tops-among g below a (subst (Among a) pair-kids s));
    off_right = λ s. pair-facts.off_right (tops-among g below b (subst (Among b) pair-kids s));
    sum_left = sum-kids l g a hold-left;
    sum_right = sum-kids l g b hold-right;
    fits = subst FitsSum (sym (ap (sum_all l) pair-kids
        ∙ sum-trees l g below (all-append (Holds l g) xs ys hold-left.2 hold-right.2))) two-fits;
  }

  -- what stands in their place
  pub turns-among : (n : Records) (new : List (Tree (suc g))) → Turns l n (suc g) two new →
      Turns l n (suc g) (map (tree_at l (suc g)) cs) (left ++ (new ++ right))
  turns-among n new turn = subst (λ zs. Turns l n (suc g) zs (left ++ (new ++ right))) (sym pair-placed)
      (turns-wide l n (suc g) left two right new turn (subst (AllByRecursion (Holds l (suc g))) pair-placed stand.holds) pair-apart)

  pub tops-among-two : (new : List (Tree (suc g))) → tops (suc g) (left ++ (new ++ right))
      ≡ take j cs ++ (tops (suc g) new ++ drop (suc (suc j)) cs)
  tops-among-two new = map-append (λ (t : Tree (suc g)). t.0) left (new ++ right)
      ∙ ap (λ zs. tops (suc g) left ++ zs) (map-append (λ (t : Tree (suc g)). t.0) new right)
      ∙ (λ i. tops-tree_at l (suc g) (take j cs) i
      ++ (tops (suc g) new ++ tops-tree_at l (suc g) (drop (suc (suc j)) cs) i))

  -- the other children stand in neither
  off-pair : (q : NodePtr) → Among q cs → q ≢ a → q ≢ b → Among q (names_of (suc g) two) → ⊥
  off-pair q among q_a q_b s =
      let now = map (tree_at l (suc g)) cs in
      let top = subst (Among q) (sym (tops-tree_at l (suc g) cs)) among in
      let none = inner-no-top (suc g) now stand.distinct in
      elim (in-cases (suc g) (tree_at l (suc g) a ∷ []) (tree_at l (suc g) b ∷ []) q s) [
        | inl c ↦ elim (of-one q (names (suc g) (tree_at l (suc g) a)) c) [
          | inl e ↦ q_a e
          | inr d ↦ all-get (λ t. (z : NodePtr) → Among z (inner (suc g) t) → Among z (tops (suc g) now) →
              ⊥) (tree_at l (suc g)) cs j a none at_a q d top
        ]
        | inr c ↦ elim (of-one q (names (suc g) (tree_at l (suc g) b)) c) [
          | inl e ↦ q_b e
          | inr d ↦ all-get (λ t. (z : NodePtr) → Among z (inner (suc g) t) → Among z (tops (suc g) now) →
              ⊥) (tree_at l (suc g)) cs (suc j) b none at_b q d top
        ]
      ]

  -- where both keep their places, all children do
  links-pair : (n : Records) → KeepsLink l n a → KeepsLink l n b →
      ((q : NodePtr) → (Among q (names_of (suc g) two) → ⊥) → finite.get n q ≡ finite.get l q) → Links n p 0 cs
  links-pair n keep_a keep_b other =
      links-kept l n p 0 cs stand.links (λ q among. elim (same_or_other q a) [
        | inl e ↦ subst (λ z. KeepsLink l n z) (sym e) keep_a
        | inr q_a ↦ elim (same_or_other q b) [
          | inl e ↦ subst (λ z. KeepsLink l n z) (sym e) keep_b
          | inr q_b ↦ let i = among-get q cs among in
              keeps-same l n q (named-tree l (suc g) q (child-tree l (suc g) cs i.0 q stand.holds i.1))
              (other q (off-pair q among q_a q_b))
        ]
      ])

  -- ---- they share
  module _ (n : Records) (shares : Shares l n a b) where
    pub share-turns : Turns l n (suc g) two ((a, take shares.half below) ∷ (b, drop shares.half below) ∷ [])
    share-turns = turns-share l g a b xs ys hold-left hold-right pair-two-apart can-even n shares

    pub share-links : Links n p 0 cs
    share-links =
        let all = kids l a ++ kids l b in let half = shares.half in let front = take half all in
        let back = drop half all in let first = refilled l a (row front) in
        let fill_b = fill-back l a b can-even half shares.parts.rest_high in
        let keep_a = keeps-then l first (refilled first b (row back)) a
        (keeps-refilled l a front (fill-front l a b can-even half shares.parts.high))
        (refilled-other first b back a can-even.two (λ s. can-even.off_left (among-drop a half all s))) in
        let keep_b = keeps-after l first (refilled first b (row back)) b
        (refilled-other l a front b (λ e. can-even.two (sym e)) (λ s.
        can-even.off_right (among-take b half all s))) (keeps-refilled first b back fill_b) in
        links-pair n (subst (λ z. KeepsLink l z a) (sym shares.same) keep_a)
        (subst (λ z. KeepsLink l z b) (sym shares.same) keep_b) share-turns.other

    pub share-named : (q : NodePtr) → IsSome (finite.get l q) → IsSome (finite.get n q)
    share-named q s = let all = kids l a ++ kids l b in let first = refilled l a (row (take shares.half all)) in
        subst (λ z. IsSome (finite.get z q)) (sym shares.same)
        (named-refilled first b (row (drop shares.half all)) q (named-refilled l a (row (take shares.half all)) q s))

    pub named-share : (q : NodePtr) → IsSome (finite.get n q) → IsSome (finite.get l q)
    named-share q s = let all = kids l a ++ kids l b in let first = refilled l a (row (take shares.half all)) in
        refilled-named l a (row (take shares.half all)) q
        (refilled-named first b (row (drop shares.half all)) q
        (subst (λ z. IsSome (finite.get z q)) shares.same s))

    pub share-balanced : AllByRecursion (IsBalanced g) below →
        AllByRecursion (IsBalanced (suc g)) ((a, take shares.half below) ∷ (b, drop shares.half below) ∷ [])
    share-balanced each =
        let half = shares.half in let all = pair-long in
        let nf = length-take half below in let nb = length-drop half below in let low = shares.parts.low in
        let high = shares.parts.high in let rest_low = shares.parts.rest_low in
        let rest_high = shares.parts.rest_high in (
          (omega arith, omega arith, all-take (IsBalanced g) half below each),
          ((omega arith, omega arith, all-drop (IsBalanced g) half below each), tt),
        )

  -- ---- they become one
  module _ (n : Records) (merges : Merges l n a b) where
    pub merge-turns : Turns l n (suc g) two ((a, below) ∷ [])
    merge-turns = turns-merge l g a b xs ys hold-left hold-right pair-two-apart can-even n merges

    pub merge-links : Links n p 0 cs
    merge-links =
        let all = kids l a ++ kids l b in
        let keep_a = keeps-refilled l a all (fill-whole l a b can-even merges.few) in
        let keep_b = keeps-same l (refilled l a (row all)) b (named-tree l (suc g) b hold-right)
        (refilled-other l a all b (λ e. can-even.two (sym e)) can-even.off_right) in
        links-pair n (subst (λ z. KeepsLink l z a) (sym merges.same) keep_a)
        (subst (λ z. KeepsLink l z b) (sym merges.same) keep_b) merge-turns.other
