-- One more node above the trees of a level.
use Rattle.line_tree.proofs.Common.{◌≡◌, ℕ, zero, suc, ◌+◌, ◌-◌, ◌≤◌, inl, inr, List, [], ◌∷◌, ◌++◌, length, refl, sym}
use Rattle.line_tree.proofs.Common.{ap, ◌∙◌, subst, append_assoc, arith, take, drop, IsSome, slice_get, option_to_list}
use Rattle.line_tree.proofs.Common.{AllByRecursion, append-nil, length-map, map-append, take-append-drop}
use Rattle.line_tree.proofs.Common.{flat_map-append, Among, Distinct, FitsSum, sum_all, Count, plus, Holds, sum_of}
use Rattle.line_tree.proofs.Common.{tree_at, NodePtr, Records, Tree, tops, HasNoParent, NewRoot, names_of, Becomes}
use Rattle.line_tree.proofs.Common.{CanRaise, HasKids, Raises, below_all, trees_at}
use Rattle.line_tree.proofs.AmongLaws.{among-cases, among-left}
use Rattle.line_tree.proofs.BecomeLaws.{both, node-becomes, node-loose}
use Rattle.line_tree.proofs.BuildLaws.{trees-is}
use Rattle.line_tree.proofs.DistinctLaws.{distinct-apart, distinct-left, distinct-right}
use Rattle.line_tree.proofs.FillLaws.{sum_all-append, sum_all-same}
use Rattle.line_tree.proofs.FrameLaws.{all-same, names-all-held, tops-among}
use Rattle.line_tree.proofs.GrowLaws.{all-append, all-left, all-right, names-append, unnamed}
use Rattle.line_tree.proofs.TreeLaws.{tops-tree_at}
use Rattle.std.specs.FinMap as finite

-- ---- parts of a list
pub push-one : {X : Type 0} (xs : List X) (i : ℕ) → take (suc i) xs ≡ take i xs ++ option_to_list (slice_get xs i)
push-one [] zero = refl
push-one [] (suc i) = refl
push-one (x ∷ xs) zero = refl
push-one (x ∷ xs) (suc i) = ap (λ zs. x ∷ zs) (push-one xs i)

pub three-parts : {X : Type 0} (xs : List X) (from count : ℕ) →
    take from xs ++ (take count (drop from xs) ++ drop count (drop from xs)) ≡ xs
three-parts xs from count =
    ap (λ zs. take from xs ++ zs) (take-append-drop count (drop from xs)) ∙ take-append-drop from xs

take-none : {X : Type 0} (n : ℕ) → take {A = X} n [] ≡ []
take-none zero = refl
take-none (suc n) = refl

pub two-parts : {X : Type 0} (xs : List X) (from count : ℕ) →
    take from xs ++ take count (drop from xs) ≡ take (from + count) xs
two-parts xs zero count = let e : count ≡ 0 + count = omega arith in ap (λ j. take j xs) e
two-parts [] (suc from) count = take-none count ∙ sym (take-none (suc from + count))
two-parts (x ∷ xs) (suc from) count = let e : suc (from + count) ≡ suc from + count = omega arith in
    ap (λ zs. x ∷ zs) (two-parts xs from count) ∙ ap (λ j. take j (x ∷ xs)) e

get-drop : {X : Type 0} (xs : List X) (from j : ℕ) → slice_get (drop from xs) j ≡ slice_get xs (from + j)
get-drop xs zero j = let e : j ≡ 0 + j = omega arith in ap (slice_get xs) e
get-drop [] (suc from) j = refl
get-drop (x ∷ xs) (suc from) j = let e : suc (from + j) ≡ suc from + j = omega arith in
    get-drop xs from j ∙ ap (slice_get (x ∷ xs)) e

-- one more of a part
pub grown : {X : Type 0} (start xs : List X) (from i : ℕ) → from ≤ i →
    (start ++ take (i - from) (drop from xs)) ++ option_to_list (slice_get xs i)
    ≡ start ++ take (i + 1 - from) (drop from xs)
grown start xs from i low =
    let e : suc (i - from) ≡ i + 1 - from = omega arith in let f : from + (i - from) ≡ i = omega arith in
    let ys = drop from xs in
    append_assoc start (take (i - from) ys) (option_to_list (slice_get xs i))
    ∙ ap (λ zs. start ++ zs)
    (ap (λ o. take (i - from) ys ++ option_to_list o) (sym (get-drop xs from (i - from) ∙ ap (slice_get xs) f))
    ∙ sym (push-one ys (i - from)))
    ∙ ap (λ j. start ++ take j ys) e

middle-fits : (a b c : Count) → FitsSum (plus a (plus b c)) → FitsSum b
middle-fits a b c fits = let l = fits.lines in let n = fits.characters in let m = fits.marks in
    record { lines = omega (arith, l); characters = omega (arith, n); marks = omega (arith, m) }

-- ---- the part that comes next
module _ (m l : Records) (h : ℕ) (done g rest : List NodePtr) (all : ℕ) (ps : List NodePtr)
    (can : CanRaise m h (done ++ (g ++ rest))) (before : Raises m l h done all ps) where
  abbrev first : List (Tree h)
  first = trees_at m h done

  abbrev next : List (Tree h)
  next = trees_at m h g

  split : trees_at m h (done ++ (g ++ rest)) ≡ first ++ (next ++ trees_at m h rest)
  split = map-append (tree_at m h) done (g ++ rest)
      ∙ ap (λ zs. trees_at m h done ++ zs) (map-append (tree_at m h) g rest)

  whole : AllByRecursion (Holds m h) (first ++ (next ++ trees_at m h rest))
  whole = subst (AllByRecursion (Holds m h)) split can.holds

  next-all : AllByRecursion (Holds m h) next
  next-all = all-left (Holds m h) next (trees_at m h rest)
      (all-right (Holds m h) first (next ++ trees_at m h rest) whole)

  apart-all : Distinct (names_of h first ++ (names_of h next ++ names_of h (trees_at m h rest)))
  apart-all = subst Distinct (names-append h first (next ++ trees_at m h rest)
      ∙ ap (λ zs. names_of h first ++ zs) (names-append h next (trees_at m h rest)))
      (subst (λ ts. Distinct (names_of h ts)) split can.distinct)

  apart : (q : NodePtr) → Among q (names_of h next) → Among q (names_of h first) → ⊥
  apart q a b = distinct-apart (names_of h first) (names_of h next ++ names_of h (trees_at m h rest)) apart-all q b
      (among-left q (names_of h next) (names_of h (trees_at m h rest)) a)

  next-named : (q : NodePtr) → Among q (names_of h next) → IsSome (finite.get m q)
  next-named = names-all-held m h next next-all

  next-same : (q : NodePtr) → Among q (names_of h next) → finite.get l q ≡ finite.get m q
  next-same q a = before.becomes.other q (next-named q a) (apart q a)

  next-held : AllByRecursion (Holds l h) next
  next-held = all-same m l h next next-all next-same

  next-tops : tops h next ≡ g
  next-tops = tops-tree_at m h g

  pub next-there : (c : NodePtr) → Among c g → IsSome (finite.get l c)
  next-there c a = names-all-held l h next next-held c
      (tops-among h next c (subst (Among c) (sym next-tops) a))

  pub next-fits : FitsSum (sum_all l g)
  next-fits =
      let same = sum_all-same m l g (λ c a.
      ap sum_of (next-same c (tops-among h next c (subst (Among c) (sym next-tops) a)))) in
      subst FitsSum (sym same) (middle-fits (sum_all m done) (sum_all m g) (sum_all m rest)
      (subst FitsSum (sum_all-append m done (g ++ rest) ∙ ap (plus (sum_all m done)) (sum_all-append m g rest))
      can.fits))

  module _ (n : Records) (a : NodePtr) (made : NewRoot l n a g) (few : length g ≤ 12) where
    root : NewRoot l n a (tops h next)
    root = subst (NewRoot l n a) (sym next-tops) made

    next-apart : Distinct (names_of h next)
    next-apart = distinct-left (names_of h next) (names_of h (trees_at m h rest))
        (distinct-right (names_of h first) (names_of h next ++ names_of h (trees_at m h rest)) apart-all)

    tops-few : length (tops h next) ≤ 12
    tops-few = subst (λ cs. length cs ≤ 12) (sym next-tops) few

    tops-fits : FitsSum (sum_all l (tops h next))
    tops-fits = subst (λ cs. FitsSum (sum_all l cs)) (sym next-tops) next-fits

    one : Becomes l n (names_of h next) (suc h) ((a, next) ∷ [])
    one = node-becomes l n h a next root next-held next-apart tops-few tops-fits

    abbrev made_all : List (Tree (suc h))
    made_all = trees_at l (suc h) ps ++ (a, next) ∷ []

    joined : Becomes m n (names_of h first ++ names_of h next) (suc h) made_all
    joined = both m l n (names_of h first) (names_of h next) (suc h) (trees_at l (suc h) ps) ((a, next) ∷ [])
        before.becomes one apart next-named

    same : trees_at n (suc h) (ps ++ a ∷ []) ≡ made_all
    same = ap (trees_at n (suc h)) (sym (map-append (λ (t : Tree (suc h)). t.0) (trees_at l (suc h) ps) ((a, next) ∷ [])
        ∙ ap (λ zs. zs ++ a ∷ []) (tops-tree_at l (suc h) ps)))
        ∙ trees-is n (suc h) made_all joined.holds

    children-are : trees_at m h (done ++ g) ≡ first ++ next
    children-are = map-append (tree_at m h) done g

    pub raises-more : ((least : ℕ) → least ≤ 6 → least ≤ all → least ≤ length g) → Raises m n h (done ++ g) all (ps ++ a ∷ [])
    raises-more enough = record {
      becomes = subst (λ us. Becomes m n (names_of h (trees_at m h (done ++ g))) (suc h) us) (sym same)
          (subst (λ zs. Becomes m n zs (suc h) made_all)
          (sym (ap (names_of h) children-are ∙ names-append h first next)) joined);
      below = ap (below_all h) same
          ∙ flat_map-append (λ (t : Tree (suc h)). t.1) (trees_at l (suc h) ps) ((a, next) ∷ [])
          ∙ (λ i. before.below i ++ append-nil next i) ∙ sym children-are;
      wide = λ least six enough_all.
          let long = length-map g (tree_at m h) in let low = enough least six enough_all in
          subst (AllByRecursion (HasKids least h)) (sym same)
          (all-append (HasKids least h) (trees_at l (suc h) ps) ((a, next) ∷ []) (before.wide least six enough_all)
          ((omega arith, omega arith), tt));
      loose = λ q c. elim (among-cases q ps (a ∷ []) c) [
        | inl d ↦
            let top = tops-among (suc h) (trees_at l (suc h) ps) q
            (subst (Among q) (sym (tops-tree_at l (suc h) ps)) d) in
            let off : Among q (names_of h next) → ⊥ = λ e.
            unnamed m q (next-named q e) (before.becomes.within q top (apart q e)) in
            let stay = one.other q (names-all-held l (suc h) (trees_at l (suc h) ps) before.becomes.holds q top) off in
            let old = before.loose q d in
            record { found = old.found; is = stay ∙ old.is; parent = old.parent }
        | inr d ↦ elim d [
          | inl e ↦ subst (λ z. HasNoParent n z) (sym e)
              (node-loose l n h a next root next-held next-apart tops-few tops-fits)
          | inr e ↦ absurd e
        ]
      ];
    }

-- ---- all of them
