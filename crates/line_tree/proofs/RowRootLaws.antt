-- A row of lines in a whole tree.
use Rattle.line_tree.proofs.Common.{◌≡◌, ℕ, zero, suc, ◌+◌, ◌≤◌, inl, inr, List, [], ◌∷◌, ◌++◌, length, take, drop}
use Rattle.line_tree.proofs.Common.{refl, sym, ap, ◌∙◌, subst, arith, length-append, length-take, length-drop, IsSome}
use Rattle.line_tree.proofs.Common.{AllByRecursion, append-nil, Among, Distinct, FitsSum, Holds, lines_in, tree_at}
use Rattle.line_tree.proofs.Common.{IsBalancedRoot, Named, Tree, least_below_root, lines, names, total, NodePtr}
use Rattle.line_tree.proofs.Common.{Records, plus, IsWide, Stands, StandsAlone, lines_of, names_of, Becomes, CanLift}
use Rattle.line_tree.proofs.Common.{CanTakeRow, Lifts, TakesRow, trees_at, with_lines}
use Rattle.line_tree.proofs.AmongLaws.{among-left, among-or, among-right}
use Rattle.line_tree.proofs.DistinctLaws.{distinct-append}
use Rattle.line_tree.proofs.FrameLaws.{holds-same, names-held}
use Rattle.line_tree.proofs.GrowLaws.{of-one, unnamed}
use Rattle.line_tree.proofs.RemakeLaws.{total-with_lines}
use Rattle.line_tree.proofs.RootLaws.{tree-same, wide-root}
use Rattle.line_tree.proofs.StepLaws.{all-balanced}
use Rattle.std.specs.FinMap as finite

least-small : (h : ℕ) → least_below_root h ≤ 6
least-small zero = omega arith
least-small (suc h) = omega arith

roots : (h : ℕ) (t : Tree h) (us : List (Tree h)) →
    ((least : ℕ) → least ≤ 6 → IsWide least h t → AllByRecursion (IsWide least h) us) → IsBalancedRoot h t →
    AllByRecursion (IsBalancedRoot h) us
roots zero t us wide balanced = absurd balanced
roots (suc h) t us wide balanced = wide (least_below_root h) (least-small h) balanced

pub length-with_lines : (ls : List Named) (k : ℕ) (added : List Named) → k ≤ length ls →
    length (with_lines ls k added) ≡ length ls + length added
length-with_lines ls k added within =
    let a = length-append (take k ls) (added ++ drop k ls) in let b = length-append added (drop k ls) in
    let c = length-take k ls in let d = length-drop k ls in omega (arith, a, b, c, d, within)

module _ (m l : Records) (h : ℕ) (r : NodePtr) (k : ℕ) (xs : List NodePtr) (stands : Stands m h r)
    (row : Becomes m l [] 0 (trees_at l 0 xs)) (place : k ≤ length (lines_in m h r)) (some : 1 ≤ length xs)
    (fits : FitsSum (plus (total (lines_in m h r)) (total (lines_of 0 (trees_at l 0 xs))))) where
  named : (q : NodePtr) → Among q (names h (tree_at m h r)) → IsSome (finite.get m q)
  named = names-held m h (tree_at m h r) stands.tree

  stay : (q : NodePtr) → Among q (names h (tree_at m h r)) → finite.get l q ≡ finite.get m q
  stay q a = row.other q (named q a) (λ c. c)

  pub row-same : tree_at l h r ≡ tree_at m h r
  row-same = tree-same m l h r stands.tree stay

  pub can-take : CanTakeRow l h r k xs
  can-take = record {
    tree = subst (λ t. Holds l h t) (sym row-same) (holds-same m l h (tree_at m h r) stands.tree stay);
    wide = subst (λ t. IsWide 1 h t) (sym row-same) (wide-root h (tree_at m h r) stands.balanced);
    place = subst (λ t. k ≤ length (lines h t)) (sym row-same) place;
    row = row.holds;
    some = some;
    distinct = subst (λ t. Distinct (names h t ++ names_of 0 (trees_at l 0 xs))) (sym row-same)
        (distinct-append (names h (tree_at m h r)) (names_of 0 (trees_at l 0 xs)) stands.distinct row.distinct (λ q a b.
        unnamed m q (named q a) (row.within q b (λ c. c))));
    fits = subst (λ t. FitsSum (plus (total (lines h t)) (total (lines_of 0 (trees_at l 0 xs))))) (sym row-same) fits;
  }

  module _ (n : Records) (ys : List NodePtr) (takes : TakesRow l n h r k xs ys) where
    lines-taken : lines_of h (trees_at n h ys) ≡ with_lines (lines_in m h r) k (lines_of 0 (trees_at l 0 xs))
    lines-taken = takes.lines ∙ ap (λ t. with_lines (lines h t) k (lines_of 0 (trees_at l 0 xs))) row-same

    fits-taken : FitsSum (total (lines_of h (trees_at n h ys)))
    fits-taken = subst FitsSum (sym (ap total lines-taken
        ∙ total-with_lines (lines_in m h r) k (lines_of 0 (trees_at l 0 xs)))) fits

    pub can-lift : CanLift n h ys
    can-lift = record {
      some = takes.some;
      holds = takes.becomes.holds;
      distinct = takes.becomes.distinct;
      fits = fits-taken;
      root = roots h (tree_at l h r) (trees_at n h ys) takes.wide
          (subst (IsBalancedRoot h) (sym row-same) stands.balanced);
      split = λ two. all-balanced h (trees_at n h ys) (takes.split two);
      loose = takes.loose;
    }

    module _ (u : Records) (top : ℕ) (a : NodePtr) (lifts : Lifts n u h ys top (a ∷ [])) where
      pub lines-lifted : lines_in u top a ≡ with_lines (lines_in m h r) k (lines_of 0 (trees_at l 0 xs))
      lines-lifted = sym (append-nil (lines_in u top a)) ∙ lifts.lifted.lines ∙ lines-taken

      lifted-stands : Stands u top a
      lifted-stands = let can = lifts.lifted.can in record {
        tree = can.holds.0;
        balanced = can.root.0;
        distinct = subst Distinct (append-nil (names top (tree_at u top a))) can.distinct;
        root = can.loose a (inl refl);
        fits = subst (λ ls. FitsSum (total ls)) (append-nil (lines_in u top a)) can.fits;
      }

      pub lifted-alone : ((q : NodePtr) → IsSome (finite.get m q) → Among q (names h (tree_at m h r))) →
          StandsAlone u top a
      lifted-alone whole = record {
        stands = lifted-stands;
        whole = λ q s. elim (among-or q (names top (tree_at u top a))) [
          | inl c ↦ c
          | inr out ↦
              let b = lifts.lifted.becomes.old q s (λ c. out (of-one q (names top (tree_at u top a)) c)) in
              let d = takes.becomes.old q b.0 b.1 in
              let e = row.old q d.0 (λ c. d.1 (right q c)) in
              absurd (d.1 (left q (subst (λ t. Among q (names h t)) (sym row-same) (whole q e.0))))
        ];
      } where
        right : (q : NodePtr) → Among q (names_of 0 (trees_at l 0 xs)) →
            Among q (names h (tree_at l h r) ++ names_of 0 (trees_at l 0 xs))
        right q c = among-right q (names h (tree_at l h r)) (names_of 0 (trees_at l 0 xs)) c

        left : (q : NodePtr) → Among q (names h (tree_at l h r)) →
            Among q (names h (tree_at l h r) ++ names_of 0 (trees_at l 0 xs))
        left q c = among-left q (names h (tree_at l h r)) (names_of 0 (trees_at l 0 xs)) c
