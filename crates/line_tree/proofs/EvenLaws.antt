-- The children of a node without one of them, and those of two nodes.
use Rattle.line_tree.proofs.Common.{◌≡◌, ℕ, zero, suc, ◌+◌, ◌<◌, ◌≤◌, inl, inr, List, [], ◌∷◌, ◌++◌, length, take, drop}
use Rattle.line_tree.proofs.Common.{refl, sym, ap, ◌∙◌, subst, arith, length-append, length-take, length-drop, IsSome}
use Rattle.line_tree.proofs.Common.{slice_get, Option, None, Some, remove, append-nil, take-append-drop, slice_get_past}
use Rattle.line_tree.proofs.Common.{Among, CanEven, CanFill, FitsSum, Stay, refilled, relinked, sum_all, sums, Links}
use Rattle.line_tree.proofs.Common.{sum_at, NodePtr, Records, kids, row, plus, length-row, HasRow}
use Rattle.line_tree.proofs.AmongLaws.{among-cases, among-drop, among-get, among-take, get-among}
use Rattle.line_tree.proofs.FillLaws.{refilled-other, refilled-sum, row-some, sum_all-append, sum_all-same, sums-row}
use Rattle.line_tree.proofs.KeptLaws.{kept-front, kept-row}
use Rattle.line_tree.proofs.SumLaws.{fits-left, fits-right}
use Rattle.line_tree.proofs.UpdateLaws.{named-refilled}
use Rattle.std.specs.FinMap as finite

pub remove-above : {X : Type 0} (xs : List X) (at i : ℕ) → at < length xs → at ≤ i →
    slice_get (remove xs at) i ≡ slice_get xs (i + 1)
remove-above [] at i h above = absurd (omega arith)
remove-above (x ∷ xs) zero i h above = let e : suc i ≡ i + 1 = omega arith in ap (slice_get (x ∷ xs)) e
remove-above (x ∷ xs) (suc at) zero h above = absurd (omega arith)
remove-above (x ∷ xs) (suc at) (suc i) h above = let e : suc (i + 1) ≡ suc i + 1 = omega arith in
    remove-above xs at i (omega arith) (omega arith) ∙ ap (slice_get (x ∷ xs)) e

pub pair-past : {X : Type 0} (xs ys : List X) (i : ℕ) → length xs + length ys ≤ i → slice_get (xs ++ ys) i ≡ None
pair-past xs ys i past = let n = length-append xs ys in slice_get_past (xs ++ ys) i (omega arith)

-- ---- children that stay
pub kept-remove : (m : Records) (p : NodePtr) (at : ℕ) → HasRow m p → Links m p 0 (kids m p) → at < length (kids m p)
    → Stay m p at (row (remove (kids m p) at))
kept-remove m p at has links less = let ks = kids m p in
    let long : length (take at ks) ≡ at = omega (arith, length-take at ks, less) in
    kept-row m p has links (take at ks) (drop at ks) (drop (suc at) ks) (remove ks at) (sym (take-append-drop at ks))
    refl ∙ ap (λ n. relinked m p n (drop n (row (remove ks at)))) long

pub kept-all : (m : Records) (p : NodePtr) (n : ℕ) → HasRow m p → Links m p 0 (kids m p) → n ≡ length (kids m p) →
    Stay m p n (row (kids m p))
kept-all m p n has links e = let ks = kids m p in
    kept-row m p has links ks [] [] ks (sym (append-nil ks)) (sym (append-nil ks))
    ∙ ap (λ i. relinked m p i (drop i (row ks))) (sym e)

-- where the first ones are those of the left one
pub kept-part : (m : Records) (a b : NodePtr) → CanEven m a b → (n : ℕ) (cs : List NodePtr) → n ≤ length (kids m a) →
    take n cs ≡ take n (kids m a) → (os : List (Option NodePtr)) → os ≡ row cs → Stay m a n os
kept-part m a b can n cs within front os is =
    subst (Stay m a n) (sym is) (kept-front m a can.left can.links n cs within front)

module _ (m : Records) (a b : NodePtr) (can : CanEven m a b) where
  abbrev both : List NodePtr
  both = kids m a ++ kids m b

  pub named-both : (c : NodePtr) → Among c (kids m a ++ kids m b) → IsSome (finite.get m c)
  named-both c s = elim (among-cases c (kids m a) (kids m b) s) [
    | inl l ↦ let i = among-get c (kids m a) l in can.left.each i.0 c i.1
    | inr r ↦ let i = among-get c (kids m b) r in can.right.each i.0 c i.1
  ]

  pub fill-whole : length (kids m a ++ kids m b) ≤ 12 → CanFill m a (kids m a ++ kids m b)
  fill-whole few = record {
    found = can.left.found;
    is = can.left.is;
    inner = can.left.inner;
    long = ap length can.left.children ∙ length-row (kids m a) can.left.few;
    few = few;
    each = named-both;
    apart = can.off_left;
    fits = can.fits;
  }

  pub named-part : (cs : List NodePtr) → ((c : NodePtr) → Among c cs → Among c both) → (os : List (Option NodePtr)) →
      os ≡ row cs → (i : ℕ) (d : NodePtr) → slice_get os i ≡ Some (Some d) → IsSome (finite.get m d)
  named-part cs inside os is i d there =
      named-both d (inside d (get-among cs i d (row-some cs i d (ap (λ zs. slice_get zs i) (sym is) ∙ there))))

  pub whole-sum : plus (sum_at m a) (sum_at m b) ≡ sum_all m (kids m a ++ kids m b)
  whole-sum = (λ i. plus (can.sum_left i) (can.sum_right i)) ∙ sym (sum_all-append m (kids m a) (kids m b))

  pub halves : (n : ℕ) → FitsSum (plus (sum_all m (take n both)) (sum_all m (drop n both)))
  halves n = subst FitsSum (ap (sum_all m) (sym (take-append-drop n both))
      ∙ sum_all-append m (take n both) (drop n both)) can.fits

  pub fill-front : (n : ℕ) → n ≤ 12 → CanFill m a (take n (kids m a ++ kids m b))
  fill-front n few = let l = length-take n both in record {
    found = can.left.found;
    is = can.left.is;
    inner = can.left.inner;
    long = ap length can.left.children ∙ length-row (kids m a) can.left.few;
    few = omega arith;
    each = λ c s. named-both c (among-take c n both s);
    apart = λ s. can.off_left (among-take a n both s);
    fits = fits-left (sum_all m (take n both)) (sum_all m (drop n both)) (halves n);
  }

  pub fill-back : (n : ℕ) → length (kids m a ++ kids m b) ≤ n + 12 →
      CanFill (refilled m a (row (take n (kids m a ++ kids m b)))) b (drop n (kids m a ++ kids m b))
  fill-back n few =
      let left = refilled m a (row (take n both)) in let l = length-drop n both in
      let same = sum_all-same m left (drop n both) (λ c s.
      refilled-sum m a (row (take n both)) c (λ e.
      can.off_left (among-drop a n both (subst (λ q. Among q (drop n both)) e s)))) in
      record {
        found = can.right.found;
        is = refilled-other m a (take n both) b (λ e. can.two (sym e)) (λ s. can.off_right (among-take b n both s))
            ∙ can.right.is;
        inner = can.right.inner;
        long = ap length can.right.children ∙ length-row (kids m b) can.right.few;
        few = omega arith;
        each = λ c s. named-refilled m a (row (take n both)) c (named-both c (among-drop c n both s));
        apart = λ s. can.off_right (among-drop b n both s);
        fits = subst FitsSum (sym same) (fits-right (sum_all m (take n both)) (sum_all m (drop n both)) (halves n));
      }

  -- the sum of the others once the first are told
  pub back-sums : (n : ℕ) → sums (refilled m a (row (take n (kids m a ++ kids m b))))
      (row (drop n (kids m a ++ kids m b))) ≡ sum_all m (drop n (kids m a ++ kids m b))
  back-sums n = let left = refilled m a (row (take n both)) in
      sums-row left (drop n both)
      ∙ sum_all-same m left (drop n both) (λ c s.
      refilled-sum m a (row (take n both)) c (λ e.
      can.off_left (among-drop a n both (subst (λ q. Among q (drop n both)) e s))))
