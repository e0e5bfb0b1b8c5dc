-- One more child for a node, with room and without.
use Rattle.line_tree.proofs.Common.{◌≡◌, ℕ, zero, suc, ◌+◌, ◌-◌, ◌≤◌, inl, inr, List, [], ◌∷◌, ◌++◌, length, take, drop}
use Rattle.line_tree.proofs.Common.{map, replicate, cond, refl, sym, ap, ◌∙◌, subst, arith, length-drop, length-take}
use Rattle.line_tree.proofs.Common.{◌≢◌, IfSome, IsSome, is_some, slice_get, Option, None, Some, count_by, insert}
use Rattle.line_tree.proofs.Common.{take-append-drop, take-append-le, sum_by-cons, none-some, Among, CanFill, CanPut}
use Rattle.line_tree.proofs.Common.{FitsSum, Puts, Stay, refilled, relinked, sum_all, sums, Links, sum_at, sum_of}
use Rattle.line_tree.proofs.Common.{NodePtr, Records, blank, kids, kids_of, row, plus, at_some, get_inserted, get_other}
use Rattle.line_tree.proofs.Common.{kept_insert, some_of, length-row, HasRow}
use Rattle.line_tree.proofs.AmongLaws.{among-drop, among-get, among-insert, among-take}
use Rattle.line_tree.proofs.FillLaws.{refilled-other, refilled-sum, sum_all-append, sum_all-same, sums-row}
use Rattle.line_tree.proofs.FrameLaws.{links-same}
use Rattle.line_tree.proofs.KeptLaws.{kept-front, kept-row, take-short}
use Rattle.line_tree.proofs.SumLaws.{fits-left, fits-right}
use Rattle.line_tree.proofs.UpdateLaws.{named-refilled}
use Rattle.std.specs.FinMap as finite

-- ---- how many
count-none : (n : ℕ) → count_by is_some (replicate {A = Option NodePtr} n None) ≡ 0
count-none zero = refl
count-none (suc n) = let s = sum_by-cons (λ (o : Option NodePtr). cond (is_some o) 1 0) None
    (replicate {A = Option NodePtr} n None) in let r = count-none n in omega arith

count-somes : (cs : List NodePtr) (n : ℕ) →
    count_by is_some (map (λ c. Some c) cs ++ replicate {A = Option NodePtr} n None) ≡ length cs
count-somes [] n = count-none n
count-somes (c ∷ cs) n =
    let s = sum_by-cons (λ (o : Option NodePtr). cond (is_some o) 1 0) (Some c)
    (map (λ c. Some c) cs ++ replicate {A = Option NodePtr} n None) in let r = count-somes cs n in omega arith

pub count-row : (m : Records) (p : NodePtr) (n : ℕ) → HasRow m p →
    IfSome (finite.get m p) (λ r. n ≡ count_by is_some r.children) → n ≡ length (kids m p)
count-row m p n has says =
    at_some (finite.get m p) (λ r. n ≡ count_by is_some r.children) has.found says has.is
    ∙ ap (count_by is_some) has.children ∙ count-somes (kids m p) (12 - length (kids m p))

-- ---- how many stay where they split
abbrev pub split_at : (m n : Records) (p : NodePtr) (all : List NodePtr) (o : Option NodePtr) → Puts m n p all o → ℕ
split_at m n p all None puts = 0
split_at m n p all (Some s) puts = puts.half

-- ---- the parts fit
module _ (m : Records) (p : NodePtr) (at : ℕ) (x : NodePtr) (can : CanPut m p at x) where
  pub long : length can.row.found.children ≡ 12
  long = ap length can.row.children ∙ length-row (kids m p) can.row.few

  pub named-all : (c : NodePtr) → Among c (insert (kids m p) at x) → IsSome (finite.get m c)
  named-all c a = elim (among-insert c (kids m p) at x a) [
    | inl old ↦ let i = among-get c (kids m p) old in can.row.each i.0 c i.1
    | inr new ↦ subst (λ q. IsSome (finite.get m q)) (sym new) can.named
  ]

  pub fill-room : length (insert (kids m p) at x) ≤ 12 → CanFill m p (insert (kids m p) at x)
  fill-room few = record {
    found = can.row.found;
    is = can.row.is;
    inner = can.row.inner;
    long = long;
    few = few;
    each = named-all;
    apart = can.apart;
    fits = can.fits;
  }

  pub halves-sum : (half : ℕ) → plus (sum_all m (take half (insert (kids m p) at x)))
      (sum_all m (drop half (insert (kids m p) at x))) ≡ sum_all m (insert (kids m p) at x)
  halves-sum half = sym (ap (sum_all m) (sym (take-append-drop half (insert (kids m p) at x)))
      ∙ sum_all-append m (take half (insert (kids m p) at x)) (drop half (insert (kids m p) at x)))

  both : (half : ℕ) →
      FitsSum (plus (sum_all m (take half (insert (kids m p) at x))) (sum_all m (drop half (insert (kids m p) at x))))
  both half = subst FitsSum (sym (halves-sum half)) can.fits

  pub first-fits : (half : ℕ) → FitsSum (sums m (row (take half (insert (kids m p) at x))))
  first-fits half = let all = insert (kids m p) at x in
      subst FitsSum (sym (sums-row m (take half all)))
      (fits-left (sum_all m (take half all)) (sum_all m (drop half all)) (both half))

  pub last-fits : (half : ℕ) → FitsSum (sums m (row (drop half (insert (kids m p) at x))))
  last-fits half = let all = insert (kids m p) at x in
      subst FitsSum (sym (sums-row m (drop half all)))
      (fits-right (sum_all m (take half all)) (sum_all m (drop half all)) (both half))

  -- the children before the new one stay
  pub kept-put : Stay m p at (row (insert (kids m p) at x))
  kept-put = let ks = kids m p in let long : length (take at ks) ≡ at = omega (arith, length-take at ks, can.place) in
      kept-row m p can.row can.links (take at ks) (drop at ks) (x ∷ drop at ks) (insert ks at x)
      (sym (take-append-drop at ks)) refl ∙ ap (λ n. relinked m p n (drop n (row (insert ks at x)))) long

  module _ (s : NodePtr) (fresh : finite.get m s ≡ None) where
    not-new : (c : NodePtr) → IsSome (finite.get m c) → c ≢ s
    not-new c named e = let r = some_of (finite.get m c) named in
        none-some r.0 (sym fresh ∙ ap (finite.get m) (sym e) ∙ r.1)

    pub not-old : Among s (insert (kids m p) at x) → ⊥
    not-old a = not-new s (named-all s a) refl

    p-not-new : p ≢ s
    p-not-new e = none-some can.row.found (sym fresh ∙ ap (finite.get m) (sym e) ∙ can.row.is)

    named-kid : (q : NodePtr) → Among q (kids m p) → IsSome (finite.get m q)
    named-kid q a = let i = among-get q (kids m p) a in can.row.each i.0 q i.1

    made : Records
    made = finite.insert m s (blank None)

    sum-made : (c : NodePtr) → IsSome (finite.get m c) → sum_at made c ≡ sum_at m c
    unfolding made
    sum-made c named = ap sum_of (get_other m s (blank None) c (not-new c named))

    -- the sums of both parts as they were
    pub left-sums : (half : ℕ) → sums (finite.insert m s (blank None)) (row (take half (insert (kids m p) at x)))
        ≡ sums m (row (take half (insert (kids m p) at x)))
    unfolding made
    left-sums half = let all = insert (kids m p) at x in let n = finite.insert m s (blank None) in
        sums-row n (take half all) ∙ sum_all-same m n (take half all) (λ c a.
        sum-made c (named-all c (among-take c half all a))) ∙ sym (sums-row m (take half all))

    pub right-sums : (half : ℕ) →
        sums (refilled (finite.insert m s (blank None)) p (row (take half (insert (kids m p) at x))))
        (row (drop half (insert (kids m p) at x))) ≡ sums m (row (drop half (insert (kids m p) at x)))
    unfolding made
    right-sums half = let all = insert (kids m p) at x in let left = finite.insert m s (blank None) in
        let n = refilled left p (row (take half all)) in
        sums-row n (drop half all) ∙ sum_all-same m n (drop half all) (λ c a.
        refilled-sum left p (row (take half all)) c (λ e.
        can.apart (among-drop p half all (subst (λ q. Among q (drop half all)) e a)))
        ∙ sum-made c (named-all c (among-drop c half all a)))
        ∙ sym (sums-row m (drop half all))

    pub fill-left : (half : ℕ) → half ≤ 12 →
        CanFill (finite.insert m s (blank None)) p (take half (insert (kids m p) at x))
    unfolding made
    fill-left half small = let all = insert (kids m p) at x in let n = length-take half all in
        let same = sum_all-same m (finite.insert m s (blank None)) (take half all) (λ c a.
        sum-made c (named-all c (among-take c half all a))) in
        record {
          found = can.row.found;
          is = get_other m s (blank None) p p-not-new ∙ can.row.is;
          inner = can.row.inner;
          long = long;
          few = omega arith;
          each = λ c a. kept_insert m s (blank None) c (named-all c (among-take c half all a));
          apart = λ a. can.apart (among-take p half all a);
          fits =
              subst FitsSum (sym same) (fits-left (sum_all m (take half all)) (sum_all m (drop half all)) (both half));
        }

    -- of the first half those before the new one stay
    pub kept-left : (half : ℕ) → (n : ℕ) → n ≤ at → n ≤ half →
        Stay (finite.insert m s (blank None)) p n (row (take half (insert (kids m p) at x)))
    unfolding made
    kept-left half n before few = let ks = kids m p in
        let same : (q : NodePtr) → IsSome (finite.get m q) →
        finite.get made q ≡ finite.get m q = λ q named. get_other m s (blank None) q (not-new q named) in
        let node = get_other m s (blank None) p p-not-new in let children = ap kids_of node in let place = can.place in
        let cut = length-take at ks in
        let row_now : HasRow made p = record {
          found = can.row.found;
          is = node ∙ can.row.is;
          children = can.row.children ∙ ap row (sym children);
          few = subst (λ cs. length cs ≤ 12) (sym children) can.row.few;
          inner = can.row.inner;
          each = λ i c is. kept_insert m s (blank None) c
              (can.row.each i c (ap (λ cs. slice_get cs i) (sym children) ∙ is));
        } in
        let links : Links made p 0 (kids made p) = subst (Links made p 0) (sym children)
        (links-same m made p 0 ks can.links (λ q a. same q (named-kid q a))) in
        kept-front made p row_now links n (take half (insert ks at x))
        (subst (λ cs. n ≤ length cs) (sym children) (omega arith))
        (take-short n half (insert ks at x) few ∙ take-append-le n (take at ks) (x ∷ drop at ks) (omega arith)
        ∙ take-short n at ks before ∙ ap (take n) (sym children))

    pub fill-right : (half : ℕ) → length (insert (kids m p) at x) ≤ half + 12 →
        CanFill (refilled (finite.insert m s (blank None)) p (row (take half (insert (kids m p) at x)))) s
        (drop half (insert (kids m p) at x))
    unfolding made
    fill-right half few = let all = insert (kids m p) at x in let n = length-drop half all in
        let left = finite.insert m s (blank None) in
        let same = sum_all-same m (refilled left p (row (take half all))) (drop half all) (λ c a.
        refilled-sum left p (row (take half all)) c (λ e.
        can.apart (among-drop p half all (subst (λ q. Among q (drop half all)) e a)))
        ∙ sum-made c (named-all c (among-drop c half all a))) in
        record {
          found = blank None;
          inner = refl;
          is = refilled-other left p (take half all) s (λ e. p-not-new (sym e)) (λ a. not-old (among-take s half all a))
              ∙ get_inserted m s (blank None);
          long = refl;
          few = omega arith;
          each = λ c a. named-refilled left p (row (take half all)) c
              (kept_insert m s (blank None) c (named-all c (among-drop c half all a)));
          apart = λ a. not-old (among-drop s half all a);
          fits =
              subst FitsSum (sym same) (fits-right (sum_all m (take half all)) (sum_all m (drop half all)) (both half));
        }
