-- What new children of a node leave at each name.
use Rattle.line_tree.proofs.Common.{◌≡◌, ℕ, zero, suc, ◌+◌, ◌-◌, ◌<◌, ◌≤◌, inl, inr, List, [], ◌∷◌, ◌++◌, length}
use Rattle.line_tree.proofs.Common.{get_or, map, replicate, refl, sym, ap, ◌∙◌, subst, arith, ◌≢◌, slice_get, Option}
use Rattle.line_tree.proofs.Common.{None, Some, filter_map, insert, option_map, append-nil, ext_get_or, drop_all, sets}
use Rattle.line_tree.proofs.Common.{sets-eq, get_or_from_slice_get, no_text-plus, plus-associative, plus-commutative}
use Rattle.line_tree.proofs.Common.{Among, CanFill, link_one, refilled, relinked, sum_all, sums, NodePtr, Record}
use Rattle.line_tree.proofs.Common.{Records, update, with_child, with_parent, with_sum, kids, kids_of, row, no_text}
use Rattle.line_tree.proofs.Common.{plus, sum_at, sum_of, same_or_other, get_or-row, length-row, somes-row, get-update}
use Rattle.line_tree.proofs.Common.{get-update-other, HasRow}
use Rattle.line_tree.proofs.AmongLaws.{get-among}
use Rattle.line_tree.proofs.UpdateLaws.{named-relinked}
use Rattle.std.specs.FinMap as finite

-- ---- lists
pub insert-above : {X : Type 0} (xs : List X) (at i : ℕ) (y : X) → at ≤ length xs → at < i →
    slice_get (insert xs at y) i ≡ slice_get xs (i - 1)
insert-above xs zero zero y h less = absurd (omega arith)
insert-above xs zero (suc i) y h less = let e : i ≡ suc i - 1 = omega arith in ap (slice_get xs) e
insert-above [] (suc at) i y h less = absurd (omega arith)
insert-above (x ∷ xs) (suc at) zero y h less = absurd (omega arith)
insert-above (x ∷ xs) (suc at) (suc zero) y h less = absurd (omega arith)
insert-above (x ∷ xs) (suc at) (suc (suc i)) y h less =
    let e : suc i - 1 ≡ i = omega arith in let f : suc i ≡ suc (suc i) - 1 = omega arith in
    insert-above xs at (suc i) y (omega arith) (omega arith) ∙ ap (slice_get xs) e ∙ ap (slice_get (x ∷ xs)) f

pub same_row : (os : List (Option NodePtr)) (cs : List NodePtr) → length cs ≤ 12 → length os ≡ 12 →
    ((k : ℕ) → k < 12 → get_or os k None ≡ slice_get cs k) → os ≡ row cs
same_row os cs few long items = ext_get_or None os (row cs) (long
    ∙ sym (length-row cs few)) (λ k less. items k (omega arith) ∙ sym (get_or-row cs k))

pub row-some : (cs : List NodePtr) (i : ℕ) (c : NodePtr) → slice_get (row cs) i ≡ Some (Some c) →
    slice_get cs i ≡ Some c
row-some cs i c is = sym (get_or-row cs i) ∙ get_or_from_slice_get (row cs) i (Some c) None is

-- ---- what stays

pub relinked-other : (m : Records) (p : NodePtr) (i : ℕ) (os : List (Option NodePtr)) (q : NodePtr) → q ≢ p →
    (Among q (filter_map (λ c. c) os) → ⊥) → finite.get (relinked m p i os) q ≡ finite.get m q
relinked-other m p i [] q n out = refl
relinked-other m p i (None ∷ os) q n out =
    relinked-other (link_one m p i None) p (suc i) os q n out ∙ get-update-other m p (λ r. with_child r i None) q n
relinked-other m p i (Some c ∷ os) q n out =
    relinked-other (link_one m p i (Some c)) p (suc i) os q n (λ a. out (inr a))
    ∙ get-update-other (update m p (λ r. with_child r i (Some c))) c (λ r. with_parent r (Some p) i) q (λ e.
    out (inl e))
    ∙ get-update-other m p (λ r. with_child r i (Some c)) q n

-- ---- the node itself
pub at-update : (m : Records) (p : NodePtr) (f : Record → Record) (r : Record) → finite.get m p ≡ Some r →
    finite.get (update m p f) p ≡ Some (f r)
at-update m p f r is = get-update m p f ∙ ap (option_map f) is

pub relinked-top : (m : Records) (p : NodePtr) (i : ℕ) (os : List (Option NodePtr)) (r : Record) →
    finite.get m p ≡ Some r → (Among p (filter_map (λ c. c) os) → ⊥)
    → finite.get (relinked m p i os) p ≡ Some (record r { children = sets r.children i os })
relinked-top m p i [] r is out = is
relinked-top m p i (None ∷ os) r is out = relinked-top (link_one m p i None) p (suc i) os (with_child r i None)
    (at-update m p (λ x. with_child x i None) r is) out
relinked-top m p i (Some c ∷ os) r is out =
    relinked-top (link_one m p i (Some c)) p (suc i) os (with_child r i (Some c))
    (get-update-other (update m p (λ x. with_child x i (Some c))) c (λ x. with_parent x (Some p) i) p (λ e. out (inl e))
    ∙ at-update m p (λ x. with_child x i (Some c)) r is)
    (λ a. out (inr a))

pub sets-all : (xs os : List (Option NodePtr)) → length os ≡ length xs → sets xs 0 os ≡ os
sets-all xs os e = let all : length xs ≤ 0 + length os = omega arith in
    let room : 0 + length os ≤ length xs = omega arith in
    sets-eq os xs 0 room ∙ ap (λ ys. os ++ ys) (drop_all (0 + length os) xs all) ∙ append-nil os

pub relinked-row : (m : Records) (p : NodePtr) (cs : List NodePtr) (r : Record) → finite.get m p ≡ Some r →
    length r.children ≡ 12 → length cs ≤ 12 → (Among p cs → ⊥)
    → finite.get (relinked m p 0 (row cs)) p ≡ Some (record r { children = row cs })
relinked-row m p cs r is long few out =
    relinked-top m p 0 (row cs) r is (λ a. out (subst (Among p) (somes-row cs) a))
    ∙ ap (λ xs. Some (record r { children = xs })) (sets-all r.children (row cs) (length-row cs few ∙ sym long))

-- ---- sums
same_sum : (o : Option Record) (f : Record → Record) → ((r : Record) → (f r).sum ≡ r.sum) →
    sum_of (option_map f o) ≡ sum_of o
same_sum None f same = refl
same_sum (Some r) f same = same r

sum-update : (m : Records) (p : NodePtr) (f : Record → Record) (q : NodePtr) → ((r : Record) → (f r).sum ≡ r.sum) →
    sum_at (update m p f) q ≡ sum_at m q
sum-update m p f q same = elim (same_or_other q p) [
  | inl e ↦ ap (sum_at (update m p f)) e ∙ ap sum_of (get-update m p f) ∙ same_sum (finite.get m p) f same
      ∙ ap (sum_at m) (sym e)
  | inr n ↦ ap sum_of (get-update-other m p f q n)
]

pub sum-relinked : (m : Records) (p : NodePtr) (i : ℕ) (os : List (Option NodePtr)) (q : NodePtr) →
    sum_at (relinked m p i os) q ≡ sum_at m q
sum-relinked m p i [] q = refl
sum-relinked m p i (None ∷ os) q =
    sum-relinked (link_one m p i None) p (suc i) os q ∙ sum-update m p (λ r. with_child r i None) q (λ r. refl)
sum-relinked m p i (Some c ∷ os) q =
    sum-relinked (link_one m p i (Some c)) p (suc i) os q
    ∙ sum-update (update m p (λ r. with_child r i (Some c))) c (λ r. with_parent r (Some p) i) q (λ r. refl)
    ∙ sum-update m p (λ r. with_child r i (Some c)) q (λ r. refl)

sums-none : (m : Records) (n : ℕ) → sums m (replicate {A = Option NodePtr} n None) ≡ no_text
sums-none m zero = refl
sums-none m (suc n) = no_text-plus (sums m (replicate {A = Option NodePtr} n None)) ∙ sums-none m n

sums-somes : (m : Records) (cs : List NodePtr) (n : ℕ) →
    sums m (map (λ c. Some c) cs ++ replicate {A = Option NodePtr} n None) ≡ sum_all m cs
sums-somes m [] n = sums-none m n
sums-somes m (c ∷ cs) n = ap (plus (sum_at m c)) (sums-somes m cs n)

pub sums-row : (m : Records) (cs : List NodePtr) → sums m (row cs) ≡ sum_all m cs
sums-row m cs = sums-somes m cs (12 - length cs)

pub sum_all-same : (m n : Records) (cs : List NodePtr) → ((c : NodePtr) → Among c cs → sum_at n c ≡ sum_at m c) →
    sum_all n cs ≡ sum_all m cs
sum_all-same m n [] same = refl
sum_all-same m n (c ∷ cs) same = λ i. plus (same c (inl refl) i) (sum_all-same m n cs (λ d a. same d (inr a)) i)

pub sums-same : (m n : Records) (os : List (Option NodePtr)) → ((c : NodePtr) → sum_at n c ≡ sum_at m c) →
    sums n os ≡ sums m os
sums-same m n [] same = refl
sums-same m n (None ∷ os) same = ap (plus no_text) (sums-same m n os same)
sums-same m n (Some c ∷ os) same = λ i. plus (same c i) (sums-same m n os same i)

pub sum_all-insert : (m : Records) (cs : List NodePtr) (at : ℕ) (x : NodePtr) →
    plus (sum_all m cs) (sum_at m x) ≡ sum_all m (insert cs at x)
sum_all-insert m cs zero x = plus-commutative (sum_all m cs) (sum_at m x)
sum_all-insert m [] (suc at) x = plus-commutative no_text (sum_at m x)
sum_all-insert m (c ∷ cs) (suc at) x =
    plus-associative (sum_at m c) (sum_all m cs) (sum_at m x) ∙ ap (plus (sum_at m c)) (sum_all-insert m cs at x)

pub sum_all-append : (m : Records) (cs ds : List NodePtr) → sum_all m (cs ++ ds) ≡ plus (sum_all m cs) (sum_all m ds)
sum_all-append m [] ds = sym (no_text-plus (sum_all m ds))
sum_all-append m (c ∷ cs) ds =
    ap (plus (sum_at m c)) (sum_all-append m cs ds) ∙ sym (plus-associative (sum_at m c) (sum_all m cs) (sum_all m ds))

-- ---- after the links
pub relinked-has_row : (m : Records) (p : NodePtr) (cs : List NodePtr) → CanFill m p cs →
    HasRow (relinked m p 0 (row cs)) p × (kids (relinked m p 0 (row cs)) p ≡ cs)
relinked-has_row m p cs can =
    let n = relinked m p 0 (row cs) in
    let is = relinked-row m p cs can.found can.is can.long can.few can.apart in
    let same : kids n p ≡ cs = ap kids_of is ∙ somes-row cs in (
      record {
        found = record can.found { children = row cs };
        is = is;
        children = ap row (sym same);
        few = subst (λ xs. length xs ≤ 12) (sym same) can.few;
        inner = can.inner;
        each = λ i c at. named-relinked m p 0 (row cs) c
            (can.each c (get-among cs i c (ap (λ xs. slice_get xs i) (sym same) ∙ at)));
      },
      same,
    )

pub relinked-sums : (m : Records) (p : NodePtr) (cs : List NodePtr) →
    sums (relinked m p 0 (row cs)) (row cs) ≡ sum_all m cs
relinked-sums m p cs = let n = relinked m p 0 (row cs) in sums-row n cs
    ∙ sum_all-same m n cs (λ c a. sum-relinked m p 0 (row cs) c)

-- ---- all of it
pub refilled-other : (m : Records) (p : NodePtr) (cs : List NodePtr) (q : NodePtr) → q ≢ p → (Among q cs → ⊥) →
    finite.get (refilled m p (row cs)) q ≡ finite.get m q
refilled-other m p cs q n out = let l = relinked m p 0 (row cs) in
    get-update-other l p (λ r. with_sum r (sums l (row cs))) q n
    ∙ relinked-other m p 0 (row cs) q n (λ a. out (subst (Among q) (somes-row cs) a))

pub refilled-sum : (m : Records) (p : NodePtr) (os : List (Option NodePtr)) (q : NodePtr) → q ≢ p →
    sum_at (refilled m p os) q ≡ sum_at m q
refilled-sum m p os q n = let l = relinked m p 0 os in
    ap sum_of (get-update-other l p (λ r. with_sum r (sums l os)) q n) ∙ sum-relinked m p 0 os q
