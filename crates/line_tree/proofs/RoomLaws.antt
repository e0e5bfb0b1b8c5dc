-- How many records there are.
use Rattle.line_tree.proofs.Common.{◌≡◌, ℕ, suc, ◌+◌, List, [], ◌∷◌, length, take, drop, Bool, cond, true, false, inl}
use Rattle.line_tree.proofs.Common.{inr, ◌-◌, ◌<◌, ◌≤◌, ◌++◌, refl, sym, ap, ◌∙◌, subst, arith, IsSome, is_some}
use Rattle.line_tree.proofs.Common.{option_to_list, Option, None, Some, empty_of_len, get-empty, len-empty, len-insert}
use Rattle.line_tree.proofs.Common.{len-remove, same_map, cases_lt, LineContent, NodePtr, Record, Records, blank}
use Rattle.line_tree.proofs.Common.{update, with_child, with_parent, with_sum, kids, row, name_cmp, get_unmoved}
use Rattle.line_tree.proofs.Common.{name_antisym, name_total, len-update, remove-named, Among, Distinct, Evens, Puts}
use Rattle.line_tree.proofs.Common.{link_one, refilled, relinked, resummed, sums, NewLine, NewRoot, Settles}
use mathlib.Core.Bool.{false≢true}
use Rattle.std.specs.FinMap as finite

len-new : (m : Records) (p : NodePtr) (r : Record) → finite.get m p ≡ None →
    finite.len (finite.insert m p r) ≡ finite.len m + 1
len-new m p r e = len-insert name_total m p r ∙ ap (λ o. cond (is_some o) (finite.len m) (finite.len m + 1)) e

len-link_one : (m : Records) (p : NodePtr) (i : ℕ) (o : Option NodePtr) → finite.len (link_one m p i o) ≡ finite.len m
len-link_one m p i None = len-update m p (λ r. with_child r i None)
len-link_one m p i (Some c) = len-update (update m p (λ r. with_child r i (Some c))) c (λ r. with_parent r (Some p) i)
    ∙ len-update m p (λ r. with_child r i (Some c))

len-relinked : (m : Records) (p : NodePtr) (i : ℕ) (os : List (Option NodePtr)) →
    finite.len (relinked m p i os) ≡ finite.len m
len-relinked m p i [] = refl
len-relinked m p i (o ∷ os) = len-relinked (link_one m p i o) p (suc i) os ∙ len-link_one m p i o

pub len-resummed : (m : Records) (p : NodePtr) (os : List (Option NodePtr)) →
    finite.len (resummed m p os) ≡ finite.len m
len-resummed m p os = len-update m p (λ r. with_sum r (sums m os))

pub len-refilled : (m : Records) (p : NodePtr) (os : List (Option NodePtr)) →
    finite.len (refilled m p os) ≡ finite.len m
len-refilled m p os = len-resummed (relinked m p 0 os) p os ∙ len-relinked m p 0 os

pub len-puts : (m n : Records) (p : NodePtr) (all : List NodePtr) (o : Option NodePtr) → Puts m n p all o →
    finite.len n ≡ finite.len m + length (option_to_list o)
len-puts m n p all None puts = let a = ap finite.len puts.same in let b = len-refilled m p (row all) in omega arith
len-puts m n p all (Some s) puts =
    let made = finite.insert m s (blank None) in let left = refilled made p (row (take puts.half all)) in
    let a = ap finite.len puts.same in let b = len-refilled left s (row (drop puts.half all)) in
    let c = len-refilled made p (row (take puts.half all)) in let d = len-new m s (blank None) puts.fresh in
    omega arith

pub len-line : (m n : Records) (x : NodePtr) (l : LineContent) → NewLine m n x l → finite.len n ≡ finite.len m + 1
len-line m n x l new = ap finite.len new.same ∙ len-new m x (blank (Some l)) new.fresh

pub len-root : (m n : Records) (r : NodePtr) (cs : List NodePtr) → NewRoot m n r cs → finite.len n ≡ finite.len m + 1
len-root m n r cs new = ap finite.len new.same ∙ len-refilled (finite.insert m r (blank None)) r (row cs)
    ∙ len-new m r (blank None) new.fresh

-- ---- no more records than names
none-of : (o : Option Record) → (IsSome o → ⊥) → o ≡ None
none-of None out = refl
none-of (Some r) out = absurd (out refl)

one-less : (b : Bool) (n k : ℕ) → k ≡ cond b (n - 1) n → n ≤ k + 1
one-less true n k e = omega arith
one-less false n k e = omega arith

pub len-within : (xs : List NodePtr) (m : Records) → ((q : NodePtr) → IsSome (finite.get m q) → Among q xs) →
    finite.len m ≤ length xs
len-within [] m within =
    let same = same_map name_total name_antisym m finite.empty (λ q. none-of (finite.get m q) (within q)
    ∙ sym (get-empty name_cmp q)) in
    let e = ap finite.len same ∙ len-empty name_cmp Record in omega arith
len-within (x ∷ xs) m within =
    let rest = len-within xs (finite.remove m x) (λ q s. let r = remove-named m x q s in
    elim (within q r.1) [ inl e ↦ absurd (r.0 e) | inr a ↦ a ]) in
    let more = one-less (is_some (finite.get m x)) (finite.len m) (finite.len (finite.remove m x))
    (len-remove name_total m x) in omega arith

gone-one : (b : Bool) (n k : ℕ) → b ≡ true → 0 < n → k ≡ cond b (n - 1) n → k + 1 ≡ n
gone-one true n k is some e = omega arith
gone-one false n k is some e = absurd (false≢true is)

some-records : (m : Records) (p : NodePtr) → IsSome (finite.get m p) → 0 < finite.len m
some-records m p s = elim (cases_lt 0 (finite.len m)) [
  | inl less ↦ less
  | inr none ↦ let e : finite.len m ≡ 0 = omega arith in
      absurd (false≢true (subst (λ o. IsSome o) (ap (λ z. finite.get z p) (empty_of_len m e) ∙ get-empty name_cmp p) s))
]

pub len-gone : (m : Records) (p : NodePtr) → IsSome (finite.get m p) → finite.len (finite.remove m p) + 1 ≡ finite.len m
len-gone m p s = gone-one (is_some (finite.get m p)) (finite.len m) (finite.len (finite.remove m p)) s
    (some-records m p s) (len-remove name_total m p)

-- no fewer than names, if none stands twice
pub len-many : (xs : List NodePtr) (m : Records) → Distinct xs →
    ((q : NodePtr) → Among q xs → IsSome (finite.get m q)) → length xs ≤ finite.len m
len-many [] m d named = omega arith
len-many (x ∷ xs) m d named =
    let gone = len-gone m x (named x (inl refl)) in
    let rest = len-many xs (finite.remove m x) d.1 (λ q a.
    subst (λ o. IsSome o) (sym (get_unmoved m x q (λ e. d.0 (subst (λ z. Among z xs) e a)))) (named q (inr a))) in
    omega arith

len-evens : (m n : Records) (a b : NodePtr) (merged : Bool) → Evens m n a b merged → finite.len n ≡ finite.len m
len-evens m n a b true e = ap finite.len e.same ∙ len-refilled m a (row (kids m a ++ kids m b))
len-evens m n a b false e = let all = kids m a ++ kids m b in let left = refilled m a (row (take e.half all)) in
    ap finite.len e.same ∙ len-refilled left b (row (drop e.half all)) ∙ len-refilled m a (row (take e.half all))

pub len-settles : (m n : Records) (p : NodePtr) (slot : ℕ) (c : NodePtr) (o : Option ℕ) → Settles m n p slot c o →
    finite.len n ≡ finite.len m
len-settles m n p slot c o settles = elim settles.ways
    [ inl kept ↦ ap finite.len kept.0 | inr mends ↦ len-evens m n mends.left mends.right (is_some o) mends.evens ]
