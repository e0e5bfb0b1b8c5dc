-- The children of a record as a list.
use Rattle.line_tree.proofs.Common.{subst, ◌≡◌, ℕ, zero, suc, ◌+◌, ◌<◌, ◌≤◌, List, [], ◌∷◌, length, get_or, take, drop}
use Rattle.line_tree.proofs.Common.{refl, sym, ap, ◌∙◌, arith, IfSome, IsSome, slice_get, Option, None, Some, sum_by}
use Rattle.line_tree.proofs.Common.{take_more, take_all, at_drop_more, sum_by_push, none-some, slice_get_within}
use Rattle.line_tree.proofs.Common.{get_or_from_slice_get, Count, plus, NodePtr, Records, kids, row, lines_at, sum_at}
use Rattle.line_tree.proofs.Common.{sum_of, sum_or_none, sums, at_some, some_of, get_or-row, length-row, HasRow}
use Rattle.std.specs.FinMap as finite

-- ---- what a call answers of a row
pub child_is : (m : Records) (p : NodePtr) → HasRow m p → (o : Option NodePtr) (i : ℕ) →
    IfSome (finite.get m p) (λ r. o ≡ get_or r.children i None) → o ≡ slice_get (kids m p) i
child_is m p has o i says =
    at_some (finite.get m p) (λ r. o ≡ get_or r.children i None) has.found says has.is
    ∙ ap (λ xs. get_or xs i None) has.children ∙ get_or-row (kids m p) i

-- what a call answers of a node's sum
pub said : {T : Type 0} (of : Count → T) (m : Records) (q : NodePtr) (x : T) → IsSome (finite.get m q) →
    IfSome (finite.get m q) (λ r. x ≡ of r.sum) → x ≡ of (sum_at m q)
said of m q x named says = let r = some_of (finite.get m q) named in
    at_some (finite.get m q) (λ y. x ≡ of y.sum) r.0 says r.1 ∙ ap (λ o. of (sum_of o)) (sym r.1)

pub sum_is : (m : Records) (q : NodePtr) (s : Count) → IsSome (finite.get m q) →
    IfSome (finite.get m q) (λ r. s ≡ r.sum) → s ≡ sum_at m q
sum_is = said (λ s. s)

pub lines_is : (m : Records) (q : NodePtr) (n : ℕ) → IsSome (finite.get m q) →
    IfSome (finite.get m q) (λ r. n ≡ r.sum.lines) → n ≡ lines_at m q
lines_is = said (λ s. s.lines)

pub marks_is : (m : Records) (q : NodePtr) (n : ℕ) → IsSome (finite.get m q) →
    IfSome (finite.get m q) (λ r. n ≡ r.sum.marks) → n ≡ (sum_at m q).marks
marks_is = said (λ s. s.marks)

pub size_is : (m : Records) (q : NodePtr) (size : ℕ × ℕ) → IsSome (finite.get m q) →
    IfSome (finite.get m q) (λ r. size ≡ (r.sum.lines, r.sum.characters)) →
    size ≡ (lines_at m q, (sum_at m q).characters)
size_is = said (λ s. (s.lines, s.characters))

-- a sum to which that of a node was added
pub added_is : (m : Records) (q : NodePtr) (old new : Count) → IsSome (finite.get m q) →
    IfSome (finite.get m q) (λ r. new ≡ plus old r.sum) → new ≡ plus old (sum_at m q)
added_is m q old = said (plus old) m q

-- what is asked of a record's sum is asked of the node's, and what is so of the record's is so of the node's
pub asks : (ask : Count → Type 0) (m : Records) (q : NodePtr) → IsSome (finite.get m q) → ask (sum_at m q) →
    IfSome (finite.get m q) (λ r. ask r.sum)
asks ask m q named holds = let r = some_of (finite.get m q) named in
    subst (λ o. IfSome o (λ r. ask r.sum)) (sym r.1) (subst (λ o. ask (sum_of o)) r.1 holds)

pub tells : (so : Count → Type 0) (m : Records) (q : NodePtr) → IsSome (finite.get m q) →
    IfSome (finite.get m q) (λ r. so r.sum) → so (sum_at m q)
tells so m q named says = let r = some_of (finite.get m q) named in
    subst (λ o. so (sum_of o)) (sym r.1) (at_some (finite.get m q) (λ y. so y.sum) r.0 says r.1)

-- ---- a step over the children
pub step_yes : (f : NodePtr → ℕ) (cs : List NodePtr) (i : ℕ) (c : NodePtr) → slice_get cs i ≡ Some c →
    sum_by f (take (i + 1) cs) ≡ sum_by f (take i cs) + f c
step_yes f cs i c is =
    ap (sum_by f) (take_more cs i c (slice_get_within cs i c is)) ∙ sum_by_push f (take i cs) (get_or cs i c)
    ∙ ap (λ x. sum_by f (take i cs) + f x) (get_or_from_slice_get cs i c c is)

pub past : (cs : List NodePtr) (i : ℕ) → slice_get cs i ≡ None → length cs ≤ i
past [] i is = omega arith
past (c ∷ cs) zero is = absurd (none-some c (sym is))
past (c ∷ cs) (suc i) is = let r = past cs i is in omega arith

pub step_no : (f : NodePtr → ℕ) (cs : List NodePtr) (i : ℕ) → slice_get cs i ≡ None →
    sum_by f (take (i + 1) cs) ≡ sum_by f (take i cs)
step_no f cs i is = let p = past cs i is in let q : length cs ≤ i + 1 = omega arith in
    ap (sum_by f) (take_all (i + 1) cs q ∙ sym (take_all i cs p))

pub none_of : {X : Type 0} (o : Option X) → ((x : X) → o ≡ Some x → ⊥) → o ≡ None
none_of None not = refl
none_of (Some x) not = absurd (not x refl)

-- ---- sums of a row
pub sums-step : (m : Records) (cs : List NodePtr) (i : ℕ) → length cs ≤ 12 → i < 12 →
    sums m (drop i (row cs)) ≡ plus (sum_or_none m (slice_get cs i)) (sums m (drop (i + 1) (row cs)))
sums-step m cs i few less = let l = length-row cs few in let within : i < length (row cs) = omega arith in
    at_drop_more (sums m) (row cs) i None within
    ∙ ap (λ o. plus (sum_or_none m o) (sums m (drop (i + 1) (row cs)))) (get_or-row cs i)
