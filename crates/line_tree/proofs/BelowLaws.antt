-- The sums of a node's children, added in their order.
--     Below      a sum that has those of the children before a slot
--     adds-fits  the sum of the child there can be added
--     adds       with it, the sum has that of one child more
--     adds-none  there is no child there
--     all-added  the sum has those of all
use Rattle.line_tree.proofs.Common.{◌≡◌, ◌+◌, ◌≤◌, ◌<◌, ℕ, drop, length, sym, ap, ◌∙◌, subst, IfSome, Some, None, arith}
use Rattle.line_tree.proofs.Common.{slice_get, drop_all, no_text-plus, plus-associative, plus-no_text, Count, CountsFit}
use Rattle.line_tree.proofs.Common.{no_text, plus, FitsSum, sum_or_none, sums, NodePtr, Records, kids, row, sum_at}
use Rattle.line_tree.proofs.Common.{length-row, HasRow}
use Rattle.line_tree.proofs.RowLaws.{added_is, asks, sums-step}
use Rattle.line_tree.proofs.SumLaws.{fits-both, fits-left}
use Rattle.std.specs.FinMap as finite

abbrev pub Below : Records → NodePtr → ℕ → Count → Type 0
Below m p i sum = plus sum (sums m (drop i (row (kids m p)))) ≡ sums m (row (kids m p))

pub none-below : (m : Records) (p : NodePtr) (sum : Count) → sum ≡ no_text → Below m p 0 sum
none-below m p sum is = ap (λ s. plus s (sums m (row (kids m p)))) is ∙ no_text-plus (sums m (row (kids m p)))

module _ (m : Records) (p : NodePtr) (has : HasRow m p) (i : ℕ) (less : i < 12) (sum : Count)
    (below : Below m p i sum) where
  abbrev rest : Count
  rest = sums m (drop (i + 1) (row (kids m p)))

  module _ (d : NodePtr) (is : slice_get (kids m p) i ≡ Some d) where
    step : plus (plus sum (sum_at m d)) rest ≡ sums m (row (kids m p))
    step = plus-associative sum (sum_at m d) rest
        ∙ ap (plus sum) (sym (sums-step m (kids m p) i has.few less ∙ ap (λ o. plus (sum_or_none m o) rest) is)) ∙ below

    pub adds-fits : FitsSum (sums m (row (kids m p))) → IfSome (finite.get m d) (λ r. CountsFit sum r.sum)
    adds-fits fits = asks (CountsFit sum) m d (has.each i d is) (fits-both sum (sum_at m d)
        (fits-left (plus sum (sum_at m d)) rest (subst FitsSum (sym step) fits)))

    pub adds : (next : Count) → IfSome (finite.get m d) (λ r. next ≡ plus sum r.sum) → Below m p (i + 1) next
    adds next added = ap (λ s. plus s rest) (added_is m d sum next (has.each i d is) added) ∙ step

  pub adds-none : slice_get (kids m p) i ≡ None → Below m p (i + 1) sum
  adds-none none = ap (plus sum) (sym (sums-step m (kids m p) i has.few less
      ∙ ap (λ o. plus (sum_or_none m o) rest) none ∙ no_text-plus rest)) ∙ below

pub all-added : (m : Records) (p : NodePtr) → HasRow m p → (i : ℕ) → 12 ≤ i → (sum : Count) → Below m p i sum →
    sum ≡ sums m (row (kids m p))
all-added m p has i long sum below =
    let l = length-row (kids m p) has.few in
    let past : length (row (kids m p)) ≤ i = omega (arith, l, long) in
    sym (plus-no_text sum) ∙ ap (plus sum) (sym (ap (sums m) (drop_all i (row (kids m p)) past))) ∙ below
