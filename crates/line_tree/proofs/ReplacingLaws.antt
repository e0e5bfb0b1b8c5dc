-- A line in another one's place.
--     puts-line                the line itself
--     child-fits               what is counted of a child
--     change-sum, change-fits  what a node's sum is made anew by
--     within-both              of slots that are toggled in a part of a part
--     within-line, went-above  the slots of the line that goes are toggled in what it is part of
--     went-node                and so in the node above it
--     within-node              the slots of the line are toggled in the node above it
--     replaces-node            the node above it
--     row-here .. went-next    all of it one level up from where the change is counted
use Rattle.line_tree.proofs.Common.{◌≡◌, ℕ, zero, suc, ◌+◌, ◌-◌, ◌<◌, ◌≤◌, List, [], ◌∷◌, length, map, option_to_list}
use Rattle.line_tree.proofs.Common.{sym, ap, ◌∙◌, subst, arith, plus-commutative, union-associative, union-commutative}
use Rattle.line_tree.proofs.Common.{union-self, Count, IsWithin, no_text, plus, FitsSum, resummed, sums, LineContent}
use Rattle.line_tree.proofs.Common.{line_count, Named, total, NodePtr, Records, kids, row, lines_in, sum_at, Finds}
use Rattle.line_tree.proofs.Common.{HasRow, CanChange, Changes, changed, Found, PutsOver}
use Rattle.line_tree.proofs.ChangingLaws.{can-child, changes-line, changes-node, lines-changed, node-row, node-sum}
use Rattle.line_tree.proofs.ChangingLaws.{row-sum, sum-changed, was-parts}
use Rattle.line_tree.proofs.ClimbingLaws.{Above, Climbs, down, next}
use Rattle.line_tree.proofs.SumLaws.{fits-part}
use Rattle.std.specs.FinSet as set

pub puts-line : (m n : Records) (p : NodePtr) (k : ℕ) (new : LineContent) (gone more : Count) → CanChange m 0 p k →
    PutsOver m n p new gone more → Changes m n 0 p k (λ _. new) gone more
puts-line m n p k new gone more can puts = changes-line m n p k (λ _. new) gone more can (record {
  line = puts.line;
  was = puts.was;
  same = puts.same;
  sum = ap (plus (line_count new)) puts.went ∙ plus-commutative (line_count new) (line_count puts.line)
      ∙ ap (plus (line_count puts.line)) (sym puts.came);
})

-- ---- slots
pub within-both : (a b c : Count) → IsWithin a b → IsWithin b c → IsWithin a c
within-both a b c first second =
    ap (λ s. set.union s a.presence) (sym second) ∙ union-associative c.presence b.presence a.presence
    ∙ ap (set.union c.presence) first ∙ second

pub within-first : (a b : Count) → IsWithin a (plus a b)
within-first a b =
    union-commutative (set.union a.presence b.presence) a.presence
    ∙ sym (union-associative a.presence a.presence b.presence)
    ∙ ap (λ s. set.union s b.presence) (union-self a.presence)

within-rest : (a b c : Count) → IsWithin a c → IsWithin a (plus b c)
within-rest a b c within =
    union-associative b.presence c.presence a.presence ∙ ap (set.union b.presence) within

within-changed : (ls : List Named) (k : ℕ) (new : LineContent) → k < length ls →
    IsWithin (line_count new) (total (changed k (λ _. new) ls))
within-changed [] k new h = absurd (omega arith)
within-changed (l ∷ ls) zero new h = within-first (line_count new) (total ls)
within-changed (l ∷ ls) (suc k) new h = within-rest (line_count new) (line_count l.1) (total (changed k (λ _. new) ls))
    (within-changed ls k new (omega arith))

-- what is counted of a line is counted of the text that it is
pub within-line : (m : Records) (p : NodePtr) (n : Records) (new : LineContent) (gone more : Count) →
    PutsOver m n p new gone more → IsWithin gone (total (lines_in m 0 p))
within-line m p n new gone more puts =
    subst (λ o. IsWithin gone (total (map (λ l. (p, l)) (option_to_list o)))) (sym puts.was)
    (subst (λ g. IsWithin g (plus (line_count puts.line) no_text)) (sym puts.went)
    (within-first (line_count puts.line) no_text))

within-part : (a b c d : Count) → IsWithin a c → IsWithin a (plus b (plus c d))
within-part a b c d within = within-rest a b (plus c d) (within-both a c (plus c d) within (within-first c d))

-- counts that are called otherwise
pub counted-so : (m n : Records) (p : NodePtr) (new : LineContent) (gone more went came : Count) → went ≡ gone →
    came ≡ more → PutsOver m n p new gone more → PutsOver m n p new went came
counted-so m n p new gone more went came is is_too puts = record {
  line = puts.line;
  was = puts.was;
  same = puts.same;
  went = is ∙ puts.went;
  came = is_too ∙ puts.came;
}

-- ---- above it
-- line k below p can be another, and is counted then
abbrev pub CanReplace : Records → LineContent → ℕ → NodePtr → ℕ → Type 0
CanReplace m new h p k = CanChange m h p k × FitsSum (plus (total (lines_in m h p)) (line_count new))

module _ (m : Records) (h : ℕ) (p : NodePtr) (k : ℕ) (can : CanChange m (suc h) p k) (f : Found) (finds : Finds m p k f)
    (new : LineContent) (fits : FitsSum (plus (total (lines_in m (suc h) p)) (line_count new))) where
  child-fits : FitsSum (plus (total (lines_in m h f.child)) (line_count new))
  child-fits = let parts = was-parts m h p k can f finds in
      fits-part parts.0 (total (lines_in m h f.child)) parts.1 (line_count new)
      (subst (λ s. FitsSum (plus s (line_count new))) parts.2 fits)

  went-above : (gone : Count) → IsWithin gone (total (lines_in m h f.child)) →
      IsWithin gone (total (lines_in m (suc h) p))
  went-above gone went = let parts = was-parts m h p k can f finds in
      subst (IsWithin gone) (sym parts.2) (within-part gone parts.0 (total (lines_in m h f.child)) parts.1 went)

  module _ (l : Records) (gone more : Count) (done : Changes m l h f.child f.rest (λ _. new) gone more)
      (came : more ≡ line_count new) where
    change-sum : plus (sums l (row (kids l p))) gone ≡ plus (sum_at l p) more
    change-sum =
        ap (λ s. plus s gone) (row-sum m h p k can f finds l (λ _. new) gone more done)
        ∙ sum-changed m h p k can f finds l (λ _. new) gone more done
        ∙ sym (ap (λ s. plus s more) (node-sum m h p k can f finds l (λ _. new) gone more done))

    change-fits : FitsSum (plus (sum_at l p) more)
    change-fits = subst FitsSum
        (sym (λ i. plus (node-sum m h p k can f finds l (λ _. new) gone more done i) (came i))) fits

    went-node : IsWithin gone (total (lines_in m h f.child)) → IsWithin gone (sum_at l p)
    went-node went = subst (IsWithin gone)
        (sym (node-sum m h p k can f finds l (λ _. new) gone more done)) (went-above gone went)

    within-node : IsWithin more (sums l (row (kids l p)))
    within-node = subst (λ s. IsWithin s (sums l (row (kids l p)))) (sym came)
        (subst (IsWithin (line_count new))
        (sym (row-sum m h p k can f finds l (λ _. new) gone more done
        ∙ ap total (lines-changed m h p k can f finds l (λ _. new) gone more done)))
        (within-changed (lines_in m (suc h) p) k new can.place))

    replaces-node : (n : Records) → n ≡ resummed l p (row (kids l p)) →
        Changes m n (suc h) p k (λ _. new) gone more
    replaces-node n is = changes-node m h p k can f finds l (λ _. new) gone more done n (sums l (row (kids l p)))
        (row-sum m h p k can f finds l (λ _. new) gone more done) is

child-replace : (m : Records) (new : LineContent) (h : ℕ) (p : NodePtr) (k : ℕ) → CanReplace m new (suc h) p k →
    (f : Found) → Finds m p k f → CanReplace m new h f.child f.rest
child-replace m new h p k can f finds = (can-child m h p k can.0 f finds, child-fits m h p k can.0 f finds new can.1)

-- ---- one level up
module _ (m l : Records) (h : ℕ) (r : NodePtr) (k : ℕ) (new : LineContent) (gone more : Count) (j : ℕ) (p q : NodePtr)
    (less : j < h) (above : Above m l h r k (λ _. new) gone more j p q) (whole : CanReplace m new h r k)
    (came : more ≡ line_count new) where
  can-here : CanReplace m new (suc j) q (k - above.before)
  can-here = let within : suc j ≤ h = omega (arith, less) in
      down m (CanReplace m new) (child-replace m new) h (suc j) r q above.before k within above.sits above.low above.high
      whole

  pub row-here : HasRow l q
  row-here = node-row m j q (k - above.before) can-here.0 above.found above.finds l (λ _. new) gone more above.changes

  pub sum-here : plus (sums l (row (kids l q))) gone ≡ plus (sum_at l q) more
  sum-here = change-sum m j q (k - above.before) can-here.0 above.found above.finds new can-here.1 l gone more
      above.changes came

  pub fits-here : FitsSum (plus (sum_at l q) more)
  fits-here = change-fits m j q (k - above.before) can-here.0 above.found above.finds new can-here.1 l gone more
      above.changes came

  pub came-here : IsWithin more (sums l (row (kids l q)))
  came-here = within-node m j q (k - above.before) can-here.0 above.found above.finds new can-here.1 l gone more
      above.changes came

  pub replaces-here : (n : Records) → n ≡ resummed l q (row (kids l q)) →
      Climbs m n h r k (λ _. new) gone more (j + 1) q
  replaces-here n is = next m l n h r k (λ _. new) gone more j p q above
      (replaces-node m j q (k - above.before) can-here.0 above.found above.finds new can-here.1 l gone more
      above.changes came n is)

  module _ (went : IsWithin gone (total (lines_in m j p))) where
    went-child : IsWithin gone (total (lines_in m j above.found.child))
    went-child = subst (λ c. IsWithin gone (total (lines_in m j c))) (sym above.same) went

    pub went-here : IsWithin gone (sum_at l q)
    went-here = went-node m j q (k - above.before) can-here.0 above.found above.finds new can-here.1 l gone more
        above.changes came went-child

    pub went-next : IsWithin gone (total (lines_in m (j + 1) q))
    went-next = let e : suc j ≡ j + 1 = omega arith in
        subst (λ i. IsWithin gone (total (lines_in m i q))) e
        (went-above m j q (k - above.before) can-here.0 above.found above.finds new can-here.1 gone went-child)
