-- A mark that is taken off a line, and its node's sum.
use Rattle.line_tree.proofs.Common.{◌≡◌, ℕ, zero, suc, ◌+◌, ◌-◌, ◌<◌, ◌≤◌, Bool, cond, length, refl, sym, ap, ◌∙◌}
use Rattle.line_tree.proofs.Common.{subst, arith, IfSome, is_some, option_to_list, Option, None, Some, nat_cmp_total}
use Rattle.line_tree.proofs.Common.{nat_cmp, none-some, Marks, Place, differing-empty, plus-no_text, union-empty, Count}
use Rattle.line_tree.proofs.Common.{HasCounts, counting, less, no_text, plus, LineContent, line_count, NodePtr, Records}
use Rattle.line_tree.proofs.Common.{update, with_sum, lines_in, sum_at, sum_of, total, without_mark, Finds, HasRow}
use Rattle.line_tree.proofs.Common.{CanChange, Changes, TakesOff, marked, Found}
use mir.Val.{bool_byte}
use Rattle.line_tree.proofs.ChangingLaws.{can-child, changes-line, changes-node, node-row, node-sum, sum-changed}
use Rattle.line_tree.proofs.ClimbingLaws.{Above, Climbs, down, next}
use Rattle.line_tree.proofs.KeptLaws.{update-as}
use Rattle.line_tree.proofs.UpdateLaws.{InnerIn, inner-row}
use Rattle.std.specs.FinMap as finite

-- ---- sums
add-less : (a b : ℕ) → a + b - b ≡ a
add-less a b = omega arith

less-marks : (a : Count) (gone : ℕ) → less 0 0 gone (plus a (counting 0 0 gone)) ≡ a
less-marks a gone = λ i. record {
  lines = add-less a.lines 0 i;
  characters = add-less a.characters 0 i;
  marks = add-less a.marks gone i;
  parity = differing-empty a.parity i;
  presence = union-empty a.presence i;
}

less-is : (a b : Count) (gone : ℕ) → plus a (counting 0 0 gone) ≡ plus b no_text → less 0 0 gone b ≡ a
less-is a b gone is = ap (less 0 0 gone) (sym (is ∙ plus-no_text b)) ∙ less-marks a gone

marks-within : (a b : Count) (gone : ℕ) → plus a (counting 0 0 gone) ≡ plus b no_text → gone ≤ b.marks
marks-within a b gone is = let e = ap (λ s. s.marks) (is ∙ plus-no_text b) in omega arith

-- ---- how many go
pub how-many : (o : Option Place) (some : Bool) (count : ℕ) → some ≡ is_some o → count ≡ bool_byte some →
    count ≡ length (option_to_list o)
how-many o some count is few = few ∙ ap bool_byte is ∙ one o where
  one : (o : Option Place) → bool_byte (is_some o) ≡ length (option_to_list o)
  one None = refl
  one (Some x) = refl

some-marks : (ms : Marks) (number : ℕ) (place : Place) → finite.get ms number ≡ Some place → 0 < finite.len ms
some-marks ms number place is = elim (finite.len ms) as (λ k. finite.len ms ≡ k → 0 < k) [
  | zero ↦ λ e. absurd (none-some place (sym (ap (λ (x : Marks). finite.get x number) (finite.empty_of_len ms e)
      ∙ finite.get-empty nat_cmp number) ∙ is))
  | suc k ↦ λ e. omega arith
] refl

marks-less : (ms : Marks) (number : ℕ) → finite.len (finite.remove ms number)
    + length (option_to_list (finite.get ms number)) ≡ finite.len ms
marks-less ms number = one (finite.get ms number) refl where
  one : (o : Option Place) → finite.get ms number ≡ o → finite.len (finite.remove ms number) + length (option_to_list o)
      ≡ finite.len ms
  one None is = let n : finite.len (finite.remove ms number) ≡ finite.len ms = finite.len-remove nat_cmp_total ms number
      ∙ ap (λ (o : Option Place). cond (is_some o) (finite.len ms - 1) (finite.len ms)) is in omega (arith, n)
  one (Some place) is =
      let n : finite.len (finite.remove ms number) ≡ finite.len ms - 1 = finite.len-remove nat_cmp_total ms number
      ∙ ap (λ (o : Option Place). cond (is_some o) (finite.len ms - 1) (finite.len ms)) is in
      omega (arith, n, some-marks ms number place is)

line-less : (line : LineContent) (number : ℕ) →
    plus (line_count (without_mark number line)) (counting 0 0 (marked number line)) ≡ line_count line
line-less line number = λ i. record {
  lines = 1;
  characters = add-none (length line.columns) i;
  marks = marks-less line.marks number i;
  parity = differing-empty (line_count line).parity i;
  presence = union-empty (line_count line).presence i;
} where
  add-none : (a : ℕ) → a + 0 ≡ a
  add-none a = omega arith

-- ---- at a line
pub takes-line : (m n : Records) (p : NodePtr) (k number gone : ℕ) → CanChange m 0 p k → TakesOff m n p number gone →
    Changes m n 0 p k (without_mark number) (counting 0 0 gone) no_text
takes-line m n p k number gone can off = changes-line m n p k (without_mark number) (counting 0 0 gone) no_text can
    (record {
      line = off.line;
      was = off.was;
      same = off.same;
      sum = ap (λ c. plus (line_count (without_mark number off.line)) (counting 0 0 c)) off.few
          ∙ line-less off.line number ∙ sym (plus-no_text (line_count off.line));
    })

-- ---- above it
module _ (m : Records) (h : ℕ) (p : NodePtr) (k : ℕ) (can : CanChange m (suc h) p k) (f : Found) (finds : Finds m p k f)
    (l : Records) (number gone : ℕ)
    (taken : Changes m l h f.child f.rest (without_mark number) (counting 0 0 gone) no_text) where
  taken-row : HasRow l p
  taken-row = node-row m h p k can f finds l (without_mark number) (counting 0 0 gone) no_text taken

  sum-was : sum_at l p ≡ total (lines_in m (suc h) p)
  sum-was = node-sum m h p k can f finds l (without_mark number) (counting 0 0 gone) no_text taken

  marks-enough : IfSome (finite.get l p) (λ r. HasCounts (counting 0 0 gone) r.sum)
  marks-enough =
      let enough = marks-within _ (total (lines_in m (suc h) p)) gone
      (sum-changed m h p k can f finds l (without_mark number) (counting 0 0 gone) no_text taken) in
      let here : gone ≤ taken-row.found.sum.marks = subst (λ (s : Count). gone ≤ s.marks)
      (sym sum-was ∙ ap sum_of taken-row.is) enough in
      subst (λ o. IfSome o (λ r. HasCounts (counting 0 0 gone) r.sum)) (sym taken-row.is)
      (record { lines = omega arith; characters = omega arith; marks = here })

  takes-node : (n : Records) → n ≡ update l p (λ r. with_sum r (less 0 0 gone r.sum)) →
      Changes m n (suc h) p k (without_mark number) (counting 0 0 gone) no_text
  takes-node n is = let rest = less 0 0 gone (sum_at l p) in
      changes-node m h p k can f finds l (without_mark number) (counting 0 0 gone) no_text taken n rest
      (ap (less 0 0 gone) sum-was ∙ less-is _ (total (lines_in m (suc h) p)) gone
      (sum-changed m h p k can f finds l (without_mark number) (counting 0 0 gone) no_text taken))
      (is ∙ update-as l p (λ r. with_sum r (less 0 0 gone r.sum)) (λ r. with_sum r rest) taken-row.found taken-row.is
      (ap (λ s. with_sum taken-row.found (less 0 0 gone s)) (sym (ap sum_of taken-row.is))))

-- ---- one level up
module _ (m l : Records) (h : ℕ) (r : NodePtr) (k : ℕ) (number gone : ℕ) (j : ℕ) (p q : NodePtr) (lower : j < h)
    (above : Above m l h r k (without_mark number) (counting 0 0 gone) no_text j p q) (whole : CanChange m h r k) where
  can-here : CanChange m (suc j) q (k - above.before)
  can-here = let within : suc j ≤ h = omega (arith, lower) in
      down m (λ n o i. CanChange m n o i) (can-child m) h (suc j) r q above.before k within above.sits above.low
      above.high whole

  pub inner-here : InnerIn l q
  inner-here = inner-row l q (taken-row m j q (k - above.before) can-here above.found above.finds l number gone
      above.changes)

  pub marks-here : IfSome (finite.get l q) (λ x. HasCounts (counting 0 0 gone) x.sum)
  marks-here = marks-enough m j q (k - above.before) can-here above.found above.finds l number gone above.changes

  pub takes-here : (n : Records) → n ≡ update l q (λ x. with_sum x (less 0 0 gone x.sum)) →
      Climbs m n h r k (without_mark number) (counting 0 0 gone) no_text (j + 1) q
  takes-here n is = next m l n h r k (without_mark number) (counting 0 0 gone) no_text j p q above
      (takes-node m j q (k - above.before) can-here above.found above.finds l number gone above.changes n is)
