use Rattle.line_tree.proofs.Common.{◌≡◌, ◌+◌, ◌/◌, ◌≤◌, ◌++◌, ℕ, List, length, take, drop, sym, ap, subst, ◌∙◌, arith}
use Rattle.line_tree.proofs.Common.{length-append, IfSome, take-append-le, take_all, CanEven, FitsSum, Halves, refilled}
use Rattle.line_tree.proofs.Common.{sum_all, sums, Count, CountsFit, plus, NodePtr, Records, kids, row, records, sum_at}
use Rattle.line_tree.proofs.EvenLaws.{fill-whole, kept-part, whole-sum}
use Rattle.line_tree.proofs.FillLaws.{sums-row}
use Rattle.line_tree.proofs.PutLaws.{count-row}
use Rattle.line_tree.proofs.RowLaws.{added_is, asks, sum_is}
use Rattle.line_tree.proofs.SumLaws.{fits-both}
use Rattle.line_tree.proofs.TreeLaws.{named-row}
use Rattle.std.specs.FinMap as finite
use Rattle.line_tree.proofs.shrink.even.Goals as goal

whole : (all : List NodePtr) → length all ≤ 12 → row (take 12 (drop 0 all)) ≡ row all
whole all few = ap row (take_all 12 all few)

-- the sum of both
both_are : (m : Records) (a b : NodePtr) (s : Count) → CanEven m a b → IfSome (finite.get m a) (λ r. s ≡ r.sum) →
    plus s (sum_at m b) ≡ sum_all m (kids m a ++ kids m b)
both_are m a b s can left =
    ap (λ x. plus x (sum_at m b)) (sum_is m a s (named-row m a can.left) left) ∙ whole-sum m a b can

-- half of them
halved : (all first second : ℕ) → all ≡ first + second → first ≤ 12 → second ≤ 12 → 12 ≤ first + second →
    Halves all ((first + second) / 2)
halved all first second e left right many =
    record { low = omega arith; high = omega arith; rest_low = omega arith; rest_high = omega arith }

both_halve : (m : Records) (a b : NodePtr) (first second : ℕ) → CanEven m a b → first ≡ length (kids m a) →
    second ≡ length (kids m b) → 12 ≤ first + second → Halves (length (kids m a ++ kids m b)) ((first + second) / 2)
both_halve m a b first second can na nb many = let n = length-append (kids m a) (kids m b) in
    let left = can.left.few in let right = can.right.few in
    halved (length (kids m a ++ kids m b)) first second (omega arith) (omega arith) (omega arith) many

pub sum-sum-requires : goal.sum-sum-requires
sum-sum-requires g c = named-row (records c.args.store.now) c.args.left c.requires.left

pub add_sum_to-requires-clause-name : goal.add_sum_to-requires-clause-name
add_sum_to-requires-clause-name g c = named-row (records c.args.store.now) c.args.right c.requires.right

pub add_sum_to-requires-clause-fits : goal.add_sum_to-requires-clause-fits
add_sum_to-requires-clause-fits g c = let m = records c.args.store.now in let b = c.args.right in
    let s = c.sum-sum.result in
    let now = both_are m c.args.left b s c.requires c.sum-sum.ensures.value in
    asks (CountsFit s) m b (named-row m b c.requires.right)
    (fits-both s (sum_at m b) (subst FitsSum (sym now) c.requires.fits))

pub refill-requires : goal.refill-requires
refill-requires g c = let m = records c.args.store.now in let a = c.args.left in let b = c.args.right in
    let all = kids m a ++ kids m b in let n = length-append (kids m a) (kids m b) in
    let na = count-row m a c.children-first.result c.requires.left c.children-first.ensures in
    let nb = count-row m b c.children.result c.requires.right c.children.ensures in
    let few : length all ≤ 12 = omega (arith, c.if-count-lt12.true) in
    record {
      fill = (all, c.part_pair-all.ensures ∙ whole all few, fill-whole m a b c.requires few);
      from = omega (arith, c.requires.left.few);
      kept = kept-part m a b c.requires c.children-first.result all (omega arith)
          (take-append-le c.children-first.result (kids m a) (kids m b) (omega arith)) c.part_pair-all.result
          (c.part_pair-all.ensures ∙ whole all few);
      sum = added_is m b c.sum-sum.result _ (named-row m b c.requires.right) c.add_sum_to.ensures.value
          ∙ both_are m a b c.sum-sum.result c.requires c.sum-sum.ensures.value
          ∙ sym (ap (sums m) (c.part_pair-all.ensures ∙ whole all few) ∙ sums-row m all);
    }

pub share-requires-clause-half : goal.share-requires-clause-half
share-requires-clause-half g c = let m = records c.args.store.now in let a = c.args.left in let b = c.args.right in
    both_halve m a b c.children-first.result c.children.result c.requires
    (count-row m a c.children-first.result c.requires.left c.children-first.ensures)
    (count-row m b c.children.result c.requires.right c.children.ensures) (omega (arith, c.if-count-lt12.false))

pub returns-then-count-lt12-clause-evens : goal.returns-then-count-lt12-clause-evens
returns-then-count-lt12-clause-evens g c = let m = records c.args.store.now in let a = c.args.left in
    let b = c.args.right in let all = kids m a ++ kids m b in let n = length-append (kids m a) (kids m b) in
    let na = count-row m a c.children-first.result c.requires.left c.children-first.ensures in
    let nb = count-row m b c.children.result c.requires.right c.children.ensures in
    let few : length all ≤ 12 = omega (arith, c.if-count-lt12.true) in
    record { few = few; same = c.refill.ensures.records ∙ ap (refilled m a) (c.part_pair-all.ensures ∙ whole all few) }

pub returns-else-count-lt12-clause-evens : goal.returns-else-count-lt12-clause-evens
returns-else-count-lt12-clause-evens g c = let m = records c.args.store.now in let a = c.args.left in
    let b = c.args.right in record {
      half = (c.children-first.result + c.children.result) / 2;
      parts = both_halve m a b c.children-first.result c.children.result c.requires
          (count-row m a c.children-first.result c.requires.left c.children-first.ensures)
          (count-row m b c.children.result c.requires.right c.children.ensures) (omega (arith, c.if-count-lt12.false));
      same = c.share.ensures.records;
    }
