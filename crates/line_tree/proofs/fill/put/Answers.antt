use Rattle.line_tree.proofs.Common.{◌≡◌, ◌-◌, ◌≤◌, ℕ, List, Some, length, take, drop, ap, refl, sym, ◌∙◌, subst, arith}
use Rattle.line_tree.proofs.Common.{length-drop, None, not, IfSome, IsSome, slice_get, Option, insert, take_all}
use Rattle.line_tree.proofs.Common.{length-insert, Among, CanFill, CanPut, FitsSum, Stay, refilled, sum_all, sums}
use Rattle.line_tree.proofs.Common.{Count, plus, NodePtr, Records, blank, kids, row, records, sum_at, HasRow}
use Rattle.line_tree.proofs.AmongLaws.{among-drop, among-take, get-among}
use Rattle.line_tree.proofs.FillLaws.{row-some, sums-row}
use Rattle.line_tree.proofs.RowLaws.{sum_is}
use Rattle.line_tree.proofs.SumLaws.{fits-both}
use Rattle.line_tree.proofs.TreeLaws.{named-row}
use Rattle.line_tree.proofs.PutLaws.{fill-left, fill-right, first-fits, halves-sum, kept-left, last-fits, left-sums}
use Rattle.line_tree.proofs.PutLaws.{named-all, right-sums}
use Rattle.line_tree.proofs.ShiftLaws.{has-none, has-room, shifted-fills, shifted-fits, shifted-row, shifted-sum}
use Rattle.std.specs.FinMap as finite
use Rattle.line_tree.proofs.fill.put.Goals as goal

-- the last ones of thirteen
last : (all : List NodePtr) (half : ℕ) → half ≤ 7 → length all ≤ 13 →
    row (take (13 - half) (drop half all)) ≡ row (drop half all)
last all half small few = let n = length-drop half all in let h : length (drop half all) ≤ 13 - half = omega arith in
    ap row (take_all (13 - half) (drop half all) h)

-- the sum with what comes
summed : (m : Records) (p : NodePtr) (s more all : Count) → HasRow m p → IfSome (finite.get m p) (λ r. s ≡ r.sum) →
    plus (sum_at m p) more ≡ all → plus s more ≡ all
summed m p s more all has says is = ap (λ x. plus x more) (sum_is m p s (named-row m p has) says) ∙ is

pub shift-requires-clause-few : goal.shift-requires-clause-few
shift-requires-clause-few g c = has-room (records c.args.store.now) c.args.extra.node c.requires.put.row c.child.result
    c.child.ensures.value (c.is_none.ensures ∙ ap not c.if-is_none.true)

pub add-requires : goal.add-requires
add-requires g c = let m = records c.args.store.now in
    let few = has-room m c.args.extra.node c.requires.put.row c.child.result c.child.ensures.value
    (c.is_none.ensures ∙ ap not c.if-is_none.true) in
    record {
      row = shifted-row m c.args.extra.node c.args.extra.at c.args.extra.child c.requires.put few
          (records c.shift.new.store) c.shift.ensures.records;
      sum = shifted-sum m c.args.extra.node c.args.extra.at c.args.extra.child c.requires.put few
          (records c.shift.new.store) c.shift.ensures.records c.args.more.now c.requires.sum;
      fits = shifted-fits m c.args.extra.node c.args.extra.at c.args.extra.child c.requires.put few
          (records c.shift.new.store) c.shift.ensures.records;
    }

pub returns-then-is_none-clause-puts : goal.returns-then-is_none-clause-puts
returns-then-is_none-clause-puts g c = let m = records c.args.store.now in
    let few = has-room m c.args.extra.node c.requires.put.row c.child.result c.child.ensures.value (c.is_none.ensures
    ∙ ap not c.if-is_none.true) in
    shifted-fills m c.args.extra.node c.args.extra.at c.args.extra.child c.requires.put few (records c.shift.new.store)
    c.shift.ensures.records (records c.add.new.store) c.add.ensures.records

pub sum-sum-requires : goal.sum-sum-requires
sum-sum-requires g c = named-row (records c.args.store.now) c.args.extra.node c.requires.put.row

pub add-requires-else-is_none : goal.add-requires-else-is_none
add-requires-else-is_none g c = let m = records c.args.store.now in let p = c.args.extra.node in
    let all = insert (kids m p) c.args.extra.at c.args.extra.child in
    let now = summed m p c.sum-sum.result c.args.more.now (sum_all m all) c.requires.put.row c.sum-sum.ensures.value
    c.requires.sum in
    (omega arith, fits-both c.sum-sum.result c.args.more.now (subst FitsSum (sym now) c.requires.put.fits))

-- the parts of a node that splits
named-part : (m : Records) (p : NodePtr) (at : ℕ) (x : NodePtr) → CanPut m p at x → (cs : List NodePtr) →
    ((c : NodePtr) → Among c cs → Among c (insert (kids m p) at x)) → (os : List (Option NodePtr)) → os ≡ row cs
    → (i : ℕ) (d : NodePtr) → slice_get os i ≡ Some (Some d) → IsSome (finite.get m d)
named-part m p at x can cs inside os is i d there = named-all m p at x can d
    (inside d (get-among cs i d (row-some cs i d (ap (λ zs. slice_get zs i) (sym is) ∙ there))))

pub sum_of-last-requires : goal.sum_of-last-requires
sum_of-last-requires g c = let m = records c.args.store.now in let half = c.first_half-half.result in
    let p = c.args.extra.node in let all = insert (kids m p) c.args.extra.at c.args.extra.child in
    let more = length-insert (kids m p) c.args.extra.at c.args.extra.child c.requires.put.place in
    let few : length all ≤ 13 = omega (arith, c.requires.put.row.few) in
    let is = c.part-right.ensures ∙ last all half c.first_half-half.ensures.high few in
    record {
      nodes = named-part m p c.args.extra.at c.args.extra.child c.requires.put (drop half all)
          (λ d a. among-drop d half all a) c.part-right.result is;
      fits = subst (λ os. FitsSum (sums m os)) (sym is)
          (last-fits m p c.args.extra.at c.args.extra.child c.requires.put half);
    }

pub lessen_sum-requires : goal.lessen_sum-requires
lessen_sum-requires g c = let m = records c.args.store.now in let half = c.first_half-half.result in
    let p = c.args.extra.node in let all = insert (kids m p) c.args.extra.at c.args.extra.child in
    let more = length-insert (kids m p) c.args.extra.at c.args.extra.child c.requires.put.place in
    let few : length all ≤ 13 = omega (arith, c.requires.put.row.few) in
    let sum = c.add-else-is_none.ensures ∙ summed m p c.sum-sum.result c.args.more.now (sum_all m all)
    c.requires.put.row c.sum-sum.ensures.value c.requires.sum in
    let one = ap (sums m) c.part-left.ensures ∙ sums-row m (take half all) in
    let two = c.sum_of-last.ensures ∙ ap (sums m) (c.part-right.ensures
    ∙ last all half c.first_half-half.ensures.high few) ∙ sums-row m (drop half all) in
    record {
      nodes = named-part m p c.args.extra.at c.args.extra.child c.requires.put (take half all)
          (λ d a. among-take d half all a) c.part-left.result c.part-left.ensures;
      sum = (λ i. plus (one i) (two i)) ∙ halves-sum m p c.args.extra.at c.args.extra.child c.requires.put half
          ∙ sym sum;
      fits = subst (λ os. FitsSum (sums m os)) (sym c.part-left.ensures)
          (first-fits m p c.args.extra.at c.args.extra.child c.requires.put half);
    }

pub refill-requires : goal.refill-requires
refill-requires g c = let m = records c.args.store.now in let half = c.first_half-half.result in
    let p = c.args.extra.node in let all = insert (kids m p) c.args.extra.at c.args.extra.child in
    record {
      fill = (
        take half all,
        c.part-left.ensures,
        subst (λ n. CanFill n p (take half all)) (sym c.make-sibling.ensures.records)
            (fill-left m p c.args.extra.at c.args.extra.child c.requires.put c.make-sibling.result
            c.make-sibling.ensures.fresh half (omega (arith, c.first_half-half.ensures.high))),
      );
      from = omega (arith, c.min.ensures);
      kept = subst (Stay (records c.make-sibling.new.self) p c.min.result) (sym c.part-left.ensures)
          (subst (λ n. Stay n p c.min.result (row (take half all))) (sym c.make-sibling.ensures.records)
          (kept-left m p c.args.extra.at c.args.extra.child c.requires.put c.make-sibling.result
          c.make-sibling.ensures.fresh half c.min.result (omega (arith, c.min.ensures))
          (omega (arith, c.min.ensures))));
      sum = c.lessen_sum.ensures ∙ ap (sums m) c.part-left.ensures
          ∙ sym (ap (λ n. sums n c.part-left.result) c.make-sibling.ensures.records
          ∙ ap (sums (finite.insert m c.make-sibling.result (blank None))) c.part-left.ensures
          ∙ left-sums m p c.args.extra.at c.args.extra.child c.requires.put c.make-sibling.result
          c.make-sibling.ensures.fresh half);
    }

pub refill-requires-else-is_none : goal.refill-requires-else-is_none
refill-requires-else-is_none g c = let m = records c.args.store.now in let half = c.first_half-half.result in
    let p = c.args.extra.node in let all = insert (kids m p) c.args.extra.at c.args.extra.child in
    let s = c.make-sibling.result in
    let more = length-insert (kids m p) c.args.extra.at c.args.extra.child c.requires.put.place in
    let few : length all ≤ 13 = omega (arith, c.requires.put.row.few) in
    let now = c.refill.ensures.records
    ∙ ap (λ n. refilled n p c.part-left.result) c.make-sibling.ensures.records
    ∙ ap (refilled (finite.insert m s (blank None)) p) c.part-left.ensures in
    record {
      fill = (
        drop half all,
        c.part-right.ensures ∙ last all half c.first_half-half.ensures.high few,
        subst (λ n. CanFill n s (drop half all)) (sym now)
            (fill-right m p c.args.extra.at c.args.extra.child c.requires.put s c.make-sibling.ensures.fresh half
            (omega (arith, few, c.first_half-half.ensures.low))),
      );
      from = omega arith;
      kept = refl;
      sum =
          c.sum_of-last.ensures ∙ ap (sums m) (c.part-right.ensures ∙ last all half c.first_half-half.ensures.high few)
          ∙ sym (ap (λ n. sums n c.part-right.result) now
          ∙ ap (sums (refilled (finite.insert m s (blank None)) p (row (take half all)))) (c.part-right.ensures
          ∙ last all half c.first_half-half.ensures.high few)
          ∙ right-sums m p c.args.extra.at c.args.extra.child c.requires.put s c.make-sibling.ensures.fresh half);
    }

pub returns-else-is_none-clause-puts : goal.returns-else-is_none-clause-puts
returns-else-is_none-clause-puts g c = let m = records c.args.store.now in let half = c.first_half-half.result in
    let p = c.args.extra.node in let all = insert (kids m p) c.args.extra.at c.args.extra.child in
    let s = c.make-sibling.result in
    let full = has-none m p c.requires.put.row c.child.result c.child.ensures.value (c.is_none.ensures
    ∙ ap not c.if-is_none.false) in
    let more = length-insert (kids m p) c.args.extra.at c.args.extra.child c.requires.put.place in
    let few : length all ≤ 13 = omega (arith, c.requires.put.row.few) in
    let left = c.refill.ensures.records
    ∙ ap (λ x. refilled x p c.part-left.result) c.make-sibling.ensures.records
    ∙ ap (refilled (finite.insert m s (blank None)) p) c.part-left.ensures in
    record {
      many = omega (arith, full, c.requires.put.row.few);
      fresh = c.make-sibling.ensures.fresh;
      half = half;
      low = c.first_half-half.ensures.low;
      high = c.first_half-half.ensures.high;
      same = c.refill-else-is_none.ensures.records ∙ ap (λ x. refilled x s c.part-right.result) left
          ∙ ap (refilled (refilled (finite.insert m s (blank None)) p (row (take half all))) s) (c.part-right.ensures
          ∙ last all half c.first_half-half.ensures.high few);
    }
