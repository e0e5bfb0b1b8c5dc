use Rattle.line_tree.proofs.Common.{◌≡◌, ◌+◌, ◌≤◌, ◌++◌, ℕ, List, length, take, drop, refl, sym, ap, subst, ◌∙◌, arith}
use Rattle.line_tree.proofs.Common.{length-drop, take-append-le, take_all, CanFill, refilled, sums, NodePtr, kids, row}
use Rattle.line_tree.proofs.Common.{records}
use Rattle.line_tree.proofs.EvenLaws.{back-sums, fill-back, fill-front, kept-part}
use Rattle.line_tree.proofs.FillLaws.{sums-row}
use Rattle.line_tree.proofs.KeptLaws.{take-short}
use Rattle.line_tree.proofs.PutLaws.{count-row}
use Rattle.line_tree.proofs.shrink.share.Goals.{then-first-half, else-first-half}
use Rattle.line_tree.proofs.shrink.share.Goals as goal

-- the others are twelve at most
rest : (all : List NodePtr) (half : ℕ) → length all ≤ half + 12 → row (take 12 (drop half all)) ≡ row (drop half all)
rest all half few = let n = length-drop half all in let h : length (drop half all) ≤ 12 = omega arith in
    ap row (take_all 12 (drop half all) h)

pub refill-requires : goal.refill-requires
refill-requires g c = let m = records c.args.store.now in let a = c.args.left in let b = c.args.right in
    let all = kids m a ++ kids m b in let half = c.args.half in let can = c.requires.even in
    let na = count-row m a c.children-first.result can.left c.children-first.ensures in
    record {
      fill = (take half all, c.part_pair-front.ensures, fill-front m a b can half c.requires.half.high);
      from = omega (arith, c.min.ensures, c.requires.half.high);
      kept = kept-part m a b can c.min.result (take half all) (omega (arith, c.min.ensures))
          (take-short c.min.result half all (omega (arith, c.min.ensures))
          ∙ take-append-le c.min.result (kids m a) (kids m b) (omega (arith, c.min.ensures))) c.part_pair-front.result
          c.part_pair-front.ensures;
      sum = c.sum_halves-sum_front.ensures.first
          ∙ sym (ap (sums m) c.part_pair-front.ensures ∙ sums-row m (take half all));
    }

pub refill-requires-2 : goal.refill-requires-2
refill-requires-2 g c = let m = records c.args.store.now in let a = c.args.left in let b = c.args.right in
    let all = kids m a ++ kids m b in let half = c.args.half in let can = c.requires.even in
    let few = c.requires.half.rest_high in let back = c.part_pair-back.ensures ∙ rest all half few in
    let now = c.refill.ensures.records ∙ ap (refilled m a) c.part_pair-front.ensures in
    record {
      fill = (drop half all, back, subst (λ x. CanFill x b (drop half all)) (sym now) (fill-back m a b can half few));
      from = omega arith;
      kept = refl;
      sum = c.sum_halves-sum_front.ensures.last
          ∙ sym (ap (λ n. sums n c.part_pair-back.result) now ∙ ap (sums (refilled m a (row (take half all)))) back
          ∙ back-sums m a b can half);
    }

pub returns-clause-records : goal.returns-clause-records
returns-clause-records g c = let m = records c.args.store.now in let a = c.args.left in let b = c.args.right in
    let all = kids m a ++ kids m b in let half = c.args.half in
    c.refill-2.ensures.records
    ∙ ap (λ x. refilled x b c.part_pair-back.result) (c.refill.ensures.records
    ∙ ap (refilled m a) c.part_pair-front.ensures)
    ∙ ap (refilled (refilled m a (row (take half all))) b)
    (c.part_pair-back.ensures ∙ rest all half c.requires.half.rest_high)

pub sum_halves-sum_front-requires-clause-front : goal.sum_halves-sum_front-requires-clause-front
sum_halves-sum_front-requires-clause-front g c = λ more. let m = records c.args.store.now in
    let na = count-row m c.args.left c.children-first.result c.requires.even.left c.children-first.ensures in
    elim c.if-first-half.branch [
      | then-first-half w ↦ let less = w.if-first-half.true in absurd (omega arith)
      | else-first-half w ↦ ap (λ s. s.now) w.stay-is ∙ c.part_pair-front.ensures
    ]
