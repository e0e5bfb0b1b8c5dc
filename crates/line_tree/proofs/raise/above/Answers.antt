use Rattle.line_tree.proofs.Common.{◌≤◌, length, take, drop, length-take, sym, ap, ◌∙◌, subst, arith, slice_get}
use Rattle.line_tree.proofs.Common.{CanFill, FitsSum, sums, records}
use Rattle.line_tree.proofs.AmongLaws.{get-among}
use Rattle.line_tree.proofs.FillLaws.{row-some, sums-row}
use Rattle.line_tree.proofs.RoomLaws.{len-refilled}
use Rattle.line_tree.proofs.RootLaws.{can-top}
use Rattle.std.specs.FinMap as finite
use Rattle.line_tree.proofs.raise.above.Goals as goal

pub sum_of-sum-requires : goal.sum_of-sum-requires
sum_of-sum-requires g c =
    let m = records c.args.store.now in let cs = take c.args.count (drop c.args.from c.args.list.now) in
    let few : length cs ≤ 12 = omega
    (arith, length-take c.args.count (drop c.args.from c.args.list.now), c.requires.few) in
    let can = subst (λ n. CanFill n c.make-root.result cs) (sym c.make-root.ensures.records)
    (can-top m c.make-root.result cs c.make-root.ensures.fresh few c.requires.named c.requires.fits) in
    record {
      nodes = λ i d is. can.each d
          (get-among cs i d (row-some cs i d (ap (λ os. slice_get os i) (sym c.slots_of-children.ensures) ∙ is)));
      fits = subst (λ os. FitsSum (sums (records c.make-root.new.self) os)) (sym c.slots_of-children.ensures)
          (subst FitsSum (sym (sums-row (records c.make-root.new.self) cs)) can.fits);
    }

pub refill-requires-clause-fill : goal.refill-requires-clause-fill
refill-requires-clause-fill g c =
    let m = records c.args.store.now in let cs = take c.args.count (drop c.args.from c.args.list.now) in
    let few : length cs ≤ 12 = omega (arith, length-take c.args.count (drop c.args.from c.args.list.now), c.requires.few) in
    let can = subst (λ n. CanFill n c.make-root.result cs) (sym c.make-root.ensures.records)
    (can-top m c.make-root.result cs c.make-root.ensures.fresh few c.requires.named c.requires.fits) in
    (cs, c.slots_of-children.ensures, can)

pub returns-clause-nodes : goal.returns-clause-nodes
returns-clause-nodes g c =
    let n = ap finite.len c.refill.ensures.records
    ∙ len-refilled (records c.make-root.new.self) c.make-root.result c.slots_of-children.result in
    let s = c.refill.ensures.spares in let t = c.make-root.ensures.total in omega arith
