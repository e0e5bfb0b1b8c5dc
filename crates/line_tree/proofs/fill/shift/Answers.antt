use Rattle.line_tree.proofs.Common.{◌+◌, sym, ◌∙◌, subst, arith, refl, IsSome, same_Some, records}
use Rattle.line_tree.proofs.RowLaws.{none_of}
use Rattle.line_tree.proofs.ShiftLaws.{Shifting, shift-child, shift-first, shift-last, shift-named, shift-next}
use Rattle.line_tree.proofs.ShiftLaws.{shift-within}
use Rattle.std.specs.FinMap as finite
use Rattle.line_tree.proofs.fill.shift.Goals as goal

pub loop-next-init : goal.loop-next-init
loop-next-init g c = let m = records c.args.store.now in record {
  shifting = shift-first m c.args.extra.node c.args.extra.at c.args.extra.child c.requires.put c.requires.few;
  spares = refl;
  rooms = refl;
}

pub child-next-requires-clause-index : goal.child-next-requires-clause-index
child-next-requires-clause-index g c = let m = records c.args.store.now in let n = records c.loop-next.store in
    let now = subst (Shifting m n c.args.extra.node c.args.extra.at c.args.extra.child c.loop-next.slot) c.in-Some.is
    c.loop-next.invariant.shifting in
    shift-within m c.args.extra.node c.args.extra.at c.args.extra.child c.requires.put c.requires.few n c.loop-next.slot
    c.in-Some.child now

pub link-requires-clause-slot : goal.link-requires-clause-slot
link-requires-clause-slot g c = let m = records c.args.store.now in let n = records c.loop-next.store in
    let now = subst (Shifting m n c.args.extra.node c.args.extra.at c.args.extra.child c.loop-next.slot) c.in-Some.is
    c.loop-next.invariant.shifting in
    shift-within m c.args.extra.node c.args.extra.at c.args.extra.child c.requires.put c.requires.few n c.loop-next.slot
    c.in-Some.child now

pub link-requires-clause-child : goal.link-requires-clause-child
link-requires-clause-child g c d is = let m = records c.args.store.now in let n = records c.loop-next.store in
    let now = subst (Shifting m n c.args.extra.node c.args.extra.at c.args.extra.child c.loop-next.slot) c.in-Some.is
    c.loop-next.invariant.shifting in
    subst (λ q. IsSome (finite.get n q)) (same_Some c.in-Some.child d is)
    (shift-named m c.args.extra.node c.args.extra.at c.args.extra.child c.requires.put c.requires.few n c.loop-next.slot
    c.in-Some.child now)

pub loop-next-smaller : goal.loop-next-smaller
loop-next-smaller g c = let m = records c.args.store.now in let n = records c.loop-next.store in
    let now = subst (Shifting m n c.args.extra.node c.args.extra.at c.args.extra.child c.loop-next.slot) c.in-Some.is
    c.loop-next.invariant.shifting in
    let within = shift-within m c.args.extra.node c.args.extra.at c.args.extra.child c.requires.put c.requires.few n
    c.loop-next.slot c.in-Some.child now in omega (arith, within)

pub loop-next-preserved : goal.loop-next-preserved
loop-next-preserved g c = let m = records c.args.store.now in let n = records c.loop-next.store in
    let p = c.args.extra.node in let at = c.args.extra.at in let x = c.args.extra.child in
    let slot = c.loop-next.slot in
    let d = c.in-Some.child in
    let now = subst (Shifting m n p at x slot) c.in-Some.is c.loop-next.invariant.shifting in
    let behind = shift-child m p at x c.requires.put c.requires.few n slot d now c.child-next.result
    c.child-next.ensures.value in
    record {
      shifting = subst (λ z. Shifting m z p at x (slot + 1) c.child-next.result) (sym c.link.ensures.records)
          (shift-next m p at x c.requires.put c.requires.few n slot d now c.child-next.result behind);
      spares = c.link.ensures.spares ∙ c.loop-next.invariant.spares;
      rooms = c.link.ensures.rooms ∙ c.loop-next.invariant.rooms;
    }

pub returns-clause-records : goal.returns-clause-records
returns-clause-records g c = let m = records c.args.store.now in let n = records c.loop-next.store in
    shift-last m c.args.extra.node c.args.extra.at c.args.extra.child c.requires.put c.requires.few n c.loop-next.slot
    (subst (Shifting m n c.args.extra.node c.args.extra.at c.args.extra.child c.loop-next.slot)
    (none_of c.loop-next.next c.in_default.not-Some) c.loop-next.invariant.shifting)
