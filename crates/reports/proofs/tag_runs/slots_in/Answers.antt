use Rattle.reports.proofs.Common.{◌+◌, sym, subst, take, take_all, HoldsSlots}
use Rattle.reports.proofs.KeyListLaws.{held-empty, held-more, held-none}
use Rattle.reports.proofs.tag_runs.slots_in.Goals.{then-not-is_empty, else-not-is_empty}
use Rattle.reports.proofs.tag_runs.slots_in.Goals as goal

pub loop-run-init : goal.loop-run-init
loop-run-init c = held-none c.empty-slots.result

pub loop-run-preserved : goal.loop-run-preserved
loop-run-preserved c =
    let runs = c.args.runs.now in
    let at = c.loop-run.run-index in
    let run = c.run-item.result in
    let before = c.loop-run.slots in
    elim c.if-not-is_empty.branch [
      | then-not-is_empty w ↦
          subst (HoldsSlots (take (at + 1) runs)) (sym w.slots-is)
          (held-more runs at run before w.common.result w.differing-more.result w.differing-slots.result
          c.loop-run-test.true c.run-item.is w.common.ensures w.differing-more.ensures w.differing-slots.ensures
          c.loop-run.invariant)
      | else-not-is_empty w ↦
          subst (HoldsSlots (take (at + 1) runs)) (sym w.slots-is)
          (held-empty runs at run before c.loop-run-test.true c.run-item.is
          (c.is_empty.ensures.none w.if-not-is_empty.false) c.loop-run.invariant)
    ]

pub returns : goal.returns
returns c =
    subst (λ runs. HoldsSlots runs c.loop-run.slots) (take_all c.loop-run.run-index c.args.runs.now c.loop-run-test.false)
    c.loop-run.invariant
