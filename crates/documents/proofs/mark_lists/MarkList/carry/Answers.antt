use Rattle.documents.proofs.Common.{◌≡◌, ◌<◌, ◌-◌, ◌∙◌, ap, length, get_or, arith, ◌^◌, carried_within}
use Rattle.documents.proofs.CarriedMarksLaws.{marks-next}
use Rattle.documents.proofs.mark_lists.MarkList.carry.Goals as goal

pub carried_if-mark-requires : goal.carried_if-mark-requires
carried_if-mark-requires c = c.count-count.ensures ∙ ap length c.as_str.ensures.characters

pub loop-mark-preserved : goal.loop-mark-preserved
loop-mark-preserved c =
    let marks = c.args.self.now in
    let items : c.deref_mut-mark-items.result.now ≡ marks = c.deref_mut-mark-items.ensures.value ∙ c.self.view_is in
    let within : c.loop-mark.mark-index < length marks = omega (arith, ap length items, c.loop-mark-test.true) in
    marks-next (carried_within (2 ^ 64 - 1) c.args.change.now) marks c.loop-mark.mark-items c.loop-mark.mark-index
    c.mark-item.result _ within c.loop-mark.invariant
    (λ i. record (get_or c.loop-mark.mark-items c.loop-mark.mark-index c.mark-item.result)
    { new = c.carried_if-mark.ensures i })
