use Rattle.line_lists.proofs.Common.{◌<◌, length, ap, ◌∙◌, arith, free_end}
use Rattle.line_lists.proofs.ClearingLaws.{passed-end}
use Rattle.line_lists.proofs.drafts.Draft.next_toggled.Goals as goal

pub loop-reached-preserved : goal.loop-reached-preserved
loop-reached-preserved g c =
    let lines = g.L.LineList.lines c.loop-reached.self.list.now in
    let slot = c.args.slot.0 in
    let old = c.loop-reached.self in
    let new = c.pass.new.self in
    let so_far = c.loop-reached.invariant in
    let some : 0 < length old.back.items = omega (arith, c.free_up_to.ensures.next c.in_default.is, old.back.ok.0) in
    let end = passed-end slot lines old.front.items new.front.items old.back.items new.back.items c.loop-reached.reached
    some (c.free_up_to.ensures.none c.in_default.is) c.in_ok-pass.ensures.moved in (
      c.in_ok-pass.ensures.list ∙ so_far.0,
      c.in_ok-pass.ensures.is,
      c.in_ok-pass.ensures.same ∙ so_far.2,
      c.reached-reached-in-loop-reached.ensures,
      ap (λ list. free_end slot (g.L.LineList.lines list) new.front.items new.back.items) c.in_ok-pass.ensures.list
          ∙ end ∙ so_far.4,
    )
