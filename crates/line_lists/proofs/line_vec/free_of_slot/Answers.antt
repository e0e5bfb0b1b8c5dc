use Rattle.line_lists.proofs.Common.{sym, ap, ◌∙◌, arith, Count, has_toggle}
use Rattle.line_lists.proofs.ListLaws.{left-more, left-none, left-stops}
use Rattle.line_lists.proofs.line_vec.free_of_slot.Goals.{then-loop-start-test+else-not-has, else-loop-start-test}
use Rattle.std.specs.FinSet as set
use Rattle.line_lists.proofs.line_vec.free_of_slot.Goals as goal

pub loop-start-preserved : goal.loop-start-preserved
loop-start-preserved c =
    let line = c.index-lines-start.result in
    let so_far = c.loop-start.invariant in
    record {
      within = omega (arith, so_far.within);
      rest = left-more (has_toggle c.args.slot.0) c.args.lines.now c.loop-start.start line c.loop-start-test.true
          so_far.within c.index-lines-start.is (sym (c.has.ensures
          ∙ ap (λ (s : Count). set.contains s.presence c.args.slot.0) c.sum.ensures) ∙ c.if-not-has.true) so_far.rest;
    }

pub returns : goal.returns
returns c =
    let so_far = c.loop-start.invariant in
    elim c.loop-start-test.branch [
      | then-loop-start-test+else-not-has w ↦
          let line = w.index-lines-start.result in
          left-stops (has_toggle c.args.slot.0) c.args.lines.now c.loop-start.start line w.loop-start-test.true
          so_far.within w.index-lines-start.is
          (sym (w.has.ensures ∙ ap (λ (s : Count). set.contains s.presence c.args.slot.0) w.sum.ensures)
          ∙ w.if-not-has.false) so_far.rest
      | else-loop-start-test w ↦ left-none (has_toggle c.args.slot.0) c.args.lines.now c.loop-start.start
          (omega (arith, w.loop-start-test.false)) so_far.rest
    ]
