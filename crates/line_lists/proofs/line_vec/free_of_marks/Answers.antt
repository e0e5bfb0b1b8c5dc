use Rattle.line_lists.proofs.Common.{ap, ◌∙◌, arith, Count, has_marks}
use Rattle.line_lists.proofs.ListLaws.{left-more, left-none, left-stops, no-marks, some-marks}
use Rattle.line_lists.proofs.line_vec.free_of_marks.Goals.{then-loop-start-test+else-marks-eq0, else-loop-start-test}
use Rattle.std.specs.FinMap as finite
use Rattle.line_lists.proofs.line_vec.free_of_marks.Goals as goal

pub loop-start-preserved : goal.loop-start-preserved
loop-start-preserved c =
    let line = c.index-lines-start.result in
    let so_far = c.loop-start.invariant in
    record {
      within = omega (arith, so_far.within);
      rest = left-more has_marks c.args.lines.now c.loop-start.start line c.loop-start-test.true so_far.within
          c.index-lines-start.is (no-marks c.marks.result (finite.len line.marks) (c.marks.ensures
          ∙ ap (λ (s : Count). s.marks) c.sum.ensures) (omega (arith, c.if-marks-eq0.true))) so_far.rest;
    }

pub returns : goal.returns
returns c =
    let so_far = c.loop-start.invariant in
    elim c.loop-start-test.branch [
      | then-loop-start-test+else-marks-eq0 w ↦
          let line = w.index-lines-start.result in
          left-stops has_marks c.args.lines.now c.loop-start.start line w.loop-start-test.true so_far.within
          w.index-lines-start.is (some-marks w.marks.result (finite.len line.marks) (w.marks.ensures
          ∙ ap (λ (s : Count). s.marks) w.sum.ensures) (omega (arith, w.if-marks-eq0.false))) so_far.rest
      | else-loop-start-test w ↦ left-none has_marks c.args.lines.now c.loop-start.start
          (omega (arith, w.loop-start-test.false)) so_far.rest
    ]
