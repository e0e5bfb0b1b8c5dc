use Rattle.line_lists.proofs.Common.{ap, ◌∙◌, Count, has_marks}
use Rattle.line_lists.proofs.ListLaws.{no-marks, passed-all, passed-more, passed-stops, some-marks}
use Rattle.std.specs.FinMap as finite
use Rattle.line_lists.proofs.line_vec.first_marked.Goals as goal

pub loop-index-preserved : goal.loop-index-preserved
loop-index-preserved c =
    let line = c.index-lines-index.result in
    passed-more has_marks c.args.lines.now c.loop-index.index line c.loop-index-test.true c.index-lines-index.is
    (no-marks c.marks.result (finite.len line.marks) (c.marks.ensures
    ∙ ap (λ (s : Count). s.marks) c.sum.ensures) c.if-marks-gt0.false) c.loop-index.invariant

pub returns-then-marks-gt0 : goal.returns-then-marks-gt0
returns-then-marks-gt0 c =
    let line = c.index-lines-index.result in
    passed-stops has_marks c.args.lines.now c.loop-index.index line c.loop-index-test.true c.index-lines-index.is
    (some-marks c.marks.result (finite.len line.marks) (c.marks.ensures
    ∙ ap (λ (s : Count). s.marks) c.sum.ensures) c.if-marks-gt0.true) c.loop-index.invariant

pub returns : goal.returns
returns c = passed-all has_marks c.args.lines.now c.loop-index.index c.loop-index-test.false c.loop-index.auto.index-end
    c.loop-index.invariant
