use Rattle.line_lists.proofs.VecLaws.{without-more}
use Rattle.line_lists.proofs.line_vec.take_marks.Goals as goal

pub loop-line-preserved : goal.loop-line-preserved
loop-line-preserved c =
    without-more c.args.number.0 c.args.lines.now c.loop-line.lines c.loop-line.line-index c.line-item.result
    c.take_mark.new.self c.loop-line-test.true c.loop-line.invariant c.line-item.is c.take_mark.ensures.columns
    c.take_mark.ensures.marks
