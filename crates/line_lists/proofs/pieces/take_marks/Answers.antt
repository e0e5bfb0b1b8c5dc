use Rattle.line_lists.proofs.Common.{map, ap, ◌∙◌, arith, without_mark}
use Rattle.line_lists.proofs.GatherLaws.{freed-before}
use Rattle.line_lists.proofs.pieces.take_marks.Goals as goal

pub loop-index-preserved : goal.loop-index-preserved
loop-index-preserved g c = (
  c.take_mark.ensures.lines ∙ ap (map (without_mark _)) c.loop-index.invariant.0
      ∙ freed-before c.args.numbers.now c.loop-index.index _ (g.L.LineList.lines c.args.list.now)
      (omega (arith, c.loop-index-test.true)) c.loop-index.auto.index,
  λ count rows room. c.take_mark.ensures.room count rows (c.loop-index.invariant.1 count rows room),
  omega (arith, c.loop-index.invariant.2, c.take_mark.ensures.numbers),
)
