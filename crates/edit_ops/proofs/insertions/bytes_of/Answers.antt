use Rattle.edit_ops.proofs.Common.{subst, arith, IsScalar, All, All-more, SlottedText, chars-scalars, common_steps}
use Rattle.edit_ops.proofs.insertions.bytes_of.Goals as goal

pub loop-piece-preserved : goal.loop-piece-preserved
loop-piece-preserved c = (
  grind (arith, common_steps),
  All-more (λ (piece : SlottedText). All IsScalar piece.text) c.args.pieces.now c.loop-piece.piece-index
      c.piece-item.result c.loop-piece-test.true c.loop-piece.invariant.1
      (subst (λ (piece : SlottedText). All IsScalar piece.text) c.piece-item.is
      (subst (All IsScalar) c.as_str.ensures.characters (chars-scalars c.as_str.result.now c.as_str.utf8))),
)
