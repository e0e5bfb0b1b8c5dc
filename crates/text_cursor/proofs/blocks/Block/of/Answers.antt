use Rattle.text_cursor.proofs.Common.{ap, ◌∙◌, arith, parts_len}
use Rattle.text_cursor.proofs.SideLaws.{turned-len}
use Rattle.text_cursor.proofs.blocks.Block.of.Goals as goal

pub count_parts-count-requires : goal.count_parts-count-requires
count_parts-count-requires c =
    let same = ap parts_len (c.deref.ensures.value ∙ c.turn.ensures) ∙ turned-len c.args.turned c.args.parts.items in
    let small = c.requires.fits in omega (arith, same, small)
