use Rattle.text_cursor.proofs.Common.{◌/◌, ap, arith, sum_by-take-le, parts_len}
use Rattle.text_cursor.proofs.SideLaws.{part_len}
use Rattle.text_cursor.proofs.blocks.Block.is_half_passed.Goals as goal

pub count_parts-first-requires : goal.count_parts-first-requires
count_parts-first-requires c =
    let below = sum_by-take-le part_len c.deref.result.now (c.len.result / 2) in
    let same = ap parts_len c.deref.ensures.value in
    let counted = c.args.self.now.counted in
    omega (arith, below, same, counted)
