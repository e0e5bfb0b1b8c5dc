use Rattle.tcl_words.proofs.Common.{refl, is_bare, splat_is_map, zip2_of_maps, zip2_splat}
use Rattle.tcl_words.proofs.Blocks.{mask_is}
use Rattle.tcl_words.proofs.runs.BareBytesOrdinary.stops.Goals as goal

pub returns : goal.returns
returns c =
    let block = c.args.block in
    let long = c.fits-block.0 in
    mask_is is_bare _ block _ long c.fits-block.1
    (zip2_of_maps _ _ _ block
    (zip2_of_maps _ _ _ block
    (zip2_of_maps _ _ _ block (zip2_splat _ block 16 _ long) (splat_is_map block 16 _ long))
    (zip2_of_maps _ _ _ block (zip2_splat _ block 16 _ long) (splat_is_map block 16 _ long)))
    (zip2_of_maps _ _ _ block
    (zip2_of_maps _ _ _ block (zip2_splat _ block 16 _ long) (zip2_splat _ block 16 _ long))
    (zip2_splat _ block 16 _ long))) refl
