use Rattle.text_model.proofs.Common.{w8, chunk-fits, length-chunk}
use Rattle.std.specs.Simd.Lanes.{chunk}
use Rattle.text_model.proofs.BeginningLaws.{block_count}
use Rattle.text_model.proofs.beginnings.count_in_block.Goals as goal

pub returns : goal.returns
returns c =
    let bytes = c.args.bytes.now in
    let start = c.args.start in
    block_count (chunk start 32 bytes) (length-chunk start 32 bytes c.requires)
    (chunk-fits w8 start 32 bytes c.type_inv.bytes)
