use Rattle.line_lists.proofs.Common.{arith, chunk, length-chunk}
use Rattle.line_lists.proofs.NewlineBytes.{first_bit, no_bit}
use Rattle.line_lists.proofs.newlines.newline_in_block.Goals as goal

pub returns-then-newlines-eq0 : goal.returns-then-newlines-eq0
returns-then-newlines-eq0 c =
    let block = chunk c.args.start 16 c.args.bytes.now in
    no_bit block (length-chunk c.args.start 16 c.args.bytes.now c.requires) c.if-newlines-eq0.true

pub returns : goal.returns
returns c =
    let block = chunk c.args.start 16 c.args.bytes.now in
    first_bit block (length-chunk c.args.start 16 c.args.bytes.now c.requires)
    (omega (arith, c.if-newlines-eq0.false))
