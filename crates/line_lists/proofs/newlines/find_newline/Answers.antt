use Rattle.line_lists.proofs.Common.{◌+◌, ◌≤◌, arith, length}
use Rattle.line_lists.proofs.NewlineBytes.{behind_block, within_block}
use Rattle.line_lists.proofs.newlines.find_newline.Goals as goal

pub loop-start-preserved : goal.loop-start-preserved
loop-start-preserved c =
    let so_far = c.loop-start.invariant in
    let room : c.loop-start.start + 16 ≤ length c.args.bytes.now =
    omega (arith, so_far.within, c.loop-start-test.true) in
    let behind = behind_block c.args.bytes.now c.loop-start.start c.newline_in_block-before.result room
    c.newline_in_block-before.ensures (omega (arith, c.if-before-lt-BLOCK.false)) in
    record {
      within = room;
      passed = omega (arith, so_far.passed, behind);
    }

pub returns-then-before-lt-BLOCK : goal.returns-then-before-lt-BLOCK
returns-then-before-lt-BLOCK c =
    let so_far = c.loop-start.invariant in
    let here = within_block c.args.bytes.now c.loop-start.start c.newline_in_block-before.result
    (omega (arith, so_far.within, c.loop-start-test.true)) c.newline_in_block-before.ensures c.if-before-lt-BLOCK.true in
    omega (arith, so_far.passed, here)
