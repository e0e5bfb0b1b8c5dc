use Rattle.text_model.proofs.Common.{arith}
use Rattle.text_model.proofs.BeginningLaws.{more_beginnings}
use Rattle.text_model.proofs.beginnings.skip_blocks.Goals as goal

pub loop-start-preserved : goal.loop-start-preserved
loop-start-preserved c =
    let so_far = c.loop-start.invariant in
    let more = more_beginnings c.args.bytes.now c.loop-start.start 32 in
    record {
      within = omega (arith, so_far.within, c.loop-start-test.true);
      left = omega (arith, so_far.left, c.count_in_block-here.ensures, more, c.if-left-here.false);
    }
