use Rattle.tcl_words.proofs.Common.{arith}
use Rattle.tcl_words.proofs.WordWriting.{written_all}
use Rattle.tcl_words.proofs.plain_words.write_words.Goals as goal

pub returns : goal.returns
returns c =
    written_all c.loop-place.words.items c.truncate.new.self.items c.args.texts.now _ c.loop-place.place
    (omega (arith, c.loop-place-test.false, c.loop-place.auto)) c.truncate.ensures.items c.loop-place.invariant.written
