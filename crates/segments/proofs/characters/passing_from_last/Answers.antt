use Rattle.segments.proofs.Common.{arith, chars, suffix_len-le-length}
use Rattle.segments.proofs.characters.passing_from_last.Goals as goal

pub returns : goal.returns
returns g c =
    omega (
      arith,
      c.requires,
      c.loop-passed-test.false,
      c.loop-passed.invariant.1,
      suffix_len-le-length g.T.CharacterTest.test (chars c.args.text.now),
    )
