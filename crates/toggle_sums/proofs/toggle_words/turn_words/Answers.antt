use Rattle.toggle_sums.proofs.Common.{bit_xor, arith, xor_zero_r}
use Rattle.toggle_sums.proofs.WordSteps.{SoFar-all, SoFar-more}
use Rattle.toggle_sums.proofs.toggle_words.turn_words.Goals as goal

pub loop-index-preserved : goal.loop-index-preserved
loop-index-preserved g c =
    SoFar-more bit_xor _ _ _ _ _ (omega (arith, c.loop-index-test.true, c.requires.used)) c.loop-index.invariant

pub returns : goal.returns
returns g c = record {
  long = c.loop-index.invariant.long;
  words = λ k below. SoFar-all bit_xor xor_zero_r _ _ _ _ _ c.args.used c.requires.rest c.loop-index-test.false
      c.loop-index.invariant k;
}
