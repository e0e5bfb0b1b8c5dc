use Rattle.command_effects.proofs.Common.{arith, ap₂, sym, ◌∙◌, length-drop, Some, take_rest, pair_at}
use Rattle.command_effects.proofs.PairLaws.{word_read, pairs_at-more}
use Rattle.command_effects.proofs.lists.pairs_at.Goals as goal

pub loop-rest-preserved : goal.loop-rest-preserved
loop-rest-preserved c =
    let rest = c.loop-rest.rest.now in
    let first = word_read rest 0 c.index-rest-0.result c.as_str.result.now (omega (arith, c.loop-rest-test.true))
    c.index-rest-0.is c.as_str.ensures.value in
    let second = word_read rest 1 c.index-rest-1.result c.as_str-in-loop-rest.result.now
    (omega (arith, c.loop-rest-test.true)) c.index-rest-1.is c.as_str-in-loop-rest.ensures.value in
    record {
      value = rw c.in_ok-push.ensures.items
          (pairs_at-more c.args.position c.loop-rest.here _ rest c.loop-rest.pairs.items c.in_ok-pair.pair
          (omega (arith, c.loop-rest-test.true)) c.loop-rest.invariant.value
          (ap₂ (λ t l. pair_at c.loop-rest.here t (Some l)) (sym first) (sym second) ∙ c.in_ok-pair.ensures.ok));
      room =
          rw (take_rest rest 2) (omega (arith, length-drop 2 rest, c.loop-rest.invariant.room, c.loop-rest-test.true));
    }
