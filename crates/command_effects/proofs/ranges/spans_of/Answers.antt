use Rattle.command_effects.proofs.Common.{arith, ℕ, ◌≤◌, ◌-◌, drop, length, All-take, All-drop}
use Rattle.command_effects.proofs.PairLaws.{spans_of-more}
use Rattle.command_effects.proofs.ranges.spans_of.Goals as goal

pub loop-rest-preserved : goal.loop-rest-preserved
loop-rest-preserved c =
    let rest = c.loop-rest.rest.now in
    record {
      value = rw c.in_ok-push.ensures.items (rw c.span_between.ensures
          (spans_of-more c.args.start c.args.len c.args.places.now rest c.loop-rest.spans.items
          (omega (arith, c.loop-rest-test.true)) c.loop-rest.invariant.value));
      within = All-take (λ (place : ℕ). place ≤ c.args.len) (length rest - 2) (drop 2 rest)
          (All-drop (λ (place : ℕ). place ≤ c.args.len) 2 rest c.loop-rest.invariant.within);
    }
