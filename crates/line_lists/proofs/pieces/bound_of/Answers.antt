use Rattle.line_lists.proofs.Common.{◌<◌, subst, arith, All, take_all, All-append, All-weaker, copies_of, copied_lines}
use Rattle.line_lists.proofs.Common.{numbers_in, numbers_of}
use Rattle.line_lists.proofs.GatherLaws.{numbers-stop}
use Rattle.line_lists.proofs.pieces.bound_of.Goals as goal

pub loop-stop-preserved : goal.loop-stop-preserved
loop-stop-preserved c =
    let bound = c.bound_with-bound.result in
    let stop = c.stop-item.result in
    subst (All (λ n. n < bound))
    (numbers-stop c.args.stops.now c.loop-stop.stop-index stop c.loop-stop-test.true c.stop-item.is)
    (All-append (λ n. n < bound) _ (numbers_of stop.copy.line)
    (All-weaker (λ n. n < c.loop-stop.bound) (λ n. n < bound)
    (λ n less. omega (arith, less, c.bound_with-bound.ensures.more)) _ c.loop-stop.invariant)
    c.bound_with-bound.ensures.above)

pub returns : goal.returns
returns c =
    subst (λ xs. All (λ n. n < c.loop-stop.bound) (numbers_in (copied_lines (copies_of xs))))
    (take_all c.loop-stop.stop-index c.args.stops.now (omega (arith, c.loop-stop-test.false))) c.loop-stop.invariant
