use Rattle.edit_ops.proofs.Common.{◌≡◌, [], drop, ap, sym, ◌∙◌, drop_of_length-le, after, tagged}
use Rattle.edit_ops.proofs.TagLaws.{tagging-more}
use Rattle.edit_ops.proofs.tagging.span_steps.Goals as goal

pub loop-span-preserved : goal.loop-span-preserved
loop-span-preserved c = λ content long.
    rw c.in_ok-push.ensures.ok
    (tagging-more c.args.slot c.args.is_on c.args.spans.now c.loop-span.steps c.loop-span.span-index c.args.len _
    content c.requires.known c.loop-span-test.true
    (c.requires.spans c.loop-span.span-index _ c.loop-span-test.true) (c.loop-span.invariant content long))

pub returns : goal.returns
returns c = λ content long.
    let done = c.loop-span.invariant content long in
    let none : drop c.loop-span.span-index c.args.spans.now
    ≡ [] = drop_of_length-le c.args.spans.now c.loop-span-test.false in (
      done.fits,
      sym (ap (λ left. tagged c.args.slot.0 c.args.is_on left (after c.loop-span.steps content)) none)
          ∙ done.makes,
    )
