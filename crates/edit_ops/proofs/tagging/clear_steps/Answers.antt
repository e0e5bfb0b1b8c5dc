use Rattle.edit_ops.proofs.Common.{◌≡◌, [], drop, sym, ◌∙◌, drop_of_length-le, after}
use Rattle.edit_ops.proofs.TagLaws.{clearing-more, cleared-none}
use Rattle.edit_ops.proofs.tagging.clear_steps.Goals as goal

pub loop-slot-preserved : goal.loop-slot-preserved
loop-slot-preserved c = λ content.
    rw c.in_ok-push.ensures.ok
    (clearing-more c.args.slots.now c.loop-slot.steps c.loop-slot.slot-index _ content
    (c.requires c.loop-slot.slot-index _ c.loop-slot-test.true) c.loop-slot-test.true
    (c.loop-slot.invariant content))

pub returns : goal.returns
returns c = λ content.
    let done = c.loop-slot.invariant content in
    let none : drop c.loop-slot.slot-index c.args.slots.now
    ≡ [] = drop_of_length-le c.args.slots.now c.loop-slot-test.false in (
      done.fits,
      sym (cleared-none (drop c.loop-slot.slot-index c.args.slots.now) (after c.loop-slot.steps content) none)
          ∙ done.makes,
    )
