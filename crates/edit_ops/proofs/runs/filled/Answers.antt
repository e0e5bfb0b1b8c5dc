use Rattle.edit_ops.proofs.Common.{◌<◌, ap, ◌∙◌, All-push, Span, in_spans, take_all}
use Rattle.edit_ops.proofs.RunLaws.{in-more, in-more-none}
use Rattle.edit_ops.proofs.runs.filled.Goals.{then-span+in_ok-push, else-span}
use Rattle.edit_ops.proofs.runs.filled.Goals as goal

pub loop-span-preserved : goal.loop-span-preserved
loop-span-preserved c =
    let so_far = c.loop-span.invariant in
    elim c.if-span.branch [
      | then-span+in_ok-push w ↦ record {
        filled = rw (w.kept-is, w.in_ok-push.ensures.items)
            (All-push (λ (s : Span). s.from < s.to) c.loop-span.kept.items _ so_far.filled w.if-span.true);
        covers = λ offset. rw (w.kept-is, w.in_ok-push.ensures.items)
            (in-more c.args.spans.now c.loop-span.kept.items c.loop-span.span-index _ offset c.loop-span-test.true
            (so_far.covers offset));
      }
      | else-span w ↦ record {
        filled = rw w.kept-is so_far.filled;
        covers = λ offset. rw w.kept-is (in-more-none c.args.spans.now c.loop-span.kept.items c.loop-span.span-index _
            offset c.loop-span-test.true w.if-span.false (so_far.covers offset));
      }
    ]

pub returns-clause-covers : goal.returns-clause-covers
returns-clause-covers c = λ offset.
    c.loop-span.invariant.covers offset
    ∙ ap (λ xs. in_spans xs offset) (take_all c.loop-span.span-index c.args.spans.now c.loop-span-test.false)
