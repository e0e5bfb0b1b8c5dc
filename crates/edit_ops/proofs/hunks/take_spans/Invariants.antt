use Rattle.edit_ops.proofs.Common.{◌≡◌, [], map, Span}
use Rattle.edit_ops.proofs.hunks.take_spans.Given as goal

abbrev pub invariant-loop-span : goal.invariant-loop-span
invariant-loop-span l =
    l.hunks.items ≡ map (λ (span : Span). record { from = span.from; to = span.to; text = [] }) l.yielded
