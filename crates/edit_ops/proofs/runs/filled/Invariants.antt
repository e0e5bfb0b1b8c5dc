use Rattle.edit_ops.proofs.Common.{◌≡◌, ℕ, ◌<◌, take, All, in_spans, Span}
use Rattle.edit_ops.proofs.runs.filled.Given as goal

abbrev pub invariant-loop-span : goal.invariant-loop-span
invariant-loop-span l = record {
  filled : All (λ (span : Span). span.from < span.to) l.kept.items;
  covers : (offset : ℕ) → in_spans l.kept.items offset ≡ in_spans (take l.span-index l.spans) offset;
}
