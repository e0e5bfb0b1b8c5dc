use Rattle.edit_ops.proofs.Common.{◌≡◌, drop, length, Content}
use Rattle.edit_ops.proofs.TagLaws.{Tagging}
use Rattle.edit_ops.proofs.tagging.span_steps.Given as goal

abbrev pub invariant-loop-span : goal.invariant-loop-span
invariant-loop-span l = (content : Content) → length content.cells ≡ l.len →
    Tagging l.slot l.is_on l.spans l.steps (drop l.span-index l.spans) l.len content
