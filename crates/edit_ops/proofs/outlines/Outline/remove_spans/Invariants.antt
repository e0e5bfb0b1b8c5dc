use Rattle.edit_ops.proofs.Common.{drop, characters}
use Rattle.edit_ops.proofs.DeleteLaws.{RemovingSpans}
use Rattle.edit_ops.proofs.outlines.Outline.remove_spans.Given as goal

abbrev pub invariant-loop-span : goal.invariant-loop-span
invariant-loop-span g l = RemovingSpans l.keeps l.fn.self l.self (characters (g.S.TextStore.content l.store).cells)
    l.spans (drop l.span-index l.spans) l.border l.rest
