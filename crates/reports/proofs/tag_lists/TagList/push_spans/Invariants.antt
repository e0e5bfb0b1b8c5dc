use Rattle.reports.proofs.Common.{drop, length, take, flags, TellsSpans}
use Rattle.reports.proofs.AddedRunLaws.{AddsDownTo}
use Rattle.reports.proofs.tag_lists.TagList.push_spans.Given as goal

abbrev pub invariant-loop-span : goal.invariant-loop-span
invariant-loop-span g l = record {
  told : TellsSpans l.key l.on (flags l.slot.0 (g.S.TextStore.content l.store).cells) (take l.span-index l.spans)
      l.fn.self l.self;
  runs : AddsDownTo l.key (length (g.S.TextStore.content l.store).cells) (drop l.span-index l.spans) l.fn.self l.self;
}
