use Rattle.reports.proofs.Common.{◌≤◌, ◌-◌, flags, TellsSpan}
use Rattle.reports.proofs.AddedRunLaws.{AddsUpTo}
use Rattle.reports.proofs.tag_lists.TagList.push_unlike.Given as goal

abbrev pub invariant-loop-at : goal.invariant-loop-at
invariant-loop-at g l = record {
  above : l.span.from ≤ l.at;
  below : l.at ≤ l.span.to;
  told : TellsSpan l.key l.on (flags l.slot.0 (g.S.TextStore.content l.store).cells) l.span.from l.at l.fn.self l.self;
  runs : AddsUpTo l.key l.on (flags l.slot.0 (g.S.TextStore.content l.store).cells) l.span.from l.at l.span.to l.fn.self
      l.self;
}

abbrev pub decreases-loop-at : goal.decreases-loop-at
decreases-loop-at g l = l.span.to - l.at
