use Rattle.reports.proofs.Common.{◌+◌, drop, length, subst, sym, length-map, flags, Cell, Span}
use Rattle.edit_ops.specs.Deletions.{AreApart}
use Rattle.reports.proofs.AddedRunLaws.{down-all, down-more, down-none}
use Rattle.reports.proofs.SpanToldLaws.{apart-fits, spans-then}
use Rattle.std.specs.FinSet as set
use Rattle.reports.proofs.tag_lists.TagList.push_spans.Goals as goal

abbrev no_span : Span
no_span = record { from = 0; to = 0 }

pub push_unlike-requires-clause-ordered : goal.push_unlike-requires-clause-ordered
push_unlike-requires-clause-ordered g c =
    (apart-fits (length (g.S.TextStore.content c.args.store.now).cells) c.args.spans.now c.loop-span.span-index no_span
    c.loop-span-test.true c.requires.apart).ordered

pub push_unlike-requires-clause-within : goal.push_unlike-requires-clause-within
push_unlike-requires-clause-within g c =
    (apart-fits (length (g.S.TextStore.content c.args.store.now).cells) c.args.spans.now c.loop-span.span-index no_span
    c.loop-span-test.true c.requires.apart).within

pub loop-span-init : goal.loop-span-init
loop-span-init g c = record {
  told = λ start cells same so_far. so_far;
  runs = down-none c.args.key.now (length (g.S.TextStore.content c.args.store.now).cells) c.args.spans.now
      c.args.self.now c.requires.apart;
}

pub loop-span-preserved : goal.loop-span-preserved
loop-span-preserved g c =
    let cells = (g.S.TextStore.content c.args.store.now).cells in
    let slot = c.args.slot.0 in
    let key = c.args.key.now in
    let spans = c.args.spans.now in
    let at = c.loop-span.span-index in
    record {
      told = spans-then key c.args.on (flags slot cells) spans at no_span c.args.self.now c.loop-span.self
          c.push_unlike.new.self c.loop-span-test.true
          (subst (λ n. AreApart (n + 1) spans)
          (sym (length-map cells (λ (cell : Cell). set.contains cell.tags slot))) c.requires.apart)
          c.loop-span.invariant.told c.in_ok-push_unlike.ensures.tells;
      runs = down-more key (length cells) spans at no_span c.args.self.now c.loop-span.self c.push_unlike.new.self
          c.loop-span-test.true c.loop-span.invariant.runs (λ _. c.in_ok-push_unlike.ensures.runs);
    }

pub returns-clause-runs : goal.returns-clause-runs
returns-clause-runs g c =
    down-all c.args.key.now (length (g.S.TextStore.content c.args.store.now).cells)
    (drop c.loop-span.span-index c.args.spans.now) c.args.self.now c.loop-span.self c.loop-span.invariant.runs
