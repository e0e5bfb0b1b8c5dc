use Rattle.reports.proofs.Common.{◌≡◌, ◌<◌, ◌≤◌, arith, subst, length, length-map, next_change, flags, Cell, AddsRuns}
use Rattle.reports.proofs.AddedRunLaws.{upto-none, upto-passed, upto-told}
use Rattle.reports.proofs.SpanToldLaws.{run-none, run-passed, run-told}
use Rattle.std.specs.FinSet as set
use Rattle.reports.proofs.tag_lists.TagList.push_unlike.Goals as goal

pub loop-at-init : goal.loop-at-init
loop-at-init g c = record {
  above = omega arith;
  below = c.requires.ordered;
  told = run-none c.args.key.now c.args.on (flags c.args.slot.0 (g.S.TextStore.content c.args.store.now).cells)
      c.args.span.from c.args.self.now;
  runs = upto-none c.args.key.now c.args.on
      (flags c.args.slot.0 (g.S.TextStore.content c.args.store.now).cells) c.args.span.from c.args.span.to c.args.self.now;
}

pub loop-at-preserved-in_ok-push : goal.loop-at-preserved-in_ok-push
loop-at-preserved-in_ok-push g c =
    let cells = (g.S.TextStore.content c.args.store.now).cells in
    let slot = c.args.slot.0 in
    let at = c.loop-at.at in
    let to = c.args.span.to in
    let end = c.min-end.result in
    let next = c.next_change.ensures in
    let some : at < end = omega (arith, c.min-end.ensures, next.above, c.loop-at-test.true) in
    let below : end ≤ next_change (flags slot cells) at = omega (arith, c.min-end.ensures, next.value) in
    let cut : end ≤ to = omega (arith, c.min-end.ensures) in
    let within : to ≤ length (flags slot cells) =
    omega (arith, c.requires.within, length-map cells (λ (cell : Cell). set.contains cell.tags slot)) in
    record {
      above = omega (arith, some, c.loop-at.invariant.above);
      below = cut;
      told = run-told c.args.key.now c.args.on c.has_tag.result (flags slot cells) c.args.span.from at end
          c.args.self.now c.loop-at.self c.loop-at.invariant.above some below
          (omega (arith, cut, within)) c.has_tag.ensures c.loop-at.invariant.told c.push.new.self c.if-has_tag-on.true
          c.in_ok-push.ensures;
      runs = upto-told c.args.key.now c.args.on c.has_tag.result (flags slot cells) c.args.span.from at end to
          c.args.self.now c.loop-at.self c.loop-at.invariant.above some c.has_tag.ensures c.loop-at.invariant.runs
          c.if-has_tag-on.true c.loop-at-test.true within
          (λ more. let last : end ≡ next_change (flags slot cells) at = omega (arith, c.min-end.ensures, next.value, more) in
          last) c.push.new.self c.in_ok-push.ensures;
    }

pub loop-at-preserved : goal.loop-at-preserved
loop-at-preserved g c =
    let cells = (g.S.TextStore.content c.args.store.now).cells in
    let slot = c.args.slot.0 in
    let at = c.loop-at.at in
    let to = c.args.span.to in
    let end = c.min-end.result in
    let next = c.next_change.ensures in
    let some : at < end = omega (arith, c.min-end.ensures, next.above, c.loop-at-test.true) in
    let below : end ≤ next_change (flags slot cells) at = omega (arith, c.min-end.ensures, next.value) in
    let cut : end ≤ to = omega (arith, c.min-end.ensures) in
    let within : to ≤ length (flags slot cells) =
    omega (arith, c.requires.within, length-map cells (λ (cell : Cell). set.contains cell.tags slot)) in
    record {
      above = omega (arith, some, c.loop-at.invariant.above);
      below = cut;
      told = run-passed c.args.key.now c.args.on c.has_tag.result (flags slot cells) c.args.span.from at end
          c.args.self.now c.loop-at.self c.loop-at.invariant.above some below
          (omega (arith, cut, within)) c.has_tag.ensures c.loop-at.invariant.told c.if-has_tag-on.false;
      runs = upto-passed c.args.key.now c.args.on c.has_tag.result (flags slot cells) c.args.span.from at end to
          c.args.self.now c.loop-at.self c.loop-at.invariant.above some c.has_tag.ensures c.loop-at.invariant.runs;
    }

pub returns-clause-runs : goal.returns-clause-runs
returns-clause-runs g c =
    subst (λ end. AddsRuns c.args.key.now c.args.span.from end c.args.self.now c.loop-at.self)
    (omega (arith, c.loop-at.invariant.below, c.loop-at-test.false)) c.loop-at.invariant.runs.runs
