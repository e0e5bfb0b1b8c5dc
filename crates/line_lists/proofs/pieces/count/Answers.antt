use Rattle.line_lists.proofs.Common.{subst, arith, take_all, plus, line_count, copies_of, IsCounted, count_of}
use Rattle.line_lists.proofs.Common.{copied_lines}
use Rattle.line_lists.proofs.GatherLaws.{count-stop, counted-none, counted-same, numbers-line, numbers-more}
use Rattle.line_lists.proofs.GatherLaws.{numbers-none}
use Rattle.line_lists.proofs.pieces.count.Goals as goal

pub loop-stop-init : goal.loop-stop-init
loop-stop-init g c =
    let lines = g.L.LineList.lines c.args.list.now in
    let same = numbers-none c.counts-sum.result (count_of lines) c.counts-sum.ensures in
    (same, counted-none c.counts-sum.result (count_of lines) same (g.L.LineList.are_lines c.args.list.now).counted)

pub loop-stop-preserved : goal.loop-stop-preserved
loop-stop-preserved g c =
    let all = count_of (g.L.LineList.lines c.args.list.now) in
    let stop = c.stop-item.result in (
      numbers-more _ c.loop-stop.sum _ _ _ (line_count stop.copy.line) c.in_ok-add_line.ensures.sum
          (numbers-line stop.copy.line) c.loop-stop.invariant.0
          (count-stop c.args.stops.now c.loop-stop.stop-index stop all c.loop-stop-test.true c.stop-item.is),
      c.in_ok-add_line.ensures.counted,
    )

pub returns : goal.returns
returns g c =
    let all = count_of (g.L.LineList.lines c.args.list.now) in
    subst (λ xs. IsCounted (plus all (count_of (copied_lines (copies_of xs)))))
    (take_all c.loop-stop.stop-index c.args.stops.now (omega (arith, c.loop-stop-test.false)))
    (counted-same _ _ c.loop-stop.invariant.0 c.loop-stop.invariant.1)
