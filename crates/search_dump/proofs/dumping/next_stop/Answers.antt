use Rattle.search_dump.proofs.Common.{outlook, arith}
use Rattle.search_dump.proofs.StopLaws.{mark-stays, stop-is, stop-within}
use Rattle.search_dump.proofs.dumping.next_stop.Goals as goal

pub returns-clause-mark : goal.returns-clause-mark
returns-clause-mark g c =
    let view = c.args.sight.now.view.now in
    mark-stays (outlook c.args.sight.now) c.args.listed c.args.mark c.args.spot.place c.args.to
    c.args.tag c.stop_at_mark.result c.stop_at_line.result view.whole_lines.ordered
    c.requires.tag c.requires.mark c.stop_at_mark.ensures
    c.stop_at_line.ensures.stop c.stop_at_line.ensures.above c.stop_at_line.ensures.below c.requires.upto

pub returns-clause-stop : goal.returns-clause-stop
returns-clause-stop g c =
    let view = c.args.sight.now.view.now in
    stop-is (outlook c.args.sight.now) c.args.listed c.args.mark c.args.spot.place c.args.to
    c.args.tag c.stop_at_mark.result c.stop_at_line.result view.whole_lines.ordered
    c.requires.tag c.requires.mark c.stop_at_mark.ensures
    c.stop_at_line.ensures.stop c.stop_at_line.ensures.above c.stop_at_line.ensures.below c.requires.upto

pub returns-clause-before : goal.returns-clause-before
returns-clause-before g c = omega (
  arith,
  c.stop_at_line.ensures.below,
  stop-within c.args.tag c.stop_at_mark.result c.args.mark c.stop_at_mark.ensures,
)
