use Rattle.search_dump.proofs.Common.{part_of, ◌+◌, ap, ◌∙◌, arith, line_start, shown, length-shown}
use Rattle.search_dump.proofs.LineStops.{earlier-one, line-stop, view-line}
use Rattle.search_dump.proofs.dumping.stop_at_line.Goals as goal

pub returns-clause-above : goal.returns-clause-above
returns-clause-above g c =
    let view = c.args.view.now in
    let text = shown (part_of view) in
    let line = c.requires.spot.line in
    let above = (line-stop text c.args.spot.place c.args.to c.args.spot.line.end c.min.result
    (omega (arith, length-shown (part_of view) view.whole_lines))
    (view-line (part_of view) c.args.spot.place view.whole_lines (omega arith))
    (line.end ∙ ap (λ k. line_start (k + 1) text) line.number)).0 in
    omega arith

pub returns-clause-stop : goal.returns-clause-stop
returns-clause-stop g c = λ _.
    let view = c.args.view.now in
    let text = shown (part_of view) in
    let line = c.requires.spot.line in
    (line-stop text c.args.spot.place c.args.to c.args.spot.line.end c.min.result
    (omega (arith, length-shown (part_of view) view.whole_lines))
    (view-line (part_of view) c.args.spot.place view.whole_lines (omega arith))
    (line.end ∙ ap (λ k. line_start (k + 1) text) line.number)).1
    (earlier-one c.args.to c.args.spot.line.end c.min.result c.min.ensures) (omega arith) (omega arith)
