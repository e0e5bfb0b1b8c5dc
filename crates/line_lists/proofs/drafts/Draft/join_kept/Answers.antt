use Rattle.line_lists.proofs.Common.{◌≡◌, ◌+◌, ap, sym, ◌∙◌, arith, slice_get, joined, covered}
use Rattle.line_lists.proofs.CountRows.{count-lines}
use Rattle.line_lists.proofs.JoinLaws.{first-line}
use Rattle.line_lists.proofs.drafts.Draft.join_kept.Goals as goal

pub overflow_add-index : goal.overflow_add-index
overflow_add-index g c =
    let lines = g.L.LineList.lines c.args.self.now.list.now in
    let few = (g.L.LineList.are_lines c.args.self.now.list.now).counted.lines in
    omega (arith, few, count-lines lines, c.requires)

pub overflow_add-index-2 : goal.overflow_add-index-2
overflow_add-index-2 g c =
    let lines = g.L.LineList.lines c.args.self.now.list.now in
    let few = (g.L.LineList.are_lines c.args.self.now.list.now).counted.lines in
    omega (arith, few, count-lines lines, c.requires)

pub overflow_add-stop : goal.overflow_add-stop
overflow_add-stop g c =
    let lines = g.L.LineList.lines c.args.self.now.list.now in
    let few = (g.L.LineList.are_lines c.args.self.now.list.now).counted.lines in
    omega (arith, few, count-lines lines, c.requires)

pub returns-clause-line : goal.returns-clause-line
returns-clause-line g c =
    let lines = g.L.LineList.lines c.args.self.now.list.now in
    let stop = c.args.stop.now in
    let index : stop.reached.used + stop.copy.kept + stop.copy.gone
    ≡ stop.reached.used + covered stop.copy = omega arith in
    c.in_ok-join_copy.ensures.new
    ∙ ap (joined stop.copy.line)
    (sym (first-line lines (stop.reached.used + covered stop.copy) c.line.result.now
    (ap (slice_get lines) (sym index) ∙ c.line.ensures)))
