use Rattle.line_lists.proofs.Common.{arith}
use Rattle.line_lists.proofs.CountRows.{count-lines}
use Rattle.line_lists.proofs.DraftLaws.{reached-more}
use Rattle.line_lists.proofs.drafts.Reached.with.Goals as goal

pub overflow_add-result : goal.overflow_add-result
overflow_add-result g c =
    let lines = g.L.LineList.lines c.args.list.now in
    let few = (g.L.LineList.are_lines c.args.list.now).counted.lines in
    omega (arith, few, count-lines lines, c.requires.there)

pub overflow_add-result-2 : goal.overflow_add-result-2
overflow_add-result-2 g c =
    let lines = g.L.LineList.lines c.args.list.now in
    let few = (g.L.LineList.are_lines c.args.list.now).counted.lines in
    omega (arith, few, count-lines lines, c.requires.there)

pub returns : goal.returns
returns g c = λ copies so_far.
    let lines = g.L.LineList.lines c.args.list.now in
    reached-more c.args.self.now _ copies c.args.copy.now lines so_far
    (omega arith)
    (omega (arith, c.span.ensures, c.len.ensures))
