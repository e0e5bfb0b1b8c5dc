use Rattle.line_lists.proofs.Common.{◌∙◌, sym, arith}
use Rattle.line_lists.proofs.NewlineRows.{newlines-content, start-content}
use Rattle.line_lists.proofs.PlaceRows.{length-content, length-front}
use Rattle.line_lists.proofs.queries.line_start.Goals as goal

pub start-requires : goal.start-requires
start-requires g c =
    let list = c.args.list.now in
    omega (arith, c.requires, newlines-content (g.L.LineList.lines list) (g.L.LineList.are_lines list).rows)

pub returns-clause-value : goal.returns-clause-value
returns-clause-value g c =
    let list = c.args.list.now in let rows = (g.L.LineList.are_lines list).rows in
    c.start.ensures ∙ sym (start-content (g.L.LineList.lines list) c.args.line rows
    (omega (arith, c.requires, newlines-content (g.L.LineList.lines list) rows)))

pub returns-clause-bound : goal.returns-clause-bound
returns-clause-bound g c =
    let list = g.L.LineList.lines c.args.list.now in
    omega (arith, c.start.ensures, length-front list c.args.line, length-content list)
