use Rattle.line_lists.proofs.Common.{◌∙◌, sym, arith}
use Rattle.line_lists.proofs.NewlineRows.{line_of-end, line_of-located}
use Rattle.line_lists.proofs.PlaceRows.{length-content}
use Rattle.line_lists.proofs.queries.line_of.Goals as goal

-- src/queries.rt:69:9
pub returns-then-offset-len : goal.returns-then-offset-len
returns-then-offset-len g c =
    let list = c.args.list.now in
    c.len-then-offset-len.ensures
    ∙ sym (line_of-end (g.L.LineList.lines list) c.args.offset (g.L.LineList.are_lines list).rows
    (c.if-offset-len.true ∙ c.len.ensures))

-- src/queries.rt:71:5
pub locate-requires : goal.locate-requires
locate-requires g c =
    omega (arith, c.requires, c.if-offset-len.false, c.len.ensures, length-content (g.L.LineList.lines c.args.list.now))

-- src/queries.rt:64:1
pub returns : goal.returns
returns g c =
    let list = c.args.list.now in
    sym (line_of-located (g.L.LineList.lines list) c.args.offset c.locate.result.0 c.locate.result.1
    (g.L.LineList.are_lines list).rows c.locate.ensures)
