use Rattle.line_lists.proofs.Common.{◌<◌, ◌∙◌, ap, sym, suc, arith, length, add-one, content_of}
use Rattle.text_model.specs.Content.{characters}
use Rattle.text_model.specs.Lines.{line_start}
use Rattle.line_lists.proofs.CountRows.{count-characters}
use Rattle.line_lists.proofs.LineStarts.{start-behind, start-most}
use Rattle.line_lists.proofs.NewlineRows.{newlines-content, start-content}
use Rattle.line_lists.proofs.PlaceRows.{length-content}
use Rattle.line_lists.proofs.queries.line_bounds.Goals as goal

pub placed_line-start-requires : goal.placed_line-start-requires
placed_line-start-requires g c =
    let list = g.L.LineList.lines c.args.list.now in
    omega (arith, c.requires, newlines-content list (g.L.LineList.are_lines c.args.list.now).rows)

pub overflow_add-result : goal.overflow_add-result
overflow_add-result g c =
    let list = g.L.LineList.lines c.args.list.now in
    let within : c.args.line < length list = omega (
      arith,
      c.requires,
      newlines-content list (g.L.LineList.are_lines c.args.list.now).rows,
    ) in
    omega (
      arith,
      start-behind list c.args.line c.placed_line-start.result.0 c.len.result c.placed_line-start.result.1.now within
          c.placed_line-start.ensures.start c.placed_line-start.ensures.line c.len.ensures,
      start-most list (suc c.args.line) within,
      (g.L.LineList.are_lines c.args.list.now).counted.characters,
      count-characters list,
    )

pub returns-clause-start : goal.returns-clause-start
returns-clause-start g c =
    let list = g.L.LineList.lines c.args.list.now in
    let rows = (g.L.LineList.are_lines c.args.list.now).rows in
    c.placed_line-start.ensures.start
    ∙ sym (start-content list c.args.line rows (omega (arith, c.requires, newlines-content list rows)))

pub returns-clause-end : goal.returns-clause-end
returns-clause-end g c =
    let list = g.L.LineList.lines c.args.list.now in
    let rows = (g.L.LineList.are_lines c.args.list.now).rows in
    let within : c.args.line < length list = omega (arith, c.requires, newlines-content list rows) in
    start-behind list c.args.line c.placed_line-start.result.0 c.len.result c.placed_line-start.result.1.now within
    c.placed_line-start.ensures.start c.placed_line-start.ensures.line c.len.ensures
    ∙ sym (start-content list (suc c.args.line) rows within)
    ∙ ap (λ k. line_start k (characters (content_of list).cells)) (sym (add-one c.args.line))

pub returns-clause-bound : goal.returns-clause-bound
returns-clause-bound g c =
    let list = g.L.LineList.lines c.args.list.now in
    let within : c.args.line < length list = omega (
      arith,
      c.requires,
      newlines-content list (g.L.LineList.are_lines c.args.list.now).rows,
    ) in
    omega (
      arith,
      start-behind list c.args.line c.placed_line-start.result.0 c.len.result c.placed_line-start.result.1.now within
          c.placed_line-start.ensures.start c.placed_line-start.ensures.line c.len.ensures,
      start-most list (suc c.args.line) within,
      length-content list,
    )
