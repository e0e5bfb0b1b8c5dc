use Rattle.line_lists.proofs.Common.{◌<◌, arith, subst, long, run_end-le, content_of}
use Rattle.text_model.specs.Content.{characters}
use Rattle.line_lists.proofs.PlaceRows.{inside, length-content, length-counted}
use Rattle.line_lists.proofs.RunRows.{run-end}
use Rattle.line_lists.proofs.queries.run_end.Goals as goal

pub line_at-column-requires : goal.line_at-column-requires
line_at-column-requires g c =
    subst (λ n. c.args.offset < n) (length-content (g.L.LineList.lines c.args.list.now)) c.requires

pub returns-clause-value : goal.returns-clause-value
returns-clause-value g c =
    let list = g.L.LineList.lines c.args.list.now in
    let k = c.line_at-column.result.0 in
    let column = c.line_at-column.result.1 in
    let line = c.line_at-column.result.2.now in
    let holds = c.line_at-column.ensures.place in
    let is = c.line_at-column.ensures.line in
    run-end g.T.CharacterTest.test list c.args.offset k column c.run_end.result line
    g.met.T.CharacterTest.stops_at_newline (g.L.LineList.are_lines c.args.list.now).rows holds.behind
    (inside list c.args.offset k column line holds is) is c.run_end.ensures.value

pub returns-clause-bound : goal.returns-clause-bound
returns-clause-bound g c =
    let cells = (content_of (g.L.LineList.lines c.args.list.now)).cells in
    omega (
      arith,
      returns-clause-value g c,
      run_end-le g.T.CharacterTest.test (characters cells) c.args.offset (omega (arith, long cells, c.requires)),
      long cells,
    )

pub overflow_add-result : goal.overflow_add-result
overflow_add-result g c =
    omega (
      arith,
      returns-clause-bound g c,
      (g.L.LineList.are_lines c.args.list.now).counted.characters,
      length-counted (g.L.LineList.lines c.args.list.now),
    )
