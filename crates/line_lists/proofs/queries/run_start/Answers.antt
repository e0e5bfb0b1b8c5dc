use Rattle.line_lists.proofs.Common.{◌≤◌, arith, length, whole}
use Rattle.line_lists.proofs.LineStarts.{at-within, lent-length}
use Rattle.line_lists.proofs.PlaceRows.{length-content}
use Rattle.line_lists.proofs.RunRows.{run-start}
use Rattle.line_lists.proofs.queries.run_start.Goals as goal

pub run_start-requires : goal.run_start-requires
run_start-requires g c =
    let list = g.L.LineList.lines c.args.list.now in
    let k = c.place_of-column.result.0 in
    let within : c.args.offset ≤ length (whole list).columns = omega (arith, c.requires, length-content list) in
    omega (
      arith,
      at-within list c.args.offset k c.place_of-column.result.1 c.place_of-column.ensures.place within,
      lent-length list k c.place_of-column.result.2.now c.place_of-column.ensures.line,
    )

pub returns-clause-value : goal.returns-clause-value
returns-clause-value g c =
    let list = g.L.LineList.lines c.args.list.now in
    let k = c.place_of-column.result.0 in
    let column = c.place_of-column.result.1 in
    let line = c.place_of-column.result.2.now in
    let within : c.args.offset ≤ length (whole list).columns = omega (arith, c.requires, length-content list) in
    let inside : column ≤ length line.columns = omega (
      arith,
      at-within list c.args.offset k column c.place_of-column.ensures.place within,
      lent-length list k line c.place_of-column.ensures.line,
    ) in
    run-start g.T.CharacterTest.test list c.args.offset k column c.run_start.result line
    g.met.T.CharacterTest.stops_at_newline (g.L.LineList.are_lines c.args.list.now).rows
    c.place_of-column.ensures.place.behind inside c.place_of-column.ensures.line c.run_start.ensures.value
    c.run_start.ensures.bound
