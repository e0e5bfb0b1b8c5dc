use Rattle.line_lists.proofs.Common.{arith, has_mark}
use Rattle.line_lists.proofs.CountRows.{count-characters}
use Rattle.line_lists.proofs.MarkPlaces.{mark-nowhere}
use Rattle.line_lists.proofs.SearchRows.{next-none}
use Rattle.line_lists.proofs.StandLaws.{kept-counted, kept-there, line-some, stands-listed}
use Rattle.line_lists.proofs.drafts.Draft.find_listed.Goals as goal

pub returns-in_err-start-clause-none : goal.returns-in_err-start-clause-none
returns-in_err-start-clause-none g c =
    let lines = g.L.LineList.lines c.args.self.now.list.now in
    λ _. mark-nowhere lines c.args.number.0 (next-none (has_mark c.args.number.0) 0 lines
    (c.marked_line.ensures.none c.in_err-start.was))

pub mark_column-requires : goal.mark_column-requires
mark_column-requires g c =
    let lines = g.L.LineList.lines c.args.self.now.list.now in
    let marked = c.in_ok-start.ensures.some in
    line-some lines marked.index c.in_ok-start.line.now (g.L.LineList.are_lines c.args.self.now.list.now).rows
    marked.there

pub returns-in_err-column-clause-none : goal.returns-in_err-column-clause-none
returns-in_err-column-clause-none g c =
    let lines = g.L.LineList.lines c.args.self.now.list.now in
    let marked = c.in_ok-start.ensures.some in
    λ _. absurd (kept-there c.args.number.0 marked.index lines c.in_ok-start.line.now marked.first marked.there
    (c.mark_column.ensures.none c.in_err-column.was))

pub overflow_add-result : goal.overflow_add-result
overflow_add-result g c =
    let lines = g.L.LineList.lines c.args.self.now.list.now in
    let marked = c.in_ok-start.ensures.some in
    omega (
      arith,
      (g.L.LineList.are_lines c.args.self.now.list.now).counted.characters,
      count-characters lines,
      marked.starts,
      kept-counted lines marked.index c.in_ok-column.column c.in_ok-start.line.now marked.there
          c.in_ok-column.ensures.inside,
    )

pub returns-clause-some : goal.returns-clause-some
returns-clause-some g c =
    stands-listed c.args.number.0 c.in_ok-start.start c.in_ok-column.column
    (g.L.LineList.lines c.args.self.now.list.now) c.in_ok-start.line.now c.in_ok-start.ensures.some
    c.in_ok-column.ensures.some
