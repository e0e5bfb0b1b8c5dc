use Rattle.line_lists.proofs.Common.{◌-◌, ◌≤◌, ap, arith}
use Rattle.line_lists.proofs.LineStarts.{at-end, at-held}
use Rattle.line_lists.proofs.PlaceRows.{length-content, length-front}
use Rattle.line_lists.proofs.queries.place_of.Goals as goal

pub line_at-requires : goal.line_at-requires
line_at-requires g c =
    omega (arith, c.if-offset-len.true, c.len.ensures, length-content (g.L.LineList.lines c.args.list.now))

pub overflow_sub-result : goal.overflow_sub-result
overflow_sub-result g c =
    let list = g.L.LineList.lines c.args.list.now in
    omega (
      arith,
      c.placed_line-start.ensures.start,
      length-front list (c.len-last.result - 1),
      length-content list,
      c.len.ensures,
      c.if-offset-len.false,
    )

pub returns-then-offset-len : goal.returns-then-offset-len
returns-then-offset-len g c =
    record {
      place = at-held (g.L.LineList.lines c.args.list.now) c.args.offset c.line_at.result.0 c.line_at.result.1
          c.line_at.ensures.place;
      line = c.line_at.ensures.line;
    }

pub returns : goal.returns
returns g c =
    let list = g.L.LineList.lines c.args.list.now in
    let last = c.len-last.result - 1 in
    let starts : c.placed_line-start.result.0 ≤ c.args.offset = omega (
      arith,
      c.placed_line-start.ensures.start,
      length-front list last,
      length-content list,
      c.len.ensures,
      c.if-offset-len.false,
    ) in
    record {
      place = at-end list c.args.offset last c.placed_line-start.result.0 (g.L.LineList.are_lines c.args.list.now).some
          (ap (λ n. n - 1) c.len-last.ensures) c.placed_line-start.ensures.start starts;
      line = c.placed_line-start.ensures.line;
    }
