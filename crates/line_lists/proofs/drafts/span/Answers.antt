use Rattle.line_lists.proofs.Common.{length, take, drop, sym, ap, arith, whole}
use Rattle.line_lists.proofs.CountRows.{count-lines}
use Rattle.line_lists.proofs.FindLaws.{begin-more}
use Rattle.line_lists.proofs.drafts.span.Goals as goal

pub returns-then-count-eq0 : goal.returns-then-count-eq0
returns-then-count-eq0 g c =
    let lines = g.L.LineList.lines c.args.list.now in
    sym (ap (λ n. length (whole (take n (drop c.args.from lines))).columns) c.if-count-eq0.true)

pub overflow_add-from : goal.overflow_add-from
overflow_add-from g c =
    let lines = g.L.LineList.lines c.args.list.now in
    let few = (g.L.LineList.are_lines c.args.list.now).counted.lines in
    omega (arith, few, count-lines lines, c.requires)

pub overflow_sub-result : goal.overflow_sub-result
overflow_sub-result g c =
    omega (
      arith,
      c.start.ensures,
      c.start-2.ensures,
      begin-more (g.L.LineList.lines c.args.list.now) c.args.from c.args.count,
    )

pub returns : goal.returns
returns g c =
    omega (
      arith,
      c.start.ensures,
      c.start-2.ensures,
      begin-more (g.L.LineList.lines c.args.list.now) c.args.from c.args.count,
    )
