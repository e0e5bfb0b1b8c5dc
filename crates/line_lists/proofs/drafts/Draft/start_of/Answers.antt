use Rattle.line_lists.proofs.Common.{arith}
use Rattle.line_lists.proofs.CountRows.{count-lines}
use Rattle.line_lists.proofs.FindLaws.{begin-more}
use Rattle.line_lists.proofs.drafts.Draft.start_of.Goals as goal

pub overflow_add-reached : goal.overflow_add-reached
overflow_add-reached g c =
    let lines = g.L.LineList.lines c.args.self.now.list.now in
    let few = (g.L.LineList.are_lines c.args.self.now.list.now).counted.lines in
    omega (arith, few, count-lines lines, c.requires.there)

pub overflow_sub-result : goal.overflow_sub-result
overflow_sub-result g c =
    omega (
      arith,
      c.list_start-first.ensures,
      c.list_start.ensures,
      begin-more (g.L.LineList.lines c.args.self.now.list.now) c.args.reached.now.used c.args.copy.now.kept,
    )

pub overflow_add-result : goal.overflow_add-result
overflow_add-result g c =
    omega (
      arith,
      c.requires.counted,
      c.list_start-first.ensures,
      c.list_start.ensures,
      begin-more (g.L.LineList.lines c.args.self.now.list.now) c.args.reached.now.used c.args.copy.now.kept,
    )

pub returns : goal.returns
returns g c =
    omega (
      arith,
      c.list_start-first.ensures,
      c.list_start.ensures,
      begin-more (g.L.LineList.lines c.args.self.now.list.now) c.args.reached.now.used c.args.copy.now.kept,
    )
