use Rattle.line_lists.proofs.Common.{◌+◌, subst, ap, arith, IfSome, IsSeen}
use Rattle.line_lists.proofs.CountRows.{count-characters, count-lines}
use Rattle.line_lists.proofs.FindLaws.{begin, begin-le, seen-next}
use Rattle.line_lists.proofs.drafts.Draft.list_start.Goals as goal

pub overflow_add-seen : goal.overflow_add-seen
overflow_add-seen g c =
    let lines = g.L.LineList.lines c.args.self.now.list.now in
    let few = (g.L.LineList.are_lines c.args.self.now.list.now).counted.lines in
    let is = subst (λ found. IfSome found (IsSeen lines)) c.in-Some.is c.args.self.now.shown in
    omega (arith, few, count-lines lines, (seen-next lines c.in-Some.seen is).0)

pub overflow_add-result : goal.overflow_add-result
overflow_add-result g c =
    let lines = g.L.LineList.lines c.args.self.now.list.now in
    let few = (g.L.LineList.are_lines c.args.self.now.list.now).counted.characters in
    let seen = c.in-Some.seen in
    let is = subst (λ found. IfSome found (IsSeen lines)) c.in-Some.is c.args.self.now.shown in
    omega (
      arith,
      few,
      count-characters lines,
      begin-le lines (seen.index + 1),
      (seen-next lines seen is).1,
      c.len.ensures,
    )

pub returns-then-line-seen-2 : goal.returns-then-line-seen-2
returns-then-line-seen-2 g c =
    let lines = g.L.LineList.lines c.args.self.now.list.now in
    let is = subst (λ found. IfSome found (IsSeen lines)) c.in-Some.is c.args.self.now.shown in
    omega (
      arith,
      c.len.ensures,
      (seen-next lines c.in-Some.seen is).1,
      ap (begin lines) c.if-line-seen-2.true,
    )
