use Rattle.line_lists.proofs.Common.{◌+◌, ◌-◌, subst, ap, arith, IfSome, IsSeen}
use Rattle.line_lists.proofs.CountRows.{count-characters}
use Rattle.line_lists.proofs.FindLaws.{found, seen-holds}
use Rattle.line_lists.proofs.drafts.Draft.find_line.Goals as goal

pub overflow_add-place : goal.overflow_add-place
overflow_add-place g c =
    let lines = g.L.LineList.lines c.args.self.now.list.now in
    let all = (g.L.LineList.are_lines c.args.self.now.list.now).counted.characters in
    let before = c.list_start-before.ensures in
    omega (arith, all, before, count-characters lines, c.requires.within)

pub returns-then-place-seen-clause-place : goal.returns-then-place-seen-clause-place
returns-then-place-seen-clause-place g c =
    let lines = g.L.LineList.lines c.args.self.now.list.now in
    let place = c.args.offset - c.args.reached.now.characters + c.list_start-before.result in
    let seen = c.in-Some.seen in
    let is = subst (λ found. IfSome found (IsSeen lines)) c.in-Some.is c.args.self.now.shown in
    found c.args.reached.now lines c.args.offset place _ _ c.requires.behind
    (ap (λ n. (c.args.offset - c.args.reached.now.characters) + n) c.list_start-before.ensures)
    (seen-holds lines seen place is (omega (arith, c.if-seen-place.true))
    (omega (arith, c.len.ensures, c.if-place-seen.true)))

pub returns-clause-place : goal.returns-clause-place
returns-clause-place g c =
    let lines = g.L.LineList.lines c.args.self.now.list.now in
    let before = c.list_start-before.ensures in
    found c.args.reached.now lines c.args.offset _ _ _ c.requires.behind
    (ap (λ n. (c.args.offset - c.args.reached.now.characters) + n) before) c.line_at-index.ensures.place
