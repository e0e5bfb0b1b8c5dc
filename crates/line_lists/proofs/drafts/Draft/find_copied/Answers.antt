use Rattle.line_lists.proofs.Common.{arith}
use Rattle.line_lists.proofs.CountRows.{count-lines}
use Rattle.line_lists.proofs.StandLaws.{copied-none, kept-found, kept-nowhere, stands-copied}
use Rattle.line_lists.proofs.drafts.Draft.find_copied.Goals as goal

pub overflow_add-to : goal.overflow_add-to
overflow_add-to g c =
    let lines = g.L.LineList.lines c.args.self.now.list.now in
    let few = (g.L.LineList.are_lines c.args.self.now.list.now).counted.lines in
    omega (arith, few, count-lines lines, c.requires.follows.there)

pub returns-in_default-clause-some : goal.returns-in_default-clause-some
returns-in_default-clause-some g c =
    let lines = g.L.LineList.lines c.args.self.now.list.now in
    kept-found c.args.number.0 c.args.reached.now c.args.copy.now lines c.find_kept.result c.find_kept.ensures.some

pub returns-in_default-clause-none : goal.returns-in_default-clause-none
returns-in_default-clause-none g c =
    let lines = g.L.LineList.lines c.args.self.now.list.now in
    λ none. copied-none c.args.number.0 c.args.reached.now c.args.copy.now lines
    (c.mark_column.ensures.none c.in_default.is)
    (kept-nowhere c.args.number.0 c.args.reached.now c.args.copy.now lines (c.find_kept.ensures.none none))

pub span-requires : goal.span-requires
span-requires g c = omega (arith, c.requires.follows.there)

pub overflow_add-result : goal.overflow_add-result
overflow_add-result g c =
    omega (arith, c.span.ensures, c.requires.follows.counted, c.in-Some.ensures.inside)

pub returns-clause-some : goal.returns-clause-some
returns-clause-some g c =
    stands-copied c.args.number.0 c.in-Some.column c.span.result c.args.reached.now c.args.copy.now
    (g.L.LineList.lines c.args.self.now.list.now) c.span.ensures c.in-Some.ensures.some
