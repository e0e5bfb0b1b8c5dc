use Rattle.line_tree.proofs.Common.{subst, arith, IfSome, IsThere}
use Rattle.line_tree.proofs.ListedLaws.{characters-in, listed, place-holds}
use Rattle.line_tree.proofs.OverLaws.{last-holds}
use Rattle.line_tree.proofs.tree_lines.TreeLinesLineList.line_at.Goals.{In-Some}
use Rattle.line_tree.proofs.tree_lines.TreeLinesLineList.line_at.Goals as goal

there : (c : In-Some) → IsThere c.args.self.now.tree.lines c.in-Some.last
there c = subst (λ last. IfSome last (IsThere c.args.self.now.tree.lines)) c.in-Some.is c.args.self.now.remembered

pub line-requires : goal.line-requires
line-requires c = (c.in-Some.last.index, (there (goal.at.line-requires c).In-Some).name)

pub returns-then-offset-last-clause-place : goal.returns-then-offset-last-clause-place
returns-then-offset-last-clause-place c =
    let is = there (goal.at.returns-then-offset-last-clause-place c).In-Some in
    last-holds c.args.self.now.tree.lines c.in-Some.last c.args.offset is (omega (arith, c.if-last-offset.true))
    (omega (arith, c.if-offset-last.true))

pub returns-then-offset-last-clause-line : goal.returns-then-offset-last-clause-line
returns-then-offset-last-clause-line c =
    let is = there (goal.at.returns-then-offset-last-clause-line c).In-Some in
    listed c.args.self.now.tree.lines c.in-Some.last.index c.in-Some.last.name c.line.result.now
    (c.line.ensures c.in-Some.last.index is.name)

pub locate_line-found-requires : goal.locate_line-found-requires
locate_line-found-requires c = let all = characters-in c.args.self.now.tree.lines in let within = c.requires in
    omega (arith, all, within)

pub line-requires-2 : goal.line-requires-2
line-requires-2 c = (c.locate_line-found.result.line, c.locate_line-found.ensures.name)

pub returns-clause-place : goal.returns-clause-place
returns-clause-place c = let found = c.locate_line-found in
    place-holds c.args.self.now.tree.lines c.args.offset found.result.line found.result.column found.ensures.place

pub returns-clause-line : goal.returns-clause-line
returns-clause-line c = let ls = c.args.self.now.tree.lines in let k = c.locate_line-found.result.line in
    listed ls k c.locate_line-found.result.name c.line-2.result.now (c.line-2.ensures k c.locate_line-found.ensures.name)
