use Rattle.line_tree.proofs.Common.{subst, arith, contents, ◌-◌, IfSome, IsThere}
use Rattle.line_tree.proofs.ListedLaws.{characters-in, place-holds}
use Rattle.line_tree.proofs.OverLaws.{last-holds, placed-fits, placed-there}
use Rattle.line_tree.proofs.tree_lines.TreeLinesLineList.seek.Goals.{In-Some, After-locate_line-found}
use Rattle.line_lists.specs.Lists.{Holds}
use Rattle.line_tree.proofs.tree_lines.TreeLinesLineList.seek.Goals as goal

there : (c : In-Some) → IsThere c.args.self.now.tree.lines c.in-Some.last
there c = subst (λ last. IfSome last (IsThere c.args.self.now.tree.lines)) c.in-Some.is c.args.self.now.remembered

holds : (c : After-locate_line-found) → Holds (contents c.args.self.now.tree.lines) c.args.offset
    c.locate_line-found.result.line c.locate_line-found.result.column
holds c = place-holds c.args.self.now.tree.lines c.args.offset c.locate_line-found.result.line
    c.locate_line-found.result.column c.locate_line-found.ensures.place

pub returns-then-offset-last-clause-place : goal.returns-then-offset-last-clause-place
returns-then-offset-last-clause-place c =
    let is = there (goal.at.returns-then-offset-last-clause-place c).In-Some in
    last-holds c.args.self.now.tree.lines c.in-Some.last c.args.offset is
    (omega (arith, c.if-last-offset.true)) (omega (arith, c.if-offset-last.true))

pub locate_line-found-requires : goal.locate_line-found-requires
locate_line-found-requires c = let all = characters-in c.args.self.now.tree.lines in let within = c.requires in
    omega (arith, all, within)

pub overflow_sub-start : goal.overflow_sub-start
overflow_sub-start c =
    let at = holds (goal.at.overflow_sub-start c).After-locate_line-found in omega (arith, at.behind)

pub line-requires : goal.line-requires
line-requires c = (c.locate_line-found.result.line, c.locate_line-found.ensures.name)

pub overflow_add-self : goal.overflow_add-self
overflow_add-self c =
    let at = holds (goal.at.overflow_add-self c).After-locate_line-found in
    omega (
      arith,
      placed-fits c.args.self.now.tree.lines c.locate_line-found.result.line
          (c.args.offset - c.locate_line-found.result.column) c.locate_line-found.result.name c.line.result.now
          c.args.self.now.are_lines (omega (arith, at.behind))
          (c.line.ensures c.locate_line-found.result.line c.locate_line-found.ensures.name),
      c.len.ensures,
    )

pub invariant_of-self : goal.invariant_of-self
invariant_of-self c =
    let at = holds (goal.at.invariant_of-self c).After-locate_line-found in
    record {
      are_lines = c.args.self.now.are_lines;
      table = c.args.self.now.table;
      remembered = placed-there c.args.self.now.tree.lines c.locate_line-found.result.line
          (c.args.offset - c.locate_line-found.result.column) c.len.result c.locate_line-found.result.name
          c.line.result.now (omega (arith, at.behind))
          (c.line.ensures c.locate_line-found.result.line c.locate_line-found.ensures.name) c.len.ensures;
    }

pub returns-clause-place : goal.returns-clause-place
returns-clause-place c = holds (goal.at.returns-clause-place c).After-locate_line-found
