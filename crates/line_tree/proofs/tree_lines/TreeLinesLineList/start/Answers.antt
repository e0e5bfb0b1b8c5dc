use Rattle.line_tree.proofs.Common.{◌≡◌, ◌+◌, ◌∙◌, ap, subst, arith, length, take, whole, contents, IfSome, IsThere}
use Rattle.line_tree.proofs.Common.{count-lines}
use Rattle.line_tree.proofs.OverLaws.{last-ends, last-within}
use Rattle.line_tree.proofs.tree_lines.TreeLinesLineList.start.Goals.{In-Some}
use Rattle.line_tree.proofs.tree_lines.TreeLinesLineList.start.Goals as goal

there : (c : In-Some) → IsThere c.args.self.now.tree.lines c.in-Some.last
there c = subst (λ last. IfSome last (IsThere c.args.self.now.tree.lines)) c.in-Some.is c.args.self.now.remembered

pub overflow_add-last : goal.overflow_add-last
overflow_add-last c =
    let lines = c.args.self.now.tree.lines in
    let within = last-within lines c.in-Some.last (there (goal.at.overflow_add-last c).In-Some) in
    omega (arith, within, c.args.self.now.are_lines.counted.lines, count-lines (contents lines))

pub returns-in-Some : goal.returns-in-Some
returns-in-Some c =
    let lines = c.args.self.now.tree.lines in
    let next : c.in-Some.last.index + 1 ≡ c.args.line = omega (arith, c.if-last-line.true) in
    last-ends lines c.in-Some.last (there (goal.at.returns-in-Some c).In-Some)
    ∙ ap (λ k. length (whole (take k (contents lines))).columns) next
