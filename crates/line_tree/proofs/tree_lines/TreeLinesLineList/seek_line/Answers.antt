use Rattle.line_tree.proofs.Common.{arith}
use Rattle.line_tree.proofs.OverLaws.{placed-fits, placed-there}
use Rattle.line_tree.proofs.tree_lines.TreeLinesLineList.seek_line.Goals as goal

pub overflow_add-self : goal.overflow_add-self
overflow_add-self c =
    omega (
      arith,
      placed-fits c.args.self.now.tree.lines c.args.index c.place-start.result.start c.place-start.result.name
          c.line.result.now c.args.self.now.are_lines c.place-start.ensures.start
          (c.line.ensures c.args.index c.place-start.ensures.name),
      c.len-then-index-len.ensures,
    )

pub invariant_of-self : goal.invariant_of-self
invariant_of-self c = record {
  are_lines = c.args.self.now.are_lines;
  table = c.args.self.now.table;
  remembered = placed-there c.args.self.now.tree.lines c.args.index c.place-start.result.start
      c.len-then-index-len.result c.place-start.result.name c.line.result.now c.place-start.ensures.start
      (c.line.ensures c.args.index c.place-start.ensures.name) c.len-then-index-len.ensures;
}
