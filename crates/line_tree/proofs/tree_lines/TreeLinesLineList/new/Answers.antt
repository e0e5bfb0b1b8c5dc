use Rattle.line_tree.proofs.ListedLaws.{new-are, new-table}
use Rattle.line_tree.proofs.tree_lines.TreeLinesLineList.new.Goals as goal

pub invariant_of-result : goal.invariant_of-result
invariant_of-result c = let ls = c.in_ok-new.field-0.lines in let is = c.in_ok-new.ensures in record {
  are_lines = new-are ls is.0 is.1;
  table = new-table c.new-2.result.items ls is.0 c.new-2.ensures.items is.1;
  remembered = tt;
}
