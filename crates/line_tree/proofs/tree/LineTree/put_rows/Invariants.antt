use Rattle.line_tree.proofs.Common.{◌≡◌, ◌+◌, ◌-◌, ◌<◌, ◌≤◌, List, length, take, drop, with_lines, nodes_above, Named}
use Rattle.line_tree.proofs.Common.{contents}
use Rattle.line_tree.proofs.tree.LineTree.put_rows.Given as goal

abbrev pub invariant-loop-lines : goal.invariant-loop-lines
invariant-loop-lines g l = record {
  rest : l.rest ≤ length l.lines.items;
  within : length l.lines.items ≤ length l.fn.lines.items;
  left : l.lines.items ≡ take (length l.lines.items) l.fn.lines.items;
  lines : (added : List Named) × (contents added ≡ drop (length l.lines.items) l.fn.lines.items)
      × (l.self.lines ≡ with_lines l.fn.self.lines l.k added);
  nodes : l.self.nodes ≡ l.fn.self.nodes;
  names : l.self.row_room ≡ l.fn.self.row_room;
  some : l.rest < length l.lines.items → l.fn.self.rooms + nodes_above l.fn.self (length l.lines.items - l.rest)
      ≤ l.self.rooms + nodes_above l.fn.self (length l.fn.lines.items - l.rest);
  all : l.fn.self.rooms ≤ l.self.rooms + nodes_above l.fn.self (length l.fn.lines.items - l.rest);
  rooms : l.self.rooms + l.fn.self.spares + length l.lines.items
      ≡ l.fn.self.rooms + l.self.spares + length l.fn.lines.items;
}

abbrev pub decreases-loop-lines : goal.decreases-loop-lines
decreases-loop-lines g l = length l.lines.items
