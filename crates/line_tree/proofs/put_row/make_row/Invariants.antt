use Rattle.line_tree.proofs.Common.{◌≡◌, ◌+◌, ◌≤◌, [], length, reverse, take, drop, vec_capacity, contents, nodes}
use Rattle.line_tree.proofs.Common.{records, rooms, spares, lines_of, Becomes, trees_at}
use Rattle.line_tree.proofs.put_row.make_row.Given as goal

abbrev pub invariant-loop-lines : goal.invariant-loop-lines
invariant-loop-lines g l = record {
  rest : l.rest ≤ length l.lines.items;
  within : length l.lines.items ≤ length l.fn.lines.items;
  left : l.lines.items ≡ take (length l.lines.items) l.fn.lines.items;
  row : Becomes (records l.fn.store) (records l.store) [] 0 (trees_at (records l.store) 0 (reverse l.row.items));
  lines : contents (lines_of 0 (trees_at (records l.store) 0 (reverse l.row.items)))
      ≡ drop (length l.lines.items) l.fn.lines.items;
  count : length l.lines.items + length l.row.items ≡ length l.fn.lines.items;
  spares : spares l.store + length l.row.items ≡ spares l.fn.store;
  rooms : rooms l.store ≡ rooms l.fn.store;
  nodes : nodes l.store ≡ nodes l.fn.store;
  names : vec_capacity l.row ≡ vec_capacity l.fn.row;
}

abbrev pub decreases-loop-lines : goal.decreases-loop-lines
decreases-loop-lines g l = length l.lines.items
