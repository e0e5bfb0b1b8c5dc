use Rattle.line_tree.proofs.Common.{◌≡◌, ◌++◌, take, vec_capacity}
use Rattle.line_tree.proofs.raise.push_all.Given as goal

abbrev pub invariant-loop-i : goal.invariant-loop-i
invariant-loop-i l = record {
  list : l.list.items ≡ l.fn.list.items ++ take l.i l.names;
  names : vec_capacity l.list ≡ vec_capacity l.fn.list;
}
