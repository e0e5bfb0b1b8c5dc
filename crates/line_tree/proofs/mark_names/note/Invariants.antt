use Rattle.line_tree.proofs.Common.{◌≡◌, ◌-◌, ◌≤◌, vec_len, IsTable, lines_without}
use Rattle.line_tree.proofs.mark_names.note.Given as goal

abbrev pub invariant-loop-index : goal.invariant-loop-index
invariant-loop-index l = record {
  above : l.from ≤ l.at;
  below : l.at ≤ l.to;
  table : IsTable l.names.items (lines_without l.at l.to l.tree.lines);
  len : vec_len l.names ≡ vec_len l.initial.names;
}

abbrev pub decreases-loop-index : goal.decreases-loop-index
decreases-loop-index l = l.to - l.at
