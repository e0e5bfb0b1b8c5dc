use Rattle.line_tree.proofs.Common.{◌≡◌, ◌++◌, IfSome, chars, slice_range, string_bytes, characters, contents, whole}
use Rattle.line_tree.proofs.Common.{IsLineAt}
use Rattle.line_tree.proofs.tree_lines.TreeLinesLineList.push_lines.Given as goal

abbrev pub invariant-loop-index : goal.invariant-loop-index
invariant-loop-index l = record {
  next : IfSome l.next (IsLineAt l.self.tree.lines l.index);
  text : chars (string_bytes l.text) ≡ chars (string_bytes l.initial.text)
      ++ characters (whole (slice_range (contents l.self.tree.lines) l.from l.index)).columns;
}
