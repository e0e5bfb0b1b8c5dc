use Rattle.line_lists.proofs.Common.{◌≡◌, ◌++◌, slice_range, string_bytes, characters, whole, chars}
use Rattle.line_lists.proofs.lists.LineList.push_lines.Given as goal

abbrev pub invariant-loop-index : goal.invariant-loop-index
invariant-loop-index g l =
    chars (string_bytes l.text) ≡ chars (string_bytes l.initial.text)
    ++ characters (whole (slice_range (g.Self.LineList.lines l.self) l.from l.index)).columns
