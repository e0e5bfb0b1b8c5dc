use Rattle.edit_ops.proofs.Common.{◌≡◌, ◌++◌, [], drop, chars, string_bytes, part_hunks}
use Rattle.edit_ops.proofs.part_hunks.hunks_of.Given as goal

abbrev pub invariant-loop-part : goal.invariant-loop-part
invariant-loop-part l =
    l.writer.hunks.items ++ part_hunks l.writer.border (chars (string_bytes l.writer.text)) l.len l.parts.fresh.items
    (drop l.part-index l.parts.parts.items)
    ≡ part_hunks 0 [] l.len l.parts.fresh.items l.parts.parts.items
