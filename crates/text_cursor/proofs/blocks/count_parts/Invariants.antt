use Rattle.text_cursor.proofs.Common.{◌≡◌, take, parts_len}
use Rattle.text_cursor.proofs.blocks.count_parts.Given as goal

abbrev pub invariant-loop-part : goal.invariant-loop-part
invariant-loop-part l = l.count ≡ parts_len (take l.part-index l.parts)
