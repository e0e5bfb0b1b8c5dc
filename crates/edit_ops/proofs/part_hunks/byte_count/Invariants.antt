use Rattle.edit_ops.proofs.Common.{◌≡◌, take, length, encode_utf8_all, min, ◌^◌, ◌-◌}
use Rattle.edit_ops.proofs.part_hunks.byte_count.Given as goal

abbrev pub invariant-loop-character : goal.invariant-loop-character
invariant-loop-character l =
    l.count ≡ min (2 ^ 64 - 1) (length (encode_utf8_all (take l.character-index l.characters)))
