use Rattle.edit_ops.proofs.Common.{◌≡◌, ◌++◌, take, chars, string_bytes}
use Rattle.edit_ops.proofs.part_hunks.push_characters.Given as goal

abbrev pub invariant-loop-character : goal.invariant-loop-character
invariant-loop-character l =
    chars (string_bytes l.text) ≡ chars (string_bytes l.fn.text) ++ take l.character-index l.characters
