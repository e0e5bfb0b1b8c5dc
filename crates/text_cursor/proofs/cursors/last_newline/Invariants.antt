use Rattle.text_cursor.proofs.Common.{◌≡◌, take, last_line}
use Rattle.text_cursor.proofs.cursors.last_newline.Given as goal

abbrev pub invariant-loop-index : goal.invariant-loop-index
invariant-loop-index l = l.line ≡ last_line (take l.index l.characters)
