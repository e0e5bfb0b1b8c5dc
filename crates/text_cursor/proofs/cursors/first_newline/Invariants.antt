use Rattle.text_cursor.proofs.Common.{◌≡◌, ◌+◌, drop, line_start}
use Rattle.text_cursor.proofs.cursors.first_newline.Given as goal

abbrev pub invariant-loop-index : goal.invariant-loop-index
invariant-loop-index l = line_start 1 l.characters ≡ l.index + line_start 1 (drop l.index l.characters)
