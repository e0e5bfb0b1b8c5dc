use Rattle.text_cursor.proofs.Common.{◌≡◌, ◌++◌}
use Rattle.text_cursor.proofs.cursors.push_chars.Given as goal

abbrev pub invariant-loop-character : goal.invariant-loop-character
invariant-loop-character l = l.characters.items ≡ l.initial.characters.items ++ l.yielded
