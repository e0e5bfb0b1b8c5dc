use Rattle.text_cursor.proofs.Common.{Moves}
use Rattle.text_cursor.proofs.cursors.Cursor.seek_back.Given as goal

abbrev pub invariant-loop-self : goal.invariant-loop-self
invariant-loop-self l = Moves l.fn.self l.self

abbrev pub decreases-loop-self : goal.decreases-loop-self
decreases-loop-self l = l.self.at
