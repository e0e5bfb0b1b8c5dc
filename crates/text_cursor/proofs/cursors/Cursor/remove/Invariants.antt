use Rattle.text_cursor.proofs.Common.{◌≤◌, Takes}
use Rattle.text_cursor.proofs.cursors.Cursor.remove.Given as goal

abbrev pub invariant-loop-self : goal.invariant-loop-self
invariant-loop-self l = record { takes : Takes l.fn.self l.self; above : l.end ≤ l.self.len }

abbrev pub decreases-loop-self : goal.decreases-loop-self
decreases-loop-self l = l.self.len
