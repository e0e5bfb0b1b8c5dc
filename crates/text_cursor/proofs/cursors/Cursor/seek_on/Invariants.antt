use Rattle.text_cursor.proofs.Common.{◌≡◌, ◌-◌, ◌≤◌, false, Moves}
use Rattle.text_cursor.proofs.cursors.Cursor.seek_on.Given as goal

abbrev pub invariant-loop-self : goal.invariant-loop-self
invariant-loop-self l = record {
  moves : Moves l.fn.self l.self;
  bound : l.beyond ≡ false → l.fn.self.at ≤ l.place → l.self.at ≤ l.place;
}

abbrev pub decreases-loop-self : goal.decreases-loop-self
decreases-loop-self l = l.place - l.self.at
