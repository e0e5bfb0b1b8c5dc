use Rattle.search_dump.proofs.Common.{◌≤◌, AreBehind, IsNearest}
use Rattle.search_dump.proofs.tag_changes.TagChanges.nearest.Given as goal

abbrev pub invariant-loop-at : goal.invariant-loop-at
invariant-loop-at l = record {
  nearest : IsNearest l.self.next.items l.at l.place l.turn.place;
  apart : AreBehind l.turn.rows l.self.next.items l.at l.turn.place;
  rows : l.turn.rows.end ≤ l.at;
  ordered : l.turn.rows.first ≤ l.turn.rows.end;
}
