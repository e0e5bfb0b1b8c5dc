use Rattle.mark_table.proofs.Common.{◌≤◌, numbers_of}
use Rattle.mark_table.proofs.SharedWalk.{Ahead, TurnsBack}
use Rattle.mark_table.proofs.marks.MarkTable.previous_shared.Given as goal

abbrev pub invariant-loop-offset : goal.invariant-loop-offset
invariant-loop-offset g l = record {
  below : l.offset ≤ l.view.end;
  before : l.offset ≤ l.fn.bound.place;
  ahead : Ahead l.view (g.S.TextStore.content l.store).marks (numbers_of l.self.marks) l.fn.bound l.offset;
  turns : TurnsBack l.view (g.S.TextStore.content l.store).marks (numbers_of l.self.marks) l.fn.bound l.offset l.upto;
}

abbrev pub decreases-loop-offset : goal.decreases-loop-offset
decreases-loop-offset g l = l.offset
