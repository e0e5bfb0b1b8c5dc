use Rattle.mark_table.proofs.Common.{◌+◌, ◌-◌, ◌≤◌, numbers_of}
use Rattle.mark_table.proofs.SharedWalk.{Passed, Turns}
use Rattle.mark_table.proofs.marks.MarkTable.next_shared.Given as goal

abbrev pub invariant-loop-offset : goal.invariant-loop-offset
invariant-loop-offset g l = record {
  above : l.view.start ≤ l.offset;
  behind : l.fn.bound.place ≤ l.offset;
  passed : Passed l.view (g.S.TextStore.content l.store).marks (numbers_of l.self.marks) l.fn.bound l.offset;
  turns : Turns l.view (g.S.TextStore.content l.store).marks (numbers_of l.self.marks) l.fn.bound l.offset l.from;
}

abbrev pub decreases-loop-offset : goal.decreases-loop-offset
decreases-loop-offset g l = l.view.end + 1 - l.offset
