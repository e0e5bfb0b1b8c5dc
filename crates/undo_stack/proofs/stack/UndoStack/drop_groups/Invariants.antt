use Rattle.undo_stack.proofs.Common.{◌≡◌, ◌≤◌, drop}
use Rattle.undo_stack.proofs.stack.UndoStack.drop_groups.Given as goal

abbrev pub invariant-loop : goal.invariant-loop
invariant-loop l = record {
  history : l.self.history ≡ record l.fn.self.history { groups = drop l.counter l.fn.self.history.groups };
  modified : l.self.modified ≡ l.fn.self.modified;
  most : l.self.most ≡ l.fn.self.most;
  room : l.fn.self.room ≤ l.self.room;
}
