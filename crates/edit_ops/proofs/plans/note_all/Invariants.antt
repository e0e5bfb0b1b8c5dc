use Rattle.edit_ops.proofs.Common.{◌≡◌, ◌+◌, ◌≤◌, true, length, all_noted, log_of}
use Rattle.edit_ops.proofs.plans.note_all.Given as goal

abbrev pub invariant-loop : goal.invariant-loop
invariant-loop l = record {
  left : length l.actions.items + l.counter ≡ length l.fn.actions.items;
  room : l.recording.undo ≡ true → length l.actions.items ≤ l.history.room;
  noted : all_noted l.recording l.kind l.fn.actions.items (log_of l.fn.history)
      ≡ all_noted l.recording l.kind l.actions.items (log_of l.history);
}
