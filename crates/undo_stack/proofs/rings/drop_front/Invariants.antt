use Rattle.undo_stack.proofs.Common.{◌≡◌, ◌+◌, drop}
use Rattle.std.specs.VecDeque.{deque_len, deque_capacity}
use Rattle.undo_stack.proofs.rings.drop_front.Given as goal

abbrev pub invariant-loop : goal.invariant-loop
invariant-loop l = record {
  items : l.actions.items ≡ drop l.counter l.fn.actions.items;
  capacity : deque_capacity l.actions ≡ deque_capacity l.fn.actions;
  len : deque_len l.actions + l.counter ≡ deque_len l.fn.actions;
}
