use Rattle.std.specs.VecDeque.{deque_len}
use Rattle.edit_ops.proofs.orders.+sorted.Given as goal

abbrev pub decreases-sorted : goal.decreases-sorted
decreases-sorted l = deque_len l.steps
