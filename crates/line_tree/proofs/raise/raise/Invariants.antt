use Rattle.line_tree.proofs.Common.{◌≡◌, ℕ, ◌+◌, ◌-◌, ◌*◌, ◌≤◌, ◌<◌, length, take, vec_capacity, nodes, records, rooms}
use Rattle.line_tree.proofs.Common.{spares, CanRaise, Raises}
use Rattle.line_tree.proofs.raise.raise.Given as goal

abbrev pub invariant-loop-from : goal.invariant-loop-from
invariant-loop-from g l = record {
  within : l.from ≤ length l.below;
  raises : (h : ℕ) → CanRaise (records l.fn.store) h l.below
      → Raises (records l.fn.store) (records l.store) h (take l.from l.below) (length l.below) l.row.items;
  more : l.from < length l.below → 12 * length l.row.items < length l.below;
  full : l.from + 12 < length l.below → 12 * length l.row.items ≤ l.from;
  few : 12 * length l.row.items ≤ length l.below + 11;
  left : 0 < l.from → l.from < length l.below → l.from + 6 ≤ length l.below;
  spares : spares l.store + length l.row.items ≡ spares l.fn.store;
  rooms : rooms l.store + length l.row.items ≡ rooms l.fn.store;
  nodes : nodes l.store ≡ nodes l.fn.store;
  names : vec_capacity l.row ≡ vec_capacity l.fn.row;
}

abbrev pub decreases-loop-from : goal.decreases-loop-from
decreases-loop-from g l = length l.below - l.from
