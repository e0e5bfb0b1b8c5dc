use Rattle.line_lists.proofs.Common.{◌≡◌, ◌+◌, ◌≤◌, ◌-◌, length, drop, is_newline, position_or_len}
use Rattle.line_lists.proofs.newlines.next_newline.Given as goal

abbrev pub invariant-loop-at : goal.invariant-loop-at
invariant-loop-at l = record {
  within : l.at ≤ length l.bytes;
  passed : l.at + position_or_len is_newline (drop l.at l.bytes)
      ≡ l.fn.start + position_or_len is_newline (drop l.fn.start l.bytes);
}

abbrev pub decreases-loop-at : goal.decreases-loop-at
decreases-loop-at l = length l.bytes - l.at
