use Rattle.line_lists.proofs.Common.{◌≡◌, ◌+◌, ◌≤◌, ◌-◌, length, drop, is_newline, position_or_len}
use Rattle.line_lists.proofs.newlines.find_newline.Given as goal

abbrev pub invariant-loop-start : goal.invariant-loop-start
invariant-loop-start l = record {
  within : l.start ≤ length l.bytes;
  passed : l.start + position_or_len is_newline (drop l.start l.bytes) ≡ position_or_len is_newline l.bytes;
}

abbrev pub decreases-loop-start : goal.decreases-loop-start
decreases-loop-start l = length l.bytes - l.start
