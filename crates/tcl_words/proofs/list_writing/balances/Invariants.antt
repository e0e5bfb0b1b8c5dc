use Rattle.tcl_words.proofs.Common.{◌≡◌, ◌-◌, ◌≤◌, length, drop, balances}
use Rattle.tcl_words.proofs.list_writing.balances.Given as goal

abbrev pub invariant-loop-index : goal.invariant-loop-index
invariant-loop-index l = record {
  within : l.index ≤ length l.bytes;
  balanced : balances (drop l.index l.bytes) l.depth ≡ balances l.bytes 0;
  low : l.depth ≤ l.index;
}

abbrev pub decreases-loop-index : goal.decreases-loop-index
decreases-loop-index l = length l.bytes - l.index
