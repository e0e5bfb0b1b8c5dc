use Rattle.text_model.proofs.Common.{◌≡◌, ◌+◌, ◌≤◌, ◌-◌, length, take, beginnings}
use Rattle.text_model.proofs.beginnings.next_beginning.Given as goal

abbrev pub invariant-loop-at : goal.invariant-loop-at
invariant-loop-at l = record {
  within : l.at ≤ length l.bytes;
  left : beginnings (take l.at l.bytes) + l.left ≡ beginnings (take l.fn.start l.bytes) + l.fn.count;
}

abbrev pub decreases-loop-at : goal.decreases-loop-at
decreases-loop-at l = length l.bytes - l.at
