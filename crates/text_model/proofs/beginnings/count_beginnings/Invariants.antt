use Rattle.text_model.proofs.Common.{◌≡◌, ◌≤◌, ◌-◌, length, take, beginnings}
use Rattle.text_model.proofs.beginnings.count_beginnings.Given as goal

abbrev pub invariant-loop-start : goal.invariant-loop-start
invariant-loop-start l = record {
  within : l.start ≤ length l.bytes;
  count : l.count ≡ beginnings (take l.start l.bytes);
}

abbrev pub decreases-loop-start : goal.decreases-loop-start
decreases-loop-start l = length l.bytes - l.start
