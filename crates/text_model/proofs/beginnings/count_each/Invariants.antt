use Rattle.text_model.proofs.Common.{◌≡◌, ◌≤◌, take, beginnings}
use Rattle.text_model.proofs.beginnings.count_each.Given as goal

abbrev pub invariant-loop-byte : goal.invariant-loop-byte
invariant-loop-byte l = record {
  within : l.count ≤ l.byte-index;
  count : l.count ≡ beginnings (take l.byte-index l.bytes);
}
