use Rattle.line_tree.proofs.Common.{◌≡◌, ℕ, ◌<◌, length, get_or, take, drop, None, slice_get}
use Rattle.line_tree.proofs.raise.slots_of.Given as goal

abbrev pub invariant-loop-i : goal.invariant-loop-i
invariant-loop-i l = record {
  long : length l.slots ≡ 12;
  items : (k : ℕ) → k < l.i → get_or l.slots k None ≡ slice_get (take l.count (drop l.from l.list)) k;
}
