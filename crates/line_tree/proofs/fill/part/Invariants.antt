use Rattle.line_tree.proofs.Common.{◌≡◌, ℕ, ◌<◌, length, get_or, take, drop, None, slice_get, insert, kids, records}
use Rattle.line_tree.proofs.fill.part.Given as goal

abbrev pub invariant-loop-i : goal.invariant-loop-i
invariant-loop-i g l = record {
  long : length l.part ≡ 12;
  items : (k : ℕ) → k < l.i → get_or l.part k None
      ≡ slice_get (take l.count
      (drop l.from (insert (kids (records l.store) l.extra.node) l.extra.at l.extra.child))) k;
}
