use Rattle.line_tree.proofs.Common.{◌≡◌, drop, plus, records, sums}
use Rattle.line_tree.proofs.fill.sum_of.Given as goal

abbrev pub invariant-loop-slot : goal.invariant-loop-slot
invariant-loop-slot g l = record {
  sum : plus l.sum (sums (records l.store) (drop l.slot l.nodes)) ≡ sums (records l.store) l.nodes;
}
