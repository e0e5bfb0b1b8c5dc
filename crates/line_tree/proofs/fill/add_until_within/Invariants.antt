use Rattle.line_tree.proofs.Common.{records}
use Rattle.line_tree.proofs.BelowLaws.{Below}
use Rattle.line_tree.proofs.fill.add_until_within.Given as goal

abbrev pub invariant-loop-slot : goal.invariant-loop-slot
invariant-loop-slot g l = record {
  sum : Below (records l.store) l.node l.slot l.sum;
}
