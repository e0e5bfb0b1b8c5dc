use Rattle.line_tree.proofs.Common.{◌≡◌, ◌≤◌, contents, lines_in, records, FailFrom, passes, lines_before}
use Rattle.line_tree.proofs.nearest.+previous.Given as goal

abbrev pub invariant-loop-slot : goal.invariant-loop-slot
invariant-loop-slot g l = record {
  few : l.slot ≤ 12;
  before : l.before ≡ lines_before (records l.store) l.node l.slot;
  free : FailFrom (passes l.wanted) (contents (lines_in (records l.store) l.height l.node)) l.before l.to;
}

abbrev pub decreases-loop-slot : goal.decreases-loop-slot
decreases-loop-slot g l = l.slot

abbrev pub decreases-previous : goal.decreases-previous
decreases-previous g l = l.height
