use Rattle.line_tree.proofs.Common.{◌≡◌, contents, lines_in, records, FailFrom, passes, lines_before}
use Rattle.line_tree.proofs.nearest.+next.Given as goal

abbrev pub invariant-loop-slot : goal.invariant-loop-slot
invariant-loop-slot g l = record {
  before : l.before ≡ lines_before (records l.store) l.node l.slot;
  free : FailFrom (passes l.wanted) (contents (lines_in (records l.store) l.height l.node)) l.from l.before;
}

abbrev pub decreases-next : goal.decreases-next
decreases-next g l = l.height
