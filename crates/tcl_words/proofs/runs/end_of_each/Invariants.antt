use Rattle.tcl_words.proofs.Common.{◌-◌, ◌≤◌, length, AllOrdinary}
use Rattle.tcl_words.proofs.runs.end_of_each.Given as goal

abbrev pub invariant-loop-index : goal.invariant-loop-index
invariant-loop-index g l = record {
  within : l.index ≤ length l.bytes;
  ordinary : AllOrdinary g.W.Ordinary.ordinary l.bytes l.fn.from l.index;
}

abbrev pub decreases-loop-index : goal.decreases-loop-index
decreases-loop-index g l = length l.bytes - l.index
