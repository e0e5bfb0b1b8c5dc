use Rattle.tcl_words.proofs.Common.{◌-◌, ◌≤◌, length, AllOrdinary}
use Rattle.tcl_words.proofs.runs.end_of_blocks.Given as goal

abbrev pub invariant-loop-start : goal.invariant-loop-start
invariant-loop-start g l = record {
  within : l.start ≤ length l.bytes;
  ordinary : AllOrdinary g.W.Ordinary.ordinary l.bytes l.fn.from l.start;
}

abbrev pub decreases-loop-start : goal.decreases-loop-start
decreases-loop-start g l = length l.bytes - l.start
