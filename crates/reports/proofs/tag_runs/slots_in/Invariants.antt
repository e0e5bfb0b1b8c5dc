use Rattle.reports.proofs.Common.{take, HoldsSlots}
use Rattle.reports.proofs.tag_runs.slots_in.Given as goal

abbrev pub invariant-loop-run : goal.invariant-loop-run
invariant-loop-run l = HoldsSlots (take l.run-index l.runs) l.slots
