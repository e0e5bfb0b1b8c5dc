use Rattle.reports.proofs.Common.{drop, take, AreRising}
use Rattle.reports.proofs.KeyRunLaws.{IsJoined}
use Rattle.reports.proofs.tag_lists.TagList.push_joined.Given as goal

abbrev pub invariant-loop-run : goal.invariant-loop-run
invariant-loop-run l =
    AreRising 0 l.runs → IsJoined l.key l.slot.0 l.on l.from l.to (take l.run-index l.runs) (drop l.run-index l.runs)
    l.fn.self l.self
