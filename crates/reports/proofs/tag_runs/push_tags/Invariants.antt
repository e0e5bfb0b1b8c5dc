use Rattle.reports.proofs.Common.{map, filter, take, is_shared, tag_pair, AreRising, TellsRuns}
use Rattle.reports.proofs.tag_runs.push_tags.Given as goal

abbrev pub invariant-loop-place : goal.invariant-loop-place
invariant-loop-place l =
    AreRising 0 l.runs
    → TellsRuns (map tag_pair (filter is_shared (take l.place l.tags.tags))) l.on l.runs l.fn.told l.told
