use Rattle.reports.proofs.Common.{map, take, seat_pair, AreRising, TellsRuns}
use Rattle.reports.proofs.tag_runs.push_selections.Given as goal

abbrev pub invariant-loop-place : goal.invariant-loop-place
invariant-loop-place l =
    AreRising 0 l.runs → TellsRuns (map seat_pair (take l.place l.seats.entries)) l.on l.runs l.fn.told l.told
