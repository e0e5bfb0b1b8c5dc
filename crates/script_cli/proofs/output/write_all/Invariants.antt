use Rattle.script_cli.proofs.Common.{◌≡◌, length, ◌-◌, ◌≤◌, take, false, Takes}
use Rattle.script_cli.proofs.output.write_all.Given as goal

abbrev pub invariant-loop-sent : goal.invariant-loop-sent
invariant-loop-sent g l = record {
  within : l.sent ≤ length l.bytes;
  takes : Takes (g.W.ByteSink.log l.fn.sink) (g.W.ByteSink.log l.sink) (take l.sent l.bytes);
  up : g.W.ByteSink.is_failed l.sink ≡ false;
}

abbrev pub decreases-loop-sent : goal.decreases-loop-sent
decreases-loop-sent g l = length l.bytes - l.sent
