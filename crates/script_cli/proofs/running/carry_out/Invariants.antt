use Rattle.script_cli.proofs.Common.{◌≡◌, ◌+◌, ◌≤◌, false, length}
use Rattle.script_cli.proofs.RunLaws.{SoFar}
use Rattle.script_cli.proofs.running.carry_out.Given as goal

abbrev pub invariant-loop-turn : goal.invariant-loop-turn
invariant-loop-turn g l = record {
  so_far : SoFar l.fn.splitter.finished l.fn.world l.fn.splitter.rest l.fn.summary l.world l.splitter.rest
      l.summary.commands l.summary.refused
      (g.W.ByteSink.log l.fn.sink) (g.W.ByteSink.log l.sink) l.output;
  same : l.splitter ≡ record l.fn.splitter { rest = l.splitter.rest };
  unfaulted : l.summary.script_fault ≡ false;
  up : g.W.ByteSink.is_failed l.sink ≡ false;
  counted : l.summary.commands + length l.splitter.rest ≤ l.fn.summary.commands + length l.fn.splitter.rest;
  refused : l.summary.refused ≤ l.summary.commands;
}

abbrev pub decreases-loop-turn : goal.decreases-loop-turn
decreases-loop-turn g l = length l.splitter.rest
