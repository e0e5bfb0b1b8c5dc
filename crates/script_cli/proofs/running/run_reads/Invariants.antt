use Rattle.script_cli.proofs.Common.{◌≡◌, ◌+◌, ◌*◌, ◌≤◌, [], false, length, unread}
use Rattle.script_cli.proofs.RunLaws.{Running}
use Rattle.script_cli.proofs.running.run_reads.Given as goal

abbrev pub invariant-loop-made : goal.invariant-loop-made
invariant-loop-made g l = record {
  running : Running l.fn.limits (g.R.ByteSource.log l.fn.source) (g.R.ByteSource.log l.source)
      (g.W.ByteSink.log l.fn.sink) (g.W.ByteSink.log l.sink)
      l.world l.buffers.splitter.rest l.summary.commands l.summary.refused;
  fed : l.buffers.splitter ≡ unread l.buffers.splitter.rest false;
  empty : l.buffers.output ≡ [];
  unfaulted : l.summary.script_fault ≡ false;
  source_up : g.R.ByteSource.is_failed l.source ≡ false;
  sink_up : g.W.ByteSink.is_failed l.sink ≡ false;
  most : l.summary.commands + length l.buffers.splitter.rest ≤ 4096 * l._made;
  refused : l.summary.refused ≤ l.summary.commands;
  counted : (g.R.ByteSource.log l.source).reads ≡ (g.R.ByteSource.log l.fn.source).reads + l._made;
}
