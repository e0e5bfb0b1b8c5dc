use Rattle.script_cli.proofs.SendingLaws.{Gathers-cut}
use Rattle.script_cli.proofs.output.Output.push.Goals as goal

pub returns-then-not-flush-clause-bytes : goal.returns-then-not-flush-clause-bytes
returns-then-not-flush-clause-bytes g c =
    Gathers-cut (g.W.ByteSink.log c.args.sink.now) (g.W.ByteSink.log c.flush.new.sink) c.args.self.now c.flush.new.self
    c.args.bytes.now
    c.if-not-flush.ensures.bytes
