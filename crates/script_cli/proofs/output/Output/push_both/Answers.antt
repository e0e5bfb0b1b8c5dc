use Rattle.script_cli.proofs.SendingLaws.{Gathers-then, Gathers-stop}
use Rattle.script_cli.proofs.output.Output.push_both.Goals as goal

pub returns-then-not-push-clause-bytes : goal.returns-then-not-push-clause-bytes
returns-then-not-push-clause-bytes g c =
    let written = g.W.ByteSink.log in
    let first = rw c.as_bytes.ensures.value at c.if-not-push.ensures.bytes in
    Gathers-stop (written c.args.sink.now) (written c.push.new.sink) c.args.self.now c.push.new.self c.push.new.self
    c.args.first.now c.args.second.now first

pub returns-clause-bytes : goal.returns-clause-bytes
returns-clause-bytes g c =
    let written = g.W.ByteSink.log in
    let first = rw c.as_bytes.ensures.value at c.if-not-push.ensures.bytes in
    let second = rw c.as_bytes-2.ensures.value at c.push-2.ensures.bytes in
    Gathers-then (written c.args.sink.now) (written c.push.new.sink) (written c.push-2.new.sink) c.args.self.now
    c.push.new.self c.push-2.new.self
    c.args.first.now c.args.second.now c.push-2.result first second
