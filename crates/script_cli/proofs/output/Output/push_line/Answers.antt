use Rattle.script_cli.proofs.Common.{◌++◌, false}
use Rattle.script_cli.proofs.SendingLaws.{Gathers-then, Gathers-stop}
use Rattle.script_cli.proofs.output.Output.push_line.Goals as goal

pub returns-then-not-push_both-clause-bytes : goal.returns-then-not-push_both-clause-bytes
returns-then-not-push_both-clause-bytes g c =
    let written = g.W.ByteSink.log in let p = c.parts.result in
    rw (← c.parts.ensures)
    (Gathers-stop (written c.args.sink.now) (written c.push_both.new.sink) c.args.self.now c.push_both.new.self
    c.push_both.new.self
    (p.0.now ++ p.1.now) ((p.2.now ++ p.3.now) ++ p.4.now) c.if-not-push_both.ensures.bytes)

pub returns-then-not-push_both-2-clause-bytes : goal.returns-then-not-push_both-2-clause-bytes
returns-then-not-push_both-2-clause-bytes g c =
    let written = g.W.ByteSink.log in let p = c.parts.result in
    rw (← c.parts.ensures)
    (Gathers-then (written c.args.sink.now) (written c.push_both.new.sink) (written c.push_both-2.new.sink)
    c.args.self.now c.push_both.new.self c.push_both-2.new.self
    (p.0.now ++ p.1.now) ((p.2.now ++ p.3.now) ++ p.4.now) false c.if-not-push_both.ensures.bytes
    (Gathers-stop (written c.push_both.new.sink) (written c.push_both-2.new.sink) c.push_both.new.self
    c.push_both-2.new.self c.push_both-2.new.self
    (p.2.now ++ p.3.now) p.4.now c.if-not-push_both-2.ensures.bytes))

pub returns-clause-bytes : goal.returns-clause-bytes
returns-clause-bytes g c =
    let written = g.W.ByteSink.log in let p = c.parts.result in
    let third = rw c.as_bytes.ensures.value at c.push.ensures.bytes in
    rw (← c.parts.ensures)
    (Gathers-then (written c.args.sink.now) (written c.push_both.new.sink) (written c.push.new.sink) c.args.self.now
    c.push_both.new.self c.push.new.self
    (p.0.now ++ p.1.now) ((p.2.now ++ p.3.now) ++ p.4.now) c.push.result
    c.if-not-push_both.ensures.bytes
    (Gathers-then (written c.push_both.new.sink) (written c.push_both-2.new.sink) (written c.push.new.sink)
    c.push_both.new.self c.push_both-2.new.self c.push.new.self
    (p.2.now ++ p.3.now) p.4.now c.push.result c.if-not-push_both-2.ensures.bytes third))
