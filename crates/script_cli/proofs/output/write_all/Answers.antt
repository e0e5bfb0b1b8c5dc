use Rattle.script_cli.proofs.Common.{◌+◌, sym, ◌∙◌, arith, common_steps}
use Rattle.script_cli.proofs.SendingLaws.{Takes-more, Sends-front}
use Rattle.script_cli.proofs.output.write_all.Goals as goal

pub returns-then-failed-clause-bytes : goal.returns-then-failed-clause-bytes
returns-then-failed-clause-bytes g c =
    let i = c.loop-sent.invariant in let W = g.W.ByteSink in
    Sends-front (W.log c.args.sink.now) (W.log c.write-sent.new.self) c.args.bytes.now
    (c.loop-sent.sent + c.write-sent.result)
    (Takes-more (W.log c.args.sink.now) (W.log c.loop-sent.sink) (W.log c.write-sent.new.self) c.args.bytes.now
    c.loop-sent.sent
    c.write-sent.result i.takes (c.write-sent.ensures.bytes i.up))

pub loop-sent-preserved : goal.loop-sent-preserved
loop-sent-preserved g c =
    let i = c.loop-sent.invariant in let W = g.W.ByteSink in let h = c.write-sent.ensures in
    record {
      within = grind (arith, common_steps);
      takes = Takes-more (W.log c.args.sink.now) (W.log c.loop-sent.sink) (W.log c.write-sent.new.self) c.args.bytes.now
          c.loop-sent.sent
          c.write-sent.result i.takes (c.write-sent.ensures.bytes i.up);
      up = sym c.failed.ensures ∙ c.if-failed.false;
    }
