use Rattle.script_cli.proofs.Common.{◌≡◌, true, false, refl, ap, ◌∙◌, arith, Unread, is_fault}
use Rattle.script_cli.proofs.RunLaws.{turned, so_far_none, answers_more, refuses_more, closes_at_end, closes_at_fault}
use Rattle.script_cli.proofs.RunLaws.{closed_ok, closed_err, cuts}
use Rattle.script_cli.specs.declared.turns.Met.TheVariants as kinds
use Rattle.script_cli.proofs.running.carry_out.Goals as goal

pub loop-turn-init : goal.loop-turn-init
loop-turn-init g c =
    let old = c.args.splitter.now in record {
      so_far = rw c.requires.empty (so_far_none old.finished c.args.world.now old.rest c.args.summary.now
          (g.W.ByteSink.log c.args.sink.now));
      same = refl;
      unfaulted = c.requires.unfaulted;
      up = c.requires.sink;
      counted = omega arith;
      refused = c.requires.refused;
    }

pub returns-then-not-turn-clause-cut : goal.returns-then-not-turn-clause-cut
returns-then-not-turn-clause-cut g c =
    let log = g.W.ByteSink.log in let l = c.loop-turn in let t = c.take_turn-turn in
    let old = c.args.splitter.now in let finished = old.finished in
    let same : l.splitter.finished ≡ finished = ap (λ (u : Unread). u.finished) l.invariant.same in
    let met = turned finished l.world t.new.world l.splitter.rest t.new.splitter.rest (log l.sink) (log t.new.sink)
    l.output t.new.output
    t.result.met t.result.met t.result.is_written true refl c.if-not-turn.true (rw same at t.ensures.met) in
    cuts finished c.args.world.now old.rest c.args.summary.now l.world t.new.world l.splitter.rest t.new.splitter.rest
    met.0 t.result.met l.summary.commands l.summary.refused (log c.args.sink.now) (log l.sink) (log t.new.sink)
    l.output t.new.output
    l.invariant.so_far met.1 met.2

pub loop-turn-preserved-in-Answer : goal.loop-turn-preserved-in-Answer
loop-turn-preserved-in-Answer g c =
    let log = g.W.ByteSink.log in let l = c.loop-turn in let t = c.take_turn-turn in
    let old = c.args.splitter.now in let finished = old.finished in
    let same : l.splitter.finished ≡ finished = ap (λ (u : Unread). u.finished) l.invariant.same in
    let met = turned finished l.world t.new.world l.splitter.rest t.new.splitter.rest (log l.sink) (log t.new.sink)
    l.output t.new.output
    t.result.met kinds.Answer t.result.is_written false c.in-Answer.is c.if-not-turn.false (rw same at t.ensures.met) in
    let shorter = met.1.3 in let counted = l.invariant.counted in let refused = l.invariant.refused in
    record {
      so_far = answers_more finished c.args.world.now old.rest c.args.summary.now l.world t.new.world l.splitter.rest
          t.new.splitter.rest met.0 l.summary.commands l.summary.refused (log c.args.sink.now) (log l.sink)
          (log t.new.sink) l.output t.new.output
          l.invariant.so_far met.1 met.2;
      same = t.ensures.same (ap is_fault c.in-Answer.is)
          ∙ ap (λ (u : Unread). record u { rest = t.new.splitter.rest }) l.invariant.same;
      unfaulted = l.invariant.unfaulted;
      up = t.ensures.flag ∙ c.if-not-turn.false;
      counted = omega (arith, shorter, counted);
      refused = omega (arith, refused);
    }

pub loop-turn-preserved : goal.loop-turn-preserved
loop-turn-preserved g c =
    let log = g.W.ByteSink.log in let l = c.loop-turn in let t = c.take_turn-turn in
    let old = c.args.splitter.now in let finished = old.finished in
    let same : l.splitter.finished ≡ finished = ap (λ (u : Unread). u.finished) l.invariant.same in
    let met = turned finished l.world t.new.world l.splitter.rest t.new.splitter.rest (log l.sink) (log t.new.sink)
    l.output t.new.output
    t.result.met kinds.Refusal t.result.is_written false c.in-Refusal.is c.if-not-turn.false (rw same at t.ensures.met)
    in
    let shorter = met.1.3 in let counted = l.invariant.counted in let refused = l.invariant.refused in
    record {
      so_far = refuses_more finished c.args.world.now old.rest c.args.summary.now l.world t.new.world l.splitter.rest
          t.new.splitter.rest met.0 l.summary.commands l.summary.refused (log c.args.sink.now) (log l.sink)
          (log t.new.sink) l.output t.new.output
          l.invariant.so_far met.1 met.2;
      same = t.ensures.same (ap is_fault c.in-Refusal.is)
          ∙ ap (λ (u : Unread). record u { rest = t.new.splitter.rest }) l.invariant.same;
      unfaulted = l.invariant.unfaulted;
      up = t.ensures.flag ∙ c.if-not-turn.false;
      counted = omega (arith, shorter, counted);
      refused = omega (arith, refused);
    }

pub returns-in-Fault-clause-carried : goal.returns-in-Fault-clause-carried
returns-in-Fault-clause-carried g c =
    let log = g.W.ByteSink.log in let l = c.loop-turn in let t = c.take_turn-turn in
    let old = c.args.splitter.now in let finished = old.finished in
    let same : l.splitter.finished ≡ finished = ap (λ (u : Unread). u.finished) l.invariant.same in
    let met = turned finished l.world t.new.world l.splitter.rest t.new.splitter.rest (log l.sink) (log t.new.sink)
    l.output t.new.output
    t.result.met kinds.Fault t.result.is_written false c.in-Fault.is c.if-not-turn.false (rw same at t.ensures.met) in
    let closed = closes_at_fault finished c.args.world.now old.rest c.args.summary.now l.world t.new.world t.new.world
    l.splitter.rest t.new.splitter.rest met.0 l.summary.commands l.summary.refused (log c.args.sink.now)
    (log l.sink) (log t.new.sink) l.output t.new.output
    l.invariant.so_far met.1 met.2 in
    closed_ok c.send.result old c.args.world.now c.args.summary.now t.new.world t.new.splitter.rest
    (record l.summary { script_fault = true }) (log c.args.sink.now) (log t.new.sink)
    (log c.send.new.sink) t.new.output closed c.send.ensures.bytes

pub returns-in-Fault-clause-cut : goal.returns-in-Fault-clause-cut
returns-in-Fault-clause-cut g c =
    let log = g.W.ByteSink.log in let l = c.loop-turn in let t = c.take_turn-turn in
    let old = c.args.splitter.now in let finished = old.finished in
    let same : l.splitter.finished ≡ finished = ap (λ (u : Unread). u.finished) l.invariant.same in
    let met = turned finished l.world t.new.world l.splitter.rest t.new.splitter.rest (log l.sink) (log t.new.sink)
    l.output t.new.output
    t.result.met kinds.Fault t.result.is_written false c.in-Fault.is c.if-not-turn.false (rw same at t.ensures.met) in
    let closed = closes_at_fault finished c.args.world.now old.rest c.args.summary.now l.world t.new.world t.new.world
    l.splitter.rest t.new.splitter.rest met.0 l.summary.commands l.summary.refused (log c.args.sink.now)
    (log l.sink) (log t.new.sink) l.output t.new.output
    l.invariant.so_far met.1 met.2 in
    closed_err c.send.result finished c.args.world.now old.rest c.args.summary.now t.new.world t.new.splitter.rest
    l.summary.commands l.summary.refused
    true (log c.args.sink.now) (log t.new.sink) (log c.send.new.sink) t.new.output closed c.send.ensures.bytes

pub returns-in-End-clause-carried : goal.returns-in-End-clause-carried
returns-in-End-clause-carried g c =
    let log = g.W.ByteSink.log in let l = c.loop-turn in let t = c.take_turn-turn in
    let old = c.args.splitter.now in let finished = old.finished in
    let same : l.splitter.finished ≡ finished = ap (λ (u : Unread). u.finished) l.invariant.same in
    let met = turned finished l.world t.new.world l.splitter.rest t.new.splitter.rest (log l.sink) (log t.new.sink)
    l.output t.new.output
    t.result.met kinds.End t.result.is_written false c.in-End.is c.if-not-turn.false (rw same at t.ensures.met) in
    let closed = closes_at_end finished c.args.world.now old.rest c.args.summary.now l.world t.new.world l.splitter.rest
    t.new.splitter.rest met.0 l.summary.commands l.summary.refused (log c.args.sink.now) (log l.sink)
    (log t.new.sink) l.output t.new.output
    l.invariant.so_far met.1 met.2 in
    closed_ok c.send-in-End.result old c.args.world.now c.args.summary.now t.new.world t.new.splitter.rest (l.summary)
    (log c.args.sink.now) (log t.new.sink)
    (log c.send-in-End.new.sink) t.new.output (rw l.invariant.unfaulted closed) c.send-in-End.ensures.bytes

pub returns-in-End-clause-cut : goal.returns-in-End-clause-cut
returns-in-End-clause-cut g c =
    let log = g.W.ByteSink.log in let l = c.loop-turn in let t = c.take_turn-turn in
    let old = c.args.splitter.now in let finished = old.finished in
    let same : l.splitter.finished ≡ finished = ap (λ (u : Unread). u.finished) l.invariant.same in
    let met = turned finished l.world t.new.world l.splitter.rest t.new.splitter.rest (log l.sink) (log t.new.sink)
    l.output t.new.output
    t.result.met kinds.End t.result.is_written false c.in-End.is c.if-not-turn.false (rw same at t.ensures.met) in
    let closed = closes_at_end finished c.args.world.now old.rest c.args.summary.now l.world t.new.world l.splitter.rest
    t.new.splitter.rest met.0 l.summary.commands l.summary.refused (log c.args.sink.now) (log l.sink)
    (log t.new.sink) l.output t.new.output
    l.invariant.so_far met.1 met.2 in
    closed_err c.send-in-End.result finished c.args.world.now old.rest c.args.summary.now t.new.world
    t.new.splitter.rest l.summary.commands l.summary.refused
    false (log c.args.sink.now) (log t.new.sink) (log c.send-in-End.new.sink) t.new.output closed
    c.send-in-End.ensures.bytes
