use Rattle.script_cli.proofs.Common.{◌≡◌, ℕ, ◌+◌, false, length, refl, ap, ◌∙◌, arith, length-append, Result, Ok, Err}
use Rattle.script_cli.proofs.Common.{OnErr, Unread, Feeds, is_end}
use Rattle.script_cli.proofs.RunLaws.{running_none, running_lost, running_stops, running_cut, running_more}
use Rattle.script_cli.proofs.RunLaws.{run_to_fault, run_to_end}
use Rattle.script_cli.proofs.running.run_reads.Goals as goal

on_err : {T E P : Type 0} (result : Result T E) → P → OnErr result P
on_err (Ok value) holds = tt
on_err (Err fault) holds = holds

plus_one : (n made : ℕ) → n + made + 1 ≡ n + (made + 1)
plus_one n made = omega arith

pub loop-made-init : goal.loop-made-init
loop-made-init g c = record {
  running = rw (c.requires.world, c.requires.unread, c.requires.commands, c.requires.refused)
      (running_none c.args.limits (g.R.ByteSource.log c.args.source.now) (g.W.ByteSink.log c.args.sink.now));
  fed = rw c.requires.unread refl;
  empty = c.requires.empty;
  unfaulted = c.requires.unfaulted;
  source_up = c.requires.source;
  sink_up = c.requires.sink;
  most = rw (c.requires.unread, c.requires.commands) (omega arith);
  refused = rw (c.requires.commands, c.requires.refused) (omega arith);
  counted = omega arith;
}

pub returns-in_err-brought-clause-front : goal.returns-in_err-brought-clause-front
returns-in_err-brought-clause-front g c =
    let read = g.R.ByteSource.log in let written = g.W.ByteSink.log in let l = c.loop-made in
    let lost = c.in_err-brought.ensures.lost in
    on_err c.from_residual.result
    (running_lost c.args.limits (read c.args.source.now) (read l.source) (read c.feed_read.new.source)
    (written c.args.sink.now) (written l.sink)
    l.world l.buffers.splitter.rest l.summary.commands l.summary.refused lost.0 l.invariant.running lost.1)

pub returns-in_err-carry_out-clause-front : goal.returns-in_err-carry_out-clause-front
returns-in_err-carry_out-clause-front g c =
    let read = g.R.ByteSource.log in let written = g.W.ByteSink.log in let l = c.loop-made in
    on_err c.from_residual-in_err-carry_out.result
    (running_cut c.args.limits (read c.args.source.now) (read l.source) (read c.feed_read.new.source)
    (written c.args.sink.now) (written l.sink)
    (written c.carry_out.new.sink) l.world l.buffers.splitter.rest l.summary.commands l.summary.refused c.feed_read.new.splitter
    (is_end c.in_ok-brought.brought)
    l.invariant.running c.in_ok-brought.ensures.feeds c.in_err-carry_out.ensures.cut)

pub returns-then-summary-clause-run : goal.returns-then-summary-clause-run
returns-then-summary-clause-run g c =
    let read = g.R.ByteSource.log in let written = g.W.ByteSink.log in let l = c.loop-made in let t = c.carry_out.new in
    run_to_fault c.args.limits (read c.args.source.now) (read l.source) (read c.feed_read.new.source)
    (written c.args.sink.now) (written l.sink)
    (written t.sink) l.world l.buffers.splitter.rest l.summary c.feed_read.new.splitter (is_end c.in_ok-brought.brought) t.world
    t.splitter.rest t.summary
    l.invariant.running c.in_ok-brought.ensures.feeds c.in_ok-carry_out.ensures.carried c.if-summary.true

pub returns-in-End-clause-run : goal.returns-in-End-clause-run
returns-in-End-clause-run g c =
    let read = g.R.ByteSource.log in let written = g.W.ByteSink.log in let l = c.loop-made in let t = c.carry_out.new in
    run_to_end c.args.limits (read c.args.source.now) (read l.source) (read c.feed_read.new.source)
    (written c.args.sink.now) (written l.sink)
    (written t.sink) l.world l.buffers.splitter.rest l.summary c.feed_read.new.splitter t.world t.splitter.rest t.summary
    l.invariant.running (rw c.in-End.is at c.in_ok-brought.ensures.feeds) c.in_ok-carry_out.ensures.carried
    c.if-summary.false

pub loop-made-preserved : goal.loop-made-preserved
loop-made-preserved g c =
    let read = g.R.ByteSource.log in let written = g.W.ByteSink.log in let l = c.loop-made in let t = c.carry_out.new in
    let f = c.feed_read.new in let h = c.in_ok-carry_out.ensures in
    let feeds : Feeds (read l.source) (read f.source) l.buffers.splitter.rest f.splitter false = rw c.in-Bytes.is at
    c.in_ok-brought.ensures.feeds in
    let long : length f.splitter.rest ≡ length l.buffers.splitter.rest + length feeds.0 =
    ap (λ (u : Unread). length u.rest) feeds.3 ∙ length-append l.buffers.splitter.rest feeds.0 in
    let piece = feeds.2 in let before = l.invariant.most in let after = h.most c.if-summary.false in
    record {
      running = running_more c.args.limits (read c.args.source.now) (read l.source) (read f.source)
          (written c.args.sink.now) (written l.sink)
          (written t.sink) l.world l.buffers.splitter.rest l.summary f.splitter t.world t.splitter.rest t.summary
          l.invariant.running feeds h.carried c.if-summary.false;
      fed = h.same c.if-summary.false ∙ ap (λ (u : Unread). record u { rest = t.splitter.rest }) feeds.3;
      empty = h.empty;
      unfaulted = c.if-summary.false;
      source_up = c.in_ok-brought.ensures.flag;
      sink_up = h.flag;
      most = omega (arith, long, piece, before, after);
      refused = h.refused;
      counted = c.feed_read.ensures.counted ∙ ap (λ n. n + 1) l.invariant.counted
          ∙ plus_one (read c.args.source.now).reads l._made;
    }

pub returns-clause-front : goal.returns-clause-front
returns-clause-front g c =
    let read = g.R.ByteSource.log in let written = g.W.ByteSink.log in let l = c.loop-made in
    running_stops c.args.limits (read c.args.source.now) (read l.source) (written c.args.sink.now) (written l.sink)
    l.world l.buffers.splitter.rest l.summary.commands l.summary.refused l.invariant.running
