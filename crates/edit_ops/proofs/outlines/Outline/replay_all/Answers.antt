use Rattle.edit_ops.proofs.Common.{no_history, unmodified, replays, arith, drop_all}
use Rattle.edit_ops.proofs.ReplayLaws.{all-acts, all-scalars, next-replayed, replay-first, replay-fits, replay-more}
use Rattle.edit_ops.proofs.ReplayLaws.{replays-length}
use Rattle.edit_ops.proofs.outlines.Outline.replay_all.Goals as goal

pub loop-index-init : goal.loop-index-init
loop-index-init g c = replay-first c.args.limit (g.S.TextStore.content c.args.store.now) c.args.self.now
    c.args.cursor.now (replays c.args.back c.args.group.now) c.requires.follows c.requires.fits

pub replay-requires : goal.replay-requires
replay-requires g c =
    let next = next-replayed c.args.back c.puts_in-inserts.result c.args.group.now c.loop-index.index c.len-count.result
    c.nth_of.result c.action-action.result.now c.len-count.ensures c.loop-index-test.true
    c.nth_of.ensures.place c.action-action.ensures c.puts_in-inserts.ensures in
    let fits = replay-fits c.loop-index.invariant next c.ranges.limit.fits in
    record { follows = c.loop-index.invariant.follows; puts = fits.puts; room = fits.room; takes = fits.takes }

pub loop-index-preserved : goal.loop-index-preserved
loop-index-preserved g c =
    let next = next-replayed c.args.back c.puts_in-inserts.result c.args.group.now c.loop-index.index c.len-count.result
    c.nth_of.result c.action-action.result.now c.len-count.ensures c.loop-index-test.true
    c.nth_of.ensures.place c.action-action.ensures c.puts_in-inserts.ensures in
    replay-more c.loop-index.invariant next c.in_ok-there.ensures.follows c.in_ok-there.ensures.makes
    c.in_ok-there.ensures.end c.in_ok-there.ensures.bound c.in_ok-there.ensures.acts c.in_ok-there.ensures.scalars
    (record { history = no_history; modified = unmodified; most = 0 })

pub returns-clause-acts : goal.returns-clause-acts
returns-clause-acts g c =
    let all = replays c.args.back c.args.group.now in
    let long = replays-length c.args.back c.args.group.now in
    all-acts c.loop-index.invariant
    (drop_all c.loop-index.index all (omega (arith, long, c.len-count.ensures, c.loop-index-test.false)))
    c.requires.follows.old_len

pub returns-clause-scalars : goal.returns-clause-scalars
returns-clause-scalars g c =
    let all = replays c.args.back c.args.group.now in
    let long = replays-length c.args.back c.args.group.now in
    all-scalars c.loop-index.invariant
    (drop_all c.loop-index.index all (omega (arith, long, c.len-count.ensures, c.loop-index-test.false)))
