use Rattle.edit_ops.proofs.Common.{drop, replays}
use Rattle.edit_ops.proofs.ReplayLaws.{ReplayedSoFar}
use Rattle.edit_ops.proofs.outlines.Outline.replay_all.Given as goal

abbrev pub invariant-loop-index : goal.invariant-loop-index
invariant-loop-index g l =
    ReplayedSoFar l.limit (g.S.TextStore.content l.store) l.fn.self l.self l.fn.cursor l.cursor (replays l.back l.group)
    (drop l.index (replays l.back l.group)) l.end
