use Rattle.edit_ops.proofs.Common.{◌≡◌, ◌≤◌, ◌-◌, characters, spot_at}
use Rattle.edit_ops.proofs.spot_walks.SpotWalk.along.Given as goal

abbrev pub invariant-loop-walk : goal.invariant-loop-walk
invariant-loop-walk g l = record {
  stands : l.walk.spot ≡ spot_at (characters (g.S.TextStore.content l.store).cells) l.walk.offset;
  ordered : l.walk.offset ≤ l.offset;
}

abbrev pub decreases-loop-walk : goal.decreases-loop-walk
decreases-loop-walk g l = l.offset - l.walk.offset
