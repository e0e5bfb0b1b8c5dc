use Rattle.edit_ops.proofs.Common.{◌≡◌, ◌-◌, ◌^◌, take, min, total}
use Rattle.edit_ops.proofs.insertions.total_of.Given as goal

abbrev pub invariant-loop-piece : goal.invariant-loop-piece
invariant-loop-piece l = l.most ≡ min (total (take l.piece-index l.pieces)) (2 ^ 64 - 1)
