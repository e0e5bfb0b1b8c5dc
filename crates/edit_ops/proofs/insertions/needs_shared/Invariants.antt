use Rattle.edit_ops.proofs.Common.{◌≡◌, false, take, needs_shared}
use Rattle.edit_ops.proofs.insertions.needs_shared.Given as goal

abbrev pub invariant-loop-piece : goal.invariant-loop-piece
invariant-loop-piece l = needs_shared (take l.piece-index l.pieces) ≡ false
