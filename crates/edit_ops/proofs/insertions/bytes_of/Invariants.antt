use Rattle.edit_ops.proofs.Common.{◌≡◌, ◌-◌, ◌^◌, take, min, total_bytes, All, IsScalar, SlottedText}
use Rattle.edit_ops.proofs.insertions.bytes_of.Given as goal

abbrev pub invariant-loop-piece : goal.invariant-loop-piece
invariant-loop-piece l =
    (l.most ≡ min (total_bytes (take l.piece-index l.pieces)) (2 ^ 64 - 1))
    × All (λ (piece : SlottedText). All IsScalar piece.text) (take l.piece-index l.pieces)
