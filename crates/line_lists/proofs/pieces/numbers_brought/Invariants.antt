use Rattle.line_lists.proofs.Common.{◌≡◌, take, named, numbers_in, piece_lines}
use Rattle.line_lists.proofs.pieces.numbers_brought.Given as goal

abbrev pub invariant-loop-piece : goal.invariant-loop-piece
invariant-loop-piece l = named l.numbers.items ≡ numbers_in (piece_lines (take l.piece-index l.pieces))
