use Rattle.line_lists.proofs.Common.{◌≡◌, take, lines_more, rows_more}
use Rattle.line_lists.proofs.pieces.growth_of.Given as goal

abbrev pub invariant-loop-piece : goal.invariant-loop-piece
invariant-loop-piece l = record {
  lines : l.growth.lines ≡ lines_more (take l.piece-index l.pieces);
  rows : l.growth.rows ≡ rows_more (take l.piece-index l.pieces);
}
