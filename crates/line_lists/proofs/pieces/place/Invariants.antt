use Rattle.line_lists.proofs.Common.{◌≡◌, All, LineContent, NumbersBelow, CanPlace, lines_more, piece_lines, placed}
use Rattle.line_lists.proofs.Common.{rows_more}
use Rattle.line_lists.proofs.pieces.place.Given as goal

abbrev pub invariant-loop-piece : goal.invariant-loop-piece
invariant-loop-piece g l =
    CanPlace l.pieces.items (g.L.LineList.lines l.list)
    × (placed l.pieces.items (g.L.LineList.lines l.list)
    ≡ placed l.initial.pieces.items (g.L.LineList.lines l.initial.list))
    × g.L.LineList.has_room l.list (lines_more l.pieces.items) (rows_more l.pieces.items)
    × All (λ (line : LineContent). NumbersBelow (g.L.LineList.mark_room l.list) line.marks) (piece_lines l.pieces.items)

abbrev pub decreases-loop-piece : goal.decreases-loop-piece
decreases-loop-piece g l = goal.left-loop-piece g l
