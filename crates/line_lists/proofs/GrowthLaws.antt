-- How many lines pieces bring beyond those in whose place they come, and in how many rows.
use Rattle.line_lists.proofs.Common.{◌≡◌, ℕ, ◌+◌, ◌-◌, ◌<◌, ◌≤◌, min, List, [], ◌∷◌, ◌++◌, length, get_or, take, subst₂}
use Rattle.line_lists.proofs.Common.{sym, ap, ◌∙◌, arith, take_more, Piece, more_lines, row_of, lines_more, rows_more}

lines-snoc : (pieces : List Piece) (piece : Piece) →
    lines_more (pieces ++ piece ∷ []) ≡ more_lines piece.count piece.lines.items + lines_more pieces
lines-snoc [] piece = omega arith
lines-snoc (first ∷ pieces) piece = omega (arith, lines-snoc pieces piece)

rows-snoc : (pieces : List Piece) (piece : Piece) →
    rows_more (pieces ++ piece ∷ []) ≡ row_of piece.count piece.lines.items + rows_more pieces
rows-snoc [] piece = omega arith
rows-snoc (first ∷ pieces) piece = omega (arith, rows-snoc pieces piece)

-- room for all pieces is room for the last and for those before it
pub room_first : (has_room : ℕ → ℕ → Type 0) (pieces : List Piece) (piece : Piece) (all : List Piece) →
    all ≡ pieces ++ piece ∷ [] → has_room (lines_more all) (rows_more all)
    → has_room (more_lines piece.count piece.lines.items + lines_more pieces)
    (row_of piece.count piece.lines.items + rows_more pieces)
room_first has_room pieces piece all is room = subst₂ has_room (ap lines_more is ∙ lines-snoc pieces piece)
    (ap rows_more is ∙ rows-snoc pieces piece) room

pub rows-few : (pieces : List Piece) → rows_more pieces ≤ lines_more pieces
rows-few [] = omega arith
rows-few (piece ∷ pieces) = omega (arith, rows-few pieces)

-- one piece more of a slice
pub lines-next : (pieces : List Piece) (i : ℕ) (piece : Piece) → i < length pieces → piece ≡ get_or pieces i piece →
    lines_more (take (i + 1) pieces) ≡ lines_more (take i pieces) + (length piece.lines.items - piece.count)
lines-next pieces i piece within is =
    ap lines_more (take_more pieces i piece within ∙ ap (λ p. take i pieces ++ p ∷ []) (sym is))
    ∙ lines-snoc (take i pieces) piece ∙ omega arith

pub rows-next : (pieces : List Piece) (i : ℕ) (piece : Piece) → i < length pieces → piece ≡ get_or pieces i piece →
    rows_more (take (i + 1) pieces) ≡ rows_more (take i pieces) + min 1 (length piece.lines.items - piece.count)
rows-next pieces i piece within is =
    ap rows_more (take_more pieces i piece within ∙ ap (λ p. take i pieces ++ p ∷ []) (sym is))
    ∙ rows-snoc (take i pieces) piece ∙ omega arith
