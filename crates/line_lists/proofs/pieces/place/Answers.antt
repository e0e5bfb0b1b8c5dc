use Rattle.line_lists.proofs.Common.{subst, sym, ap, ◌∙◌, arith, All, All-weaker, LineContent, NumbersBelow, CanPlace}
use Rattle.line_lists.proofs.Common.{lines_more, piece_lines, placed, rows_more}
use Rattle.line_lists.proofs.GatherLaws.{all-pieces}
use Rattle.line_lists.proofs.GrowthLaws.{room_first}
use Rattle.line_lists.proofs.PieceLaws.{can-split, placed-snoc}
use Rattle.line_lists.proofs.pieces.place.Goals as goal

pub splice-requires-clause-within : goal.splice-requires-clause-within
splice-requires-clause-within g c =
    let lines = g.L.LineList.lines c.loop-piece.list in
    (can-split c.pop.new.self.items c.in-Some.piece lines
    (subst (λ ps. CanPlace ps lines) c.in-Some.ensures.items c.loop-piece.invariant.0)).1.within

pub splice-requires-clause-room : goal.splice-requires-clause-room
splice-requires-clause-room g c =
    let pieces = c.pop.new.self.items in (
      lines_more pieces,
      rows_more pieces,
      room_first (g.L.LineList.has_room c.loop-piece.list) pieces c.in-Some.piece
          c.loop-piece.pieces.items c.in-Some.ensures.items c.loop-piece.invariant.2,
    )

pub splice-requires-clause-numbers : goal.splice-requires-clause-numbers
splice-requires-clause-numbers g c =
    let P = λ (line : LineContent). NumbersBelow (g.L.LineList.mark_room c.loop-piece.list) line.marks in
    (all-pieces P c.pop.new.self.items c.in-Some.piece
    (subst (λ ps. All P (piece_lines ps)) c.in-Some.ensures.items c.loop-piece.invariant.3)).1

pub splice-requires-clause-lines : goal.splice-requires-clause-lines
splice-requires-clause-lines g c =
    let lines = g.L.LineList.lines c.loop-piece.list in
    (can-split c.pop.new.self.items c.in-Some.piece lines
    (subst (λ ps. CanPlace ps lines) c.in-Some.ensures.items c.loop-piece.invariant.0)).1.are

pub splice-requires-clause-counted : goal.splice-requires-clause-counted
splice-requires-clause-counted g c =
    let lines = g.L.LineList.lines c.loop-piece.list in
    (can-split c.pop.new.self.items c.in-Some.piece lines
    (subst (λ ps. CanPlace ps lines) c.in-Some.ensures.items c.loop-piece.invariant.0)).1.counted

pub loop-piece-preserved : goal.loop-piece-preserved
loop-piece-preserved g c =
    let lines = g.L.LineList.lines c.loop-piece.list in
    let pieces = c.pop.new.self.items in
    let piece = c.in-Some.piece in
    let items = c.in-Some.ensures.items in
    let old = λ (line : LineContent). NumbersBelow (g.L.LineList.mark_room c.loop-piece.list) line.marks in
    let new = λ (line : LineContent). NumbersBelow (g.L.LineList.mark_room c.splice.new.self) line.marks in
    let made = c.splice.ensures.lines in (
      subst (CanPlace pieces) (sym made) (can-split pieces piece lines
          (subst (λ ps. CanPlace ps lines) items c.loop-piece.invariant.0)).0,
      ap (placed pieces) made ∙ sym (placed-snoc pieces piece lines) ∙ ap (λ ps. placed ps lines) (sym items)
          ∙ c.loop-piece.invariant.1,
      c.splice.ensures.room (lines_more pieces) (rows_more pieces)
          (room_first (g.L.LineList.has_room c.loop-piece.list) pieces piece c.loop-piece.pieces.items items
          c.loop-piece.invariant.2),
      All-weaker old new (λ line below number place is. omega (arith, below number place is, c.splice.ensures.numbers))
          (piece_lines pieces)
          (all-pieces old pieces piece (subst (λ ps. All old (piece_lines ps)) items c.loop-piece.invariant.3)).0,
    )
