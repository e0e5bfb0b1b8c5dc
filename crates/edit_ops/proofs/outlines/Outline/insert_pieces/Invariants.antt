use Rattle.std.specs.FinSet as set
use Rattle.edit_ops.proofs.InsertLaws.{Inserting}
use Rattle.edit_ops.proofs.outlines.Outline.insert_pieces.Given as goal

abbrev pub invariant-loop-piece : goal.invariant-loop-piece
invariant-loop-piece l = Inserting l.keeps l.fn.self l.self l.fn.gap.at l.fn.gap.len
    (set.intersection l.fn.gap.before l.fn.gap.behind) l.fn.pieces.items l.at l.len
    (set.intersection l.slots l.fn.gap.behind) l.fn.gap.behind l.piece-iterator.rest.items
