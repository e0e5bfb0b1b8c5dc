use Rattle.line_lists.proofs.Common.{◌≡◌, ℕ, ◌≤◌, drop, freed, named}
use Rattle.line_lists.proofs.pieces.take_marks.Given as goal

abbrev pub invariant-loop-index : goal.invariant-loop-index
invariant-loop-index g l =
    (g.L.LineList.lines l.list ≡ freed (named (drop l.index l.numbers)) (g.L.LineList.lines l.initial.list))
    × ((count rows : ℕ) → g.L.LineList.has_room l.initial.list count rows → g.L.LineList.has_room l.list count rows)
    × (g.L.LineList.mark_room l.initial.list ≤ g.L.LineList.mark_room l.list)
