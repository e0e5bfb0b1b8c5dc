use Rattle.line_lists.proofs.Common.{◌≡◌, ◌++◌}
use Rattle.line_lists.proofs.GatherLaws.{Gathers}
use Rattle.line_lists.proofs.pieces.pieces_of.Given as goal

abbrev pub invariant-loop-stop : goal.invariant-loop-stop
invariant-loop-stop g l =
    Gathers l.fn.front.items l.yielded (g.L.LineList.lines l.fn.list) l.pieces.items
    × (l.fn.front.items ≡ l.yielded ++ l.stop-iterator.rest.items)
