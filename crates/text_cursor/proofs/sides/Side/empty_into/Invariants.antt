use Rattle.text_cursor.proofs.Common.{◌≡◌, ◌++◌, length, reverse, side_parts}
use Rattle.text_cursor.proofs.sides.Side.empty_into.Given as goal

abbrev pub invariant-loop-part : goal.invariant-loop-part
invariant-loop-part l =
    l.parts.items ++ reverse (side_parts l.side) ≡ l.fn.parts.items ++ reverse (side_parts l.fn.self)

abbrev pub decreases-loop-part : goal.decreases-loop-part
decreases-loop-part l = length (side_parts l.side)
