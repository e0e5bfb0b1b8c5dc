-- That some lines are those of a text is a fact, which has one proof at most.
use Rattle.std.specs.Prelude.{List, [], ◌∷◌}
use Rattle.std.proofs.Props.{props}
use Rattle.segments.specs.Columns.{LineContent}
use Rattle.line_lists.specs.Lists.{AreLines, AreRows}

pub AreRows-prop : (lines : List LineContent) → IsProp (AreRows lines)
AreRows-prop [] = Prim.hlevel props
AreRows-prop (line ∷ []) = Prim.hlevel props
AreRows-prop (line ∷ next ∷ others) = let rest = AreRows-prop (next ∷ others) in Prim.hlevel (rest, props)

pub AreLines-prop : (lines : List LineContent) → IsProp (AreLines lines)
AreLines-prop lines = let rows = AreRows-prop lines in Prim.hlevel (rows, props)
