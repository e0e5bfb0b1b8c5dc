-- The text of a place: `line.char` (text(n), "INDICES").
use Rattle.std.specs.Prelude.{ℕ, ◌+◌, List, ◌∷◌, ◌++◌, decimal}
use Rattle.text_model.specs.Lines.{line_of}
use Rattle.text_index.specs.Values.{column_of}

-- the line, counted from 1, a dot, and how many characters stand before the place in its line
abbrev pub position_text : List ℕ → ℕ → List ℕ
position_text text place = decimal (1 + line_of text place) ++ 46 ∷ decimal (column_of text place)
