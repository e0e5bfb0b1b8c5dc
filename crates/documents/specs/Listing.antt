-- What is written into lists.
use Rattle.std.specs.Prelude.{ℕ, Bool, not, ◌==◌, length, List, [], ◌∷◌, Option, None, Some, if◌then◌else◌}
use Rattle.text_index.specs.Positions.{position_text}
use Rattle.text_index.specs.declared.ranges.TagRange.{TagRange}

abbrev pub is_filled : List ℕ → Bool
is_filled text = not (length text == 0)

-- where ranges begin and end, as `line.char`
abbrev pub range_words : List ℕ → List TagRange → List (List ℕ)
range_words text [] = []
range_words text (range ∷ ranges) =
    position_text text range.start ∷ position_text text range.end ∷ range_words text ranges

-- a range, if there is one and it begins as wanted
abbrev pub begun : (ℕ → Bool) → Option TagRange → List TagRange
begun wanted None = []
begun wanted (Some range) = if wanted range.start then range ∷ [] else []
