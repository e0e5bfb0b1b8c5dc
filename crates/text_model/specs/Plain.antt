-- What a plain store contains.
use Rattle.std.specs.Prelude.{ℕ, ◌+◌, ◌≤◌, ◌^◌, min, max, Bool, false, ◌==◌, nat_lt, nat_le, Option, None, Some, List}
use Rattle.std.specs.Prelude.{[], ◌∷◌, length, if◌then◌else◌}
use Rattle.std.specs.FinMap as finite
use Rattle.text_model.specs.declared.cells.Cell.{Cell}
use Rattle.text_model.specs.declared.places.Place.{Place}
use Rattle.text_model.specs.Content.{Content, Marks}
use Rattle.text_model.specs.Documents.{MarksStand}

-- the entry of a number that has a mark
abbrev pub entry_of : ℕ → Option Place → List (ℕ × Place) → List (ℕ × Place)
entry_of number None entries = entries
entry_of number (Some place) entries = (number, place) ∷ entries

-- the marks of a list of places, from a number on
abbrev pub places_from : ℕ → List (Option Place) → List (ℕ × Place)
places_from number [] = []
places_from number (place ∷ places) = entry_of number place (places_from (number + 1) places)

abbrev pub plain_marks : List (Option Place) → Marks
plain_marks places = finite.from_sorted (places_from 0 places)

abbrev pub plain_content : List Cell → List (Option Place) → Content
plain_content cells places = record { cells = cells; marks = plain_marks places }

-- marks stand in the text, and each has a number
pub record IsPlain (cells : List Cell) (places : List (Option Place)) : Type 0 where
  pub stand : MarksStand (plain_content cells places)
  pub few : length places ≤ 2 ^ 16

-- whether a mark is there, and stands at an offset
abbrev pub stands_at : Option Place → ℕ → Bool
stands_at None at = false
stands_at (Some place) at = place.offset == at

-- what a function makes of two offsets, of which the first may be missing
abbrev pub joined : (ℕ → ℕ → ℕ) → Option ℕ → ℕ → ℕ
joined f None offset = offset
joined f (Some other) offset = f other offset

-- the least of offsets at or above one, and the greatest of offsets below one, with a place more
abbrev pub with_next : Option ℕ → ℕ → Option Place → Option ℕ
with_next next at None = next
with_next next at (Some place) = if nat_le at place.offset then Some (joined min next place.offset) else next

abbrev pub with_previous : Option ℕ → ℕ → Option Place → Option ℕ
with_previous previous at None = previous
with_previous previous at (Some place) =
    if nat_lt place.offset at then Some (joined max previous place.offset) else previous
