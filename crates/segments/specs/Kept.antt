-- How a line is kept: what its toggles make of its columns, and its marks by their numbers, which rise.
use Rattle.std.specs.Prelude.{ℕ, suc, ◌≤◌, List, [], ◌∷◌}
use Rattle.segments.specs.declared.toggles.Toggled.{Toggled}
use Rattle.segments.specs.declared.marks.Mark.{Mark}
use Rattle.segments.specs.Columns.{Column}
use Rattle.segments.specs.Entries.{toggled_at}
use Rattle.segments.specs.Marks.{Rise, StandIn}

-- the columns of some characters, of which the first is at a column
abbrev pub columns_from : ℕ → List ℕ → List Toggled → List Column
columns_from at [] entries = []
columns_from at (character ∷ text) entries =
    record { character = character; toggled = toggled_at entries at } ∷ columns_from (suc at) text entries

-- the numbers of the marks rise, and they stand in so many characters
pub record AreMarks (len : ℕ) (marks : List Mark) : Type 0 where
  pub rise : Rise marks
  pub stand : StandIn len marks

-- marks of a line of so many characters, of which none stands behind a column
pub record AreKept (len reach : ℕ) (marks : List Mark) : Type 0 where
  pub rise : Rise marks
  pub stand : StandIn reach marks
  pub within : reach ≤ len
