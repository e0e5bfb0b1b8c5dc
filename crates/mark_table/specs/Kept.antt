-- A table of marks as it is kept: a list of names with numbers, and a gravity for each number.
use Rattle.std.specs.Prelude.{◌≡◌, ℕ, ◌+◌, ◌<◌, ◌≤◌, Some, List, [], ◌∷◌, ◌++◌, map, length, nat_eq, slice_get}
use Rattle.std.specs.Prelude.{unwrap_or, if◌then◌else◌}
use Rattle.name_list.specs.Names.{Named, Names, numbers_of}
use Rattle.text_model.specs.LimitTable.{most_marks}
use Rattle.text_model.specs.declared.places.Gravity.{Gravity}
use Rattle.text_model.specs.declared.places.Gravity.TheVariants.{Right}
use Rattle.mark_table.specs.SharedMarks.{Mark, SharedMarks, first_number}

abbrev pub gravity_at : List Gravity → ℕ → Gravity
gravity_at gravities number = unwrap_or (slice_get gravities number) Right

abbrev pub mark : List Gravity → Named → Mark
mark gravities entry =
    record { name = entry.name; number = first_number + entry.number; gravity = gravity_at gravities entry.number }

abbrev pub marks_kept : Names → List Gravity → SharedMarks
marks_kept names gravities = record { marks = map (mark gravities) names.entries; limit = names.limit }

-- the gravities with one for a number, before which each number has one
abbrev pub with_gravity_for : ℕ → List Gravity → List Gravity
with_gravity_for number gravities = if nat_eq number (length gravities) then gravities ++ Right ∷ [] else gravities

-- each number that a mark has has a gravity
pub record AreKept (names : Names) (gravities : List Gravity) : Type 0 where
  pub few : names.limit ≤ most_marks
  pub each : (place number : ℕ) → slice_get (numbers_of names.entries) place ≡ Some number → number < length gravities
