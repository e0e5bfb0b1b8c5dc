-- A list of names as it is kept: a map in order, and for each number the place of the name that has it.
use Rattle.std.specs.Prelude.{◌≡◌, ℕ, ◌<◌, ◌≤◌, ◌^◌, Bool, Option, Some, List, map, length, is_some, option_and_then}
use Rattle.std.specs.Prelude.{slice_get, chars, string_bytes, String, None, [], ◌∷◌, ◌++◌, nat_eq, if◌then◌else◌}
use Rattle.name_list.specs.Names.{Named, Names, IsLeastFree}

abbrev pub named : {Z : Type 0} → String Z × ℕ → Named
named entry = record { name = chars (string_bytes entry.0); number = entry.1 }

abbrev pub names_kept : {Z : Type 0} → List (String Z × ℕ) → ℕ → Names
names_kept {Z} entries limit = record { entries = map (named {Z = Z}) entries; limit = limit }

-- whether a number has a place
abbrev pub is_taken : List (Option ℕ) → ℕ → Bool
is_taken places number = is_some (option_and_then (λ place. place) (slice_get places number))

-- the places with one for a number, before which each number has one
abbrev pub with_place_for : ℕ → List (Option ℕ) → List (Option ℕ)
with_place_for number places = if nat_eq number (length places) then places ++ None ∷ [] else places

-- each number has the place that it had, in a list that isn't longer
pub record AreTrimmed (old new : List (Option ℕ)) : Type 0 where
  pub same : (at number : ℕ) → slice_get old number ≡ Some (Some at) → slice_get new number ≡ Some (Some at)
  pub no_others : (at number : ℕ) → slice_get new number ≡ Some (Some at) → slice_get old number ≡ Some (Some at)
  pub shorter : length new ≤ length old

-- the places are those at which the numbers stand
pub record IsIndex (numbers : List ℕ) (places : List (Option ℕ)) : Type 0 where
  pub placed : (at number : ℕ) → slice_get numbers at ≡ Some number → slice_get places number ≡ Some (Some at)
  pub there : (at number : ℕ) → slice_get places number ≡ Some (Some at) → slice_get numbers at ≡ Some number

-- the places of the first so many numbers are right, and no other number has a place but those that are listed
pub record IsIndexTo (numbers : List ℕ) (upto : ℕ) (places : List (Option ℕ)) : Type 0 where
  pub placed : (at number : ℕ) → at < upto → slice_get numbers at ≡ Some number →
      slice_get places number ≡ Some (Some at)
  pub listed : (at number : ℕ) → slice_get places number ≡ Some (Some at) →
      (i : ℕ) × (slice_get numbers i ≡ Some number)

-- how the fields belong together: `free` is the least number that no name has
pub record AreKept (numbers : List ℕ) (places : List (Option ℕ)) (free limit : ℕ) : Type 0 where
  pub index : IsIndex numbers places
  pub least : IsLeastFree numbers free
  pub within : free ≤ length places
  pub room : length numbers ≤ limit
  pub few : length places ≤ limit
  pub small : limit < 2 ^ 16
