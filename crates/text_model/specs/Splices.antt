-- What an insertion, a removal and a change do to a list, and the first two to a place in it.
use Rattle.std.specs.Prelude.{ℕ, ◌+◌, ◌-◌, Bool, true, false, ◌||◌, ◌&&◌, ◌==◌, nat_lt, min, List, ◌++◌, map, take}
use Rattle.std.specs.Prelude.{drop, slice_range, if◌then◌else◌}
use Rattle.text_model.specs.declared.places.Gravity.{Gravity}
use Rattle.text_model.specs.declared.places.Gravity.TheVariants.{Left, Right}
use Rattle.text_model.specs.declared.places.Place.{Place}

-- the list with other elements put in before the element at an offset
abbrev pub inserted : {A : Type 0} → ℕ → List A → List A → List A
inserted at new xs = take at xs ++ new ++ drop at xs

-- the list without the elements from one offset to another
abbrev pub removed : {A : Type 0} → ℕ → ℕ → List A → List A
removed from to xs = take from xs ++ drop to xs

-- the list with the elements from one offset to another changed by a function
abbrev pub changed : {A : Type 0} → (A → A) → ℕ → ℕ → List A → List A
changed f from to xs = take from xs ++ map f (slice_range xs from to) ++ drop to xs

abbrev pub is_right : Gravity → Bool
is_right Left = false
is_right Right = true

-- a mark goes behind what is inserted if it stands behind the place, or there with right gravity
abbrev pub goes_behind : ℕ → Place → Bool
goes_behind at place = nat_lt at place.offset || (place.offset == at && is_right place.gravity)

-- where a mark stands after so many cells are inserted at an offset
abbrev pub moved : ℕ → ℕ → Place → Place
moved at count place = if goes_behind at place then record place { offset = place.offset + count } else place

-- where a mark stands after a removal: behind the kept cells that were before it
abbrev pub drawn : ℕ → ℕ → Place → Place
drawn from to place = record place { offset = min place.offset from + (place.offset - to) }
