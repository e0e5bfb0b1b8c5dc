-- How the order of marks is looked through: at one place, and from place to place.
use Rattle.std.specs.Prelude.{◌≡◌, ℕ, ◌+◌, ◌<◌, ◌≤◌, false, true, Option, None, Some, List, [], slice_get}
use Rattle.std.specs.Prelude.{if◌then◌else◌}
use Rattle.std.specs.FinMap as finite
use Rattle.std.specs.Option.{MatchOption, option_map_or}
use Rattle.text_model.specs.Content.{Marks}
use Rattle.mark_table.specs.declared.order.MarkView.{MarkView}
use Rattle.text_model.specs.declared.places.MarkNo.{MarkNo}
use Rattle.mark_table.specs.declared.order.Shown.{Shown}
use Rattle.mark_table.specs.Order.{earlier, shared_mark}

-- one of the marks at a place is the shared mark of a rank among the shared ones
abbrev pub IsAt : List MarkNo → List ℕ → ℕ → Type 0
IsAt at numbers place =
    (index : ℕ) × (number : MarkNo) × (slice_get at index ≡ Some number) × (slice_get numbers place ≡ Some number.0)

-- the first of the shared marks at a place, from one on
abbrev pub IsFirstAt : List MarkNo → List ℕ → ℕ → Option ℕ → Type 0
IsFirstAt at numbers from found =
    MatchOption found ((place : ℕ) → from ≤ place → ¬ IsAt at numbers place)
    (λ first. (from ≤ first) × IsAt at numbers first
    × ((place : ℕ) → from ≤ place → IsAt at numbers place → first ≤ place))

-- the last of the shared marks at a place, before one
abbrev pub IsLastAt : List MarkNo → List ℕ → ℕ → Option ℕ → Type 0
IsLastAt at numbers upto found =
    MatchOption found ((place : ℕ) → place < upto → ¬ IsAt at numbers place)
    (λ last. (last < upto) × IsAt at numbers last × ((place : ℕ) → place < upto → IsAt at numbers place → place ≤ last))

-- the first of some marks that isn't earlier than a bound
abbrev pub IsFirst : List Shown → Shown → Option Shown → Type 0
IsFirst marks bound found =
    MatchOption found ((at : ℕ) (shown : Shown) → slice_get marks at ≡ Some shown → earlier shown bound ≡ true)
    (λ first. ((at : ℕ) × (slice_get marks at ≡ Some first)) × (earlier first bound ≡ false)
    × ((at : ℕ) (shown : Shown) → slice_get marks at ≡ Some shown → earlier shown bound ≡ false →
    earlier shown first ≡ false))

-- the last of some marks that is earlier than a bound
abbrev pub IsLast : List Shown → Shown → Option Shown → Type 0
IsLast marks bound found =
    MatchOption found ((at : ℕ) (shown : Shown) → slice_get marks at ≡ Some shown → earlier shown bound ≡ false)
    (λ last. ((at : ℕ) × (slice_get marks at ≡ Some last)) × (earlier last bound ≡ true)
    × ((at : ℕ) (shown : Shown) → slice_get marks at ≡ Some shown → earlier shown bound ≡ true →
    earlier last shown ≡ false))

-- the earlier of two marks, and the later
abbrev pub first_of : Option Shown → Option Shown → Option Shown
first_of None other = other
first_of (Some one) None = Some one
first_of (Some one) (Some other) = Some (if earlier other one then other else one)

abbrev pub last_of : Option Shown → Option Shown → Option Shown
last_of None other = other
last_of (Some one) None = Some one
last_of (Some one) (Some other) = Some (if earlier one other then other else one)

-- the shared mark at a place of the table, as a list
abbrev pub shared_at : MarkView → Marks → List ℕ → ℕ → List Shown
shared_at view marks numbers place =
    option_map_or (λ number. shared_mark view (2 + place) (finite.get marks number)) (slice_get numbers place) []
