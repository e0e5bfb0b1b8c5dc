-- The marks that a widget can use, from a place on.
use Rattle.std.specs.Prelude.{codes, ◌≡◌, ℕ, ◌+◌, ◌-◌, ◌*◌, ◌<◌, ◌≤◌, ◌==◌, ◌&&◌, nat_le, min, Bool, true, false}
use Rattle.std.specs.Prelude.{List, Option, None, Some, MatchOption, slice_get, if◌then◌else◌}
use Rattle.std.specs.FinMap as finite
use Rattle.std.specs.List.{flat_map}
use Rattle.std.specs.Option.{option_and_then, option_map}
use Rattle.mark_table.specs.Order.{earlier, rank_of}
use Rattle.mark_table.specs.SharedMarks.{numbers_of}
use Rattle.mark_table.specs.declared.order.Shown.{Shown}
use Rattle.mark_table.specs.declared.order.WidgetMark.{WidgetMark}
use Rattle.mark_table.specs.declared.order.WidgetMark.TheVariants.{Insert, Current, Shared}
use Rattle.text_model.specs.declared.places.Place.{Place}
use Rattle.search_dump.specs.Dump.{Outlook, element, if_listed, name_of_rank, usable_by}
use Rattle.search_dump.specs.declared.dumped_marks.Marked.{Marked}

-- one of some marks
abbrev pub Has : List Shown → Shown → Type 0
Has marks mark = (at : ℕ) × (slice_get marks at ≡ Some mark)

-- a mark of a view, as it is ordered
abbrev pub shown_of : ℕ → Marked → Shown
shown_of start marked = record { place = start + marked.place; rank = rank_of marked.mark }

-- where the view shows a mark, counted from its start
abbrev pub own_place_in : ℕ → ℕ → Option Place → Option ℕ
own_place_in start end place = option_map (λ (at : Place). min (at.offset - start) (end - start - 1)) place

abbrev pub shared_place_in : ℕ → Option Place → Option ℕ
shared_place_in start place =
    option_and_then (λ (at : Place). if nat_le start at.offset then Some (at.offset - start) else None) place

abbrev pub place_in : Outlook → WidgetMark → Option ℕ
place_in outlook Insert =
    own_place_in outlook.part.start outlook.part.end (finite.get outlook.part.content.marks (2 * outlook.widget))
place_in outlook Current =
    own_place_in outlook.part.start outlook.part.end (finite.get outlook.part.content.marks (2 * outlook.widget + 1))
place_in outlook (Shared at) = option_and_then (λ number.
    shared_place_in outlook.part.start (finite.get outlook.part.content.marks number))
    (slice_get (numbers_of outlook.marks) at)

-- the first of some marks at a place or after it
abbrev pub IsMarkFrom : List Shown → ℕ → Option Shown → Type 0
IsMarkFrom marks place first =
    MatchOption first ((mark : Shown) → Has marks mark → mark.place < place)
    (λ found. Has marks found × (place ≤ found.place)
    × ((mark : Shown) → Has marks mark → place ≤ mark.place → earlier mark found ≡ false))

-- the first of the marks that a widget can use at an offset of the text or after it
abbrev pub IsFirstMark : Outlook → ℕ → Option Marked → Type 0
IsFirstMark outlook offset first =
    IsMarkFrom (usable_by outlook) offset (option_map (shown_of outlook.part.start) first)

-- the first after another mark
abbrev pub IsMarkBehind : List Shown → Shown → Option Shown → Type 0
IsMarkBehind marks before first =
    MatchOption first ((mark : Shown) → Has marks mark → earlier before mark ≡ false)
    (λ found. Has marks found × (earlier before found ≡ true)
    × ((mark : Shown) → Has marks mark → earlier before mark ≡ true → earlier mark found ≡ false))

-- what is listed of the marks at a place, and of those that are before another one
abbrev pub is_before : Option Shown → Shown → Bool
is_before None mark = true
is_before (Some bound) mark = earlier mark bound

abbrev pub passed : ℕ → (Shown → List (List ℕ)) → Option Shown → List Shown → List (List ℕ)
passed place each next marks =
    flat_map (λ (mark : Shown). if_listed (mark.place == place && is_before next mark) (each mark)) marks

-- a mark as it is listed at a place
abbrev pub mark_element : List ℕ → List (List ℕ) → ℕ → Shown → List (List ℕ)
mark_element text names place shown = element (codes "mark") text place (name_of_rank names shown.rank)
