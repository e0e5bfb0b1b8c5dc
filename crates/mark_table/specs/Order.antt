-- The marks that a widget can use, in their order.
use Rattle.std.specs.Prelude.{ℕ, zero, suc, ◌+◌, ◌-◌, ◌*◌, ◌==◌, nat_lt, nat_le, min, max, Bool, ◌||◌, ◌&&◌, Option}
use Rattle.std.specs.Prelude.{None, Some, List, [], ◌∷◌, ◌++◌, find, if◌then◌else◌}
use Rattle.std.specs.List.{filter, reduce}
use Rattle.std.specs.Option.{option_map, option_and_then}
use Rattle.std.specs.FinMap as finite
use Rattle.text_model.specs.declared.places.Place.{Place}
use Rattle.text_model.specs.Content.{Marks}
use Rattle.mark_table.specs.declared.order.MarkView.{MarkView}
use Rattle.mark_table.specs.declared.order.Origin.{Origin}
use Rattle.mark_table.specs.declared.order.Origin.TheVariants.{Mark, Place as Offset}
use Rattle.mark_table.specs.declared.order.Shown.{Shown}
use Rattle.mark_table.specs.declared.order.WidgetMark.{WidgetMark}
use Rattle.mark_table.specs.declared.order.WidgetMark.TheVariants.{Insert, Current, Shared}

-- marks at one place stand in the order of their ranks: `insert`, `current`, then the shared ones by creation
abbrev pub rank_of : WidgetMark → ℕ
rank_of Insert = 0
rank_of Current = 1
rank_of (Shared place) = 2 + place

abbrev pub mark_of : ℕ → WidgetMark
mark_of zero = Insert
mark_of (suc zero) = Current
mark_of (suc (suc place)) = Shared place

-- a mark is earlier by its place, and at one place by its rank
abbrev pub earlier : Shown → Shown → Bool
earlier a b = nat_lt a.place b.place || (a.place == b.place && nat_lt a.rank b.rank)

-- where a mark of the widget's own is shown: in its view, before the last cell at most
abbrev pub own_place : MarkView → ℕ → ℕ
own_place view offset = if view.start == view.end then view.start else max view.start (min offset (view.end - 1))

abbrev pub own_mark : MarkView → ℕ → Option Place → List Shown
own_mark view rank None = []
own_mark view rank (Some place) = record { place = own_place view place.offset; rank = rank } ∷ []

-- a shared mark can be used where it stands in the view, or at its end
abbrev pub shared_mark : MarkView → ℕ → Option Place → List Shown
shared_mark view rank None = []
shared_mark view rank (Some place) =
    if nat_le view.start place.offset && nat_le place.offset view.end
    then record { place = place.offset; rank = rank } ∷ [] else []

-- the shared marks of these numbers, from a rank on
abbrev pub shared_marks : MarkView → Marks → ℕ → List ℕ → List Shown
shared_marks view places rank [] = []
shared_marks view places rank (number ∷ numbers) =
    shared_mark view rank (finite.get places number) ++ shared_marks view places (rank + 1) numbers

-- the marks that a widget can use, given the numbers of the shared ones
abbrev pub usable : MarkView → Marks → List ℕ → List Shown
usable view places numbers =
    own_mark view 0 (finite.get places (2 * view.widget.0))
    ++ (own_mark view 1 (finite.get places (2 * view.widget.0 + 1)) ++ shared_marks view places 2 numbers)

abbrev pub first : List Shown → Option Shown
first marks = reduce (λ a b. if earlier b a then b else a) marks

abbrev pub last : List Shown → Option Shown
last marks = reduce (λ a b. if earlier a b then b else a) marks

-- a mark as it is shown, if the widget can use it
abbrev pub shown_mark : WidgetMark → List Shown → Option Shown
shown_mark mark marks = find (λ (shown : Shown). shown.rank == rank_of mark) marks

-- the first mark behind a mark, or at or behind a place
abbrev pub next_shown : Origin → List Shown → Option Shown
next_shown (Mark mark) marks =
    option_and_then (λ from. first (filter (λ shown. earlier from shown) marks)) (shown_mark mark marks)
next_shown (Offset place) marks = first (filter (λ (shown : Shown). nat_le place shown.place) marks)

-- the last mark before a mark, or before a place
abbrev pub previous_shown : Origin → List Shown → Option Shown
previous_shown (Mark mark) marks =
    option_and_then (λ from. last (filter (λ shown. earlier shown from) marks)) (shown_mark mark marks)
previous_shown (Offset place) marks = last (filter (λ (shown : Shown). nat_lt shown.place place) marks)

abbrev pub next_mark : Origin → List Shown → Option WidgetMark
next_mark origin marks = option_map (λ (shown : Shown). mark_of shown.rank) (next_shown origin marks)

abbrev pub previous_mark : Origin → List Shown → Option WidgetMark
previous_mark origin marks = option_map (λ (shown : Shown). mark_of shown.rank) (previous_shown origin marks)

-- From where a mark is asked for: a place of a view, which begins at a start, becomes an offset of the text, up to the
-- most that a machine counts.
abbrev pub origin_in : ℕ → ℕ → Origin → Origin
origin_in most start (Mark mark) = Mark mark
origin_in most start (Offset place) = Offset (min (place + start) most)
