-- The marks of a line by their numbers, which rise.
use Rattle.std.specs.Prelude.{ℕ, ◌+◌, ◌<◌, ◌≤◌, ◌^◌, T, List, map}
use Rattle.std.specs.List.{All}
use Rattle.std.specs.FinMap as finite
use Rattle.std.specs.Ordering.{nat_cmp}
use Rattle.text_model.specs.declared.places.Place.{Place}
use Rattle.text_model.specs.Content.{Marks}
use Rattle.segments.specs.declared.marks.Mark.{Mark}

abbrev pub entry_of : Mark → ℕ × Place
entry_of mark = (mark.number.0, mark.place)

abbrev pub entries_of : List Mark → List (ℕ × Place)
entries_of marks = map entry_of marks

-- the marks of a list
abbrev pub marks_of : List Mark → Marks
marks_of marks = finite.from_sorted (entries_of marks)

-- the numbers rise
abbrev pub Rise : List Mark → Type 0
Rise marks = T (finite.is_sorted nat_cmp (entries_of marks))

-- no mark stands behind a column
abbrev pub StandIn : ℕ → List Mark → Type 0
StandIn len marks = All (λ (mark : Mark). mark.place.offset ≤ len) marks

-- a mark has a lower number
abbrev pub Below : ℕ → Mark → Type 0
Below number mark = mark.number.0 < number

-- a mark can move so many columns on
abbrev pub HaveRoom : ℕ → Mark → Type 0
HaveRoom count mark = mark.place.offset + count < 2 ^ 64

-- a mark where a function puts it
abbrev pub with_place : (Place → Place) → Mark → Mark
with_place f mark = record mark { place = f mark.place }
