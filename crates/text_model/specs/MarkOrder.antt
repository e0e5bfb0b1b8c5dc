-- The marks of a text by where they stand.
use Rattle.std.specs.Prelude.{ℕ, min, max, nat_lt, nat_le, ◌==◌, List, map, Option}
use Rattle.std.specs.List.{filter, reduce}
use Rattle.std.specs.FinMap as finite
use Rattle.text_model.specs.declared.places.MarkNo.{MarkNo}
use Rattle.text_model.specs.declared.places.Place.{Place}
use Rattle.text_model.specs.Content.{Marks}

-- the offsets of the marks, in the order of their numbers
abbrev pub offsets : Marks → List ℕ
offsets marks = map (λ (place : Place). place.offset) (finite.values marks)

-- the least offset at or above a place at which a mark stands, if any
abbrev pub next_mark : ℕ → Marks → Option ℕ
next_mark at marks = reduce min (filter (λ offset. nat_le at offset) (offsets marks))

-- the greatest offset below a place at which a mark stands, if any
abbrev pub previous_mark : ℕ → Marks → Option ℕ
previous_mark at marks = reduce max (filter (λ offset. nat_lt offset at) (offsets marks))

-- the marks that stand at an offset, in the order of their numbers
abbrev pub marks_at : ℕ → Marks → List MarkNo
marks_at at marks =
    map (λ entry. record { 0 = entry.0 }) (filter (λ (entry : ℕ × Place). entry.1.offset == at) (finite.entries marks))
