-- The part of a text that a view shows: from one offset to another.
use Rattle.std.specs.Prelude.{option_and_then, ℕ, ◌<◌, ◌≤◌, ◌^◌, nat_lt, nat_le, min, ◌-◌, Bool, ◌&&◌, List}
use Rattle.std.specs.Prelude.{slice_range, Option, None, Some, if◌then◌else◌}
use Rattle.std.specs.FinMap as finite
use Rattle.text_model.specs.Content.{Content, characters, flags}
use Rattle.text_model.specs.Lines.{IsLineStart}
use Rattle.text_model.specs.declared.places.Place.{Place}
use Rattle.mark_table.specs.SharedMarks.{first_number}

-- a text with its tags and marks, and the offsets from which and to before which it is shown
pub record Part : Type 0 where
  pub content : Content
  pub start : ℕ
  pub end : ℕ

-- the characters of the part
abbrev pub shown : Part → List ℕ
shown part = slice_range (characters part.content.cells) part.start part.end

-- which of them have the tag of a slot
abbrev pub shown_flags : ℕ → Part → List Bool
shown_flags slot part = slice_range (flags slot part.content.cells) part.start part.end

-- whole lines of the text, up to an offset that fits a usize
pub record IsView (part : Part) : Type 0 where
  pub ordered : part.start ≤ part.end
  pub fits : part.end < 2 ^ 64
  pub first : IsLineStart (characters part.content.cells) part.start
  pub behind : IsLineStart (characters part.content.cells) part.end

-- where the view shows a mark of its own widget, counted from its start: within its characters
abbrev pub own_place : ℕ → ℕ → Place → ℕ
own_place start end place = min (place.offset - start) (end - start - 1)

-- where it shows one of the marks that widgets share: none outside it
abbrev pub shared_place : ℕ → ℕ → Place → Option ℕ
shared_place start end place =
    if nat_le start place.offset && nat_le place.offset end then Some (place.offset - start) else None

-- where it shows the mark of a number, if it does: the numbers below the first of the shared marks are widgets' own
abbrev pub shown_mark : Part → ℕ → Option ℕ
shown_mark part number =
    option_and_then (λ place. if nat_lt number first_number then Some (own_place part.start part.end place)
    else shared_place part.start part.end place)
    (finite.get part.content.marks number)
