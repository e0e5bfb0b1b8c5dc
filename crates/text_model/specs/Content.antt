-- What a text store keeps: cells, each a character with a set of tag slots, and marks by their numbers.
use Rattle.std.specs.Prelude.{ℕ, zero, suc, ◌-◌, ◌==◌, Bool, List, [], ◌∷◌, get_or, map, if◌then◌else◌}
use Rattle.std.specs.FinSet as set
use Rattle.std.specs.FinMap as finite
use Rattle.std.specs.Ordering.{nat_cmp}
use Rattle.text_model.specs.declared.cells.Cell.{Cell}
use Rattle.text_model.specs.declared.places.Place.{Place}

abbrev pub Slots : Type 0
Slots = set.FinSet nat_cmp

abbrev pub Marks : Type 0
Marks = finite.FinMap nat_cmp Place

pub record Content : Type 0 where
  pub cells : List Cell
  pub marks : Marks

abbrev pub characters : List Cell → List ℕ
characters cells = map (λ (cell : Cell). cell.character) cells

-- the slots of each cell
abbrev pub slot_sets : List Cell → List Slots
slot_sets cells = map (λ (cell : Cell). cell.tags) cells

-- the slots of the last of the cells before a place, if there is one
abbrev pub slots_left_of : ℕ → List Cell → Slots
slots_left_of zero cells = set.empty
slots_left_of (suc n) cells = get_or (slot_sets cells) n set.empty

-- the slots that the cell before a place and the cell at another one share; none at the start
abbrev pub slots_around : ℕ → ℕ → List Cell → Slots
slots_around from to cells =
    if from == 0 then set.empty else set.intersection (get_or (slot_sets cells) (from - 1) set.empty)
    (get_or (slot_sets cells) to set.empty)

-- the slots that the cells on both sides of a place have; none at the start
abbrev pub shared_slots : ℕ → List Cell → Slots
shared_slots at cells = slots_around at at cells

-- whether each cell has a slot
abbrev pub flags : ℕ → List Cell → List Bool
flags slot cells = map (λ (cell : Cell). set.contains cell.tags slot) cells

-- a new text: one newline, and no marks
abbrev pub new_content : Content
new_content = record { cells = record { character = 10; tags = set.empty } ∷ []; marks = finite.empty }

-- each mark where a function puts it
abbrev pub map_marks : (Place → Place) → Marks → Marks
map_marks f marks = finite.from_entries (map (λ entry. (entry.0, f entry.1)) (finite.entries marks))
