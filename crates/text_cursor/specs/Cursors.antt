-- A text on the way from an old one: parts of that and texts that were put in, around a place.
use Rattle.std.specs.Prelude.{◌≡◌, ℕ, ◌+◌, ◌-◌, ◌<◌, ◌≤◌, ◌^◌, List, [], ◌∷◌, ◌++◌, length, reverse, slice_range}
use Rattle.std.specs.Prelude.{get_or, Option, None, Some, true, false}
use Rattle.std.specs.List.{All}
use Rattle.text_model.specs.declared.cells.Cell.{Cell}
use Rattle.std.specs.FinSet as set
use Rattle.text_model.specs.Content.{Slots, characters, slot_sets}
use Rattle.text_model.specs.Lines.{lines, line_start}
use Rattle.text_model.specs.Splices.{inserted, removed}
use Rattle.text_model.specs.Steps.{cells_of}
use Rattle.text_cursor.specs.declared.cursors.Cursor.{Cursor}
use Rattle.text_cursor.specs.declared.parts.Part.{Part}
use Rattle.text_cursor.specs.Parts.{parts_len}
use Rattle.text_cursor.specs.Sides.{side_parts}

-- the cells of the old text from one offset to another, or those that new characters make with some slots
abbrev pub cells_between : Option Slots → List Cell → List ℕ → ℕ → ℕ → List Cell
cells_between None old new from to = slice_range old from to
cells_between (Some slots) old new from to = cells_of (slice_range new from to) slots

abbrev pub part_cells : List Cell → List ℕ → Part → List Cell
part_cells old new part = cells_between part.slots old new part.from part.to

-- the cells of the parts before a place, the nearest part last
abbrev pub front_cells : List Cell → List ℕ → List Part → List Cell
front_cells old new [] = []
front_cells old new (part ∷ parts) = part_cells old new part ++ front_cells old new parts

-- and of the parts behind it, the nearest part last
abbrev pub behind_cells : List Cell → List ℕ → List Part → List Cell
behind_cells old new [] = []
behind_cells old new (part ∷ parts) = behind_cells old new parts ++ part_cells old new part

abbrev pub cursor_cells : List Cell → Cursor → List Cell
cursor_cells old cursor =
    front_cells old cursor.fresh.items (side_parts cursor.front)
    ++ behind_cells old cursor.fresh.items (side_parts cursor.behind)

-- the parts in the order of the text: of those behind the place the nearest stands last
abbrev pub cursor_parts : Cursor → List Part
cursor_parts cursor = side_parts cursor.front ++ reverse (side_parts cursor.behind)

abbrev pub source_len : Option Slots → ℕ → ℕ → ℕ
source_len None old new = old
source_len (Some slots) old new = new

-- a part isn't empty, and lies in what it is of
pub record PartFits (old new : ℕ) (part : Part) : Type 0 where
  pub some : part.from < part.to
  pub within : part.to ≤ source_len part.slots old new

-- a place in the old text: of a part of that one of its ends, of a new text the border that it stands at
abbrev pub old_place : Option Slots → ℕ → ℕ → ℕ
old_place None end border = end
old_place (Some slots) end border = border

-- from a border in an old text of so many characters on, its parts stand in its order, and new texts between them
abbrev pub Rise : ℕ → ℕ → List Part → Type 0
Rise border len [] = border ≤ len
Rise border len (part ∷ parts) =
    (border ≤ old_place part.slots part.from border) × Rise (old_place part.slots part.to border) len parts

-- the parts fit and rise, the place and the length, which fits a usize, are those of the parts, and only those behind
-- the place stand turned
pub record IsCursor (cursor : Cursor) : Type 0 where
  pub front : All (PartFits cursor.old_len (length cursor.fresh.items)) (side_parts cursor.front)
  pub behind : All (PartFits cursor.old_len (length cursor.fresh.items)) (side_parts cursor.behind)
  pub place : parts_len (side_parts cursor.front) ≡ cursor.at
  pub whole : cursor.at + parts_len (side_parts cursor.behind) ≡ cursor.len
  pub fits : cursor.len < 2 ^ 64
  pub ahead : cursor.front.turned ≡ false
  pub turned : cursor.behind.turned ≡ true
  pub rising : Rise 0 cursor.old_len (cursor_parts cursor)

-- a cursor goes elsewhere in the same text
pub record Moves (before now : Cursor) : Type 0 where
  pub is : IsCursor now
  pub old_len : now.old_len ≡ before.old_len
  pub len : now.len ≡ before.len
  pub cells : (old : List Cell) → cursor_cells old now ≡ cursor_cells old before

-- as many cells as the text is shorter are taken out behind the place
pub record Takes (before now : Cursor) : Type 0 where
  pub is : IsCursor now
  pub old_len : now.old_len ≡ before.old_len
  pub at : now.at ≡ before.at
  pub fewer : now.len ≤ before.len
  pub cells : (old : List Cell) → length old ≡ before.old_len
      → cursor_cells old now ≡ removed before.at (before.at + (before.len - now.len)) (cursor_cells old before)

-- a text is put in before the place
pub record Puts (text : List ℕ) (slots : Slots) (before now : Cursor) : Type 0 where
  pub is : IsCursor now
  pub old_len : now.old_len ≡ before.old_len
  pub len : now.len ≡ before.len + length text
  pub cells : (old : List Cell) → length old ≡ before.old_len →
      cursor_cells old now ≡ inserted before.at (cells_of text slots) (cursor_cells old before)

-- the slots of a cell of the old text, or those of what was put in
abbrev pub slots_in : Option Slots → List Cell → ℕ → Slots
slots_in None old offset = get_or (slot_sets old) offset set.empty
slots_in (Some slots) old offset = slots

-- where the last line of a text begins, that behind its last newline
abbrev pub last_line : List ℕ → ℕ
last_line text = line_start (lines text) text

-- the characters of parts before a place, and of parts behind it
abbrev pub front_text : List Cell → List ℕ → List Part → List ℕ
front_text old new parts = characters (front_cells old new parts)

abbrev pub behind_text : List Cell → List ℕ → List Part → List ℕ
behind_text old new parts = characters (behind_cells old new parts)

-- where the last line of a text begins that has more than one, from where the text begins at some offset
pub record IsLastLine (text : List ℕ) (from start : ℕ) : Type 0 where
  pub some : 0 < last_line text
  pub is : start ≡ from + last_line text

-- where the second line of a text begins, which has one
pub record IsSecond (text : List ℕ) (start : ℕ) : Type 0 where
  pub some : 0 < lines text
  pub is : start ≡ line_start 1 text
