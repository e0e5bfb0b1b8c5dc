-- The map of a store: from the name of each node in use to its record.
use Rattle.std.specs.Prelude.{ℕ, Bool, true, false, Option, None, Some, List, [], ◌∷◌, map, replicate, slice_set}
use Rattle.std.specs.FinMap as finite
use Rattle.segments.specs.Columns.{LineContent, line_count}
use Rattle.toggle_sums.specs.Counts.{Count, no_text}
use Rattle.raw_nodes.specs.Cells.{name_cmp}
use Rattle.raw_nodes.specs.Links.{link_name}
use Rattle.raw_nodes.specs.Rooms.{branch_sum}
use Rattle.raw_nodes.specs.declared.names.NodePtr.{NodePtr}
use Rattle.raw_nodes.specs.declared.nodes.Held.{Held}
use Rattle.raw_nodes.specs.declared.nodes.Held.TheVariants.{Spare, Line, Inner}
use Rattle.raw_nodes.specs.declared.nodes.Node.{Node}

-- what a node in use says: its parent and its slot there, the names in its own slots, what is counted of the text
-- below it, and its line, if it is one
pub record Record : Type 0 where
  pub parent : Option NodePtr
  pub slot : ℕ
  pub children : List (Option NodePtr)
  pub sum : Count
  pub line : Option LineContent

-- no name in any of the slots
abbrev pub nones : List (Option NodePtr)
nones = replicate 12 None

-- the sum of a line is what is counted of it
abbrev pub line_record : Option NodePtr → ℕ → LineContent → Record
line_record parent slot line =
    record { parent = parent; slot = slot; children = nones; sum = line_count line; line = Some line }

abbrev pub inner_record : Option NodePtr → ℕ → List (Option NodePtr) → Count → Record
inner_record parent slot children sum =
    record { parent = parent; slot = slot; children = children; sum = sum; line = None }

-- the record of a new node
abbrev pub blank : Option LineContent → Record
blank None = inner_record None 0 nones no_text
blank (Some line) = line_record None 0 line

abbrev pub with_sum : Record → Count → Record
with_sum r sum = record r { sum = sum }

abbrev pub with_parent : Record → Option NodePtr → ℕ → Record
with_parent r parent slot = record r { parent = parent; slot = slot }

abbrev pub with_child : Record → ℕ → Option NodePtr → Record
with_child r i child = record r { children = slice_set r.children i child }

abbrev pub with_line : Record → LineContent → Record
with_line r line = record r { sum = line_count line; line = Some line }

-- ---- records by their names
abbrev pub Records : Type 0
Records = finite.FinMap name_cmp Record

abbrev pub updated : Records → NodePtr → (Record → Record) → Option Record → Records
updated m p f None = m
updated m p f (Some r) = finite.insert m p (f r)

-- the record of p, if there is one, becomes f of it
unfoldable pub update : Records → NodePtr → (Record → Record) → Records
update m p f = updated m p f (finite.get m p)

-- ---- what the nodes in memory say
abbrev pub is_used : Held → Bool
is_used (Spare n) = false
is_used (Line slot line) = true
is_used (Inner slot room) = true

abbrev pub slot_in : Held → ℕ
slot_in (Spare n) = n
slot_in (Line slot line) = slot
slot_in (Inner slot room) = slot

abbrev pub with_slot : Held → ℕ → Held
with_slot (Spare n) slot = Spare slot
with_slot (Line old line) slot = Line slot line
with_slot (Inner old room) slot = Inner slot room

abbrev pub line_in : Held → Option LineContent
line_in (Spare n) = None
line_in (Line slot line) = Some line
line_in (Inner slot room) = None

abbrev pub record_in : Held → Option NodePtr → Record
record_in (Spare n) parent = blank None
record_in (Line slot line) parent = line_record parent slot line
record_in (Inner slot branch) parent =
    inner_record parent slot (map link_name branch.room.value.children) (branch_sum branch)

abbrev pub record_of : Node → Record
record_of x = record_in x.held (link_name x.parent)

abbrev pub if_used : Bool → Record → Option Record
if_used true r = Some r
if_used false r = None

-- the record of a node in use
abbrev pub cell_of : Node → Option Record
cell_of x = if_used (is_used x.held) (record_of x)

abbrev pub cells_of : List Node → List (Option Record)
cells_of = map cell_of

-- of names that stand twice the first counts
abbrev pub records_of : List NodePtr → List (Option Record) → Records
records_of [] cells = finite.empty
records_of (p ∷ ps) [] = finite.empty
records_of (p ∷ ps) (None ∷ cells) = finite.remove (records_of ps cells) p
records_of (p ∷ ps) (Some r ∷ cells) = finite.insert (records_of ps cells) p r

abbrev pub records_in : List NodePtr → List Node → Records
records_in ps xs = records_of ps (cells_of xs)
