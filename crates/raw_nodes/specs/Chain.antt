-- How the nodes that are spares hang together, and what is counted of the nodes.
use Rattle.std.specs.Prelude.{◌≡◌, ℕ, zero, suc, ⊤, Bool, true, false, Option, None, Some, List, [], ◌∷◌, map}
use Rattle.std.specs.Prelude.{slice_index_or}
use Rattle.segments.specs.Columns.{LineContent}
use Rattle.raw_nodes.specs.Cells.{IsPlace, number_in}
use Rattle.raw_nodes.specs.Links.{link_name}
use Rattle.raw_nodes.specs.Records.{is_used, slot_in}
use Rattle.raw_nodes.specs.declared.names.Link.{Link}
use Rattle.raw_nodes.specs.declared.names.NodePtr.{NodePtr}
use Rattle.raw_nodes.specs.declared.nodes.Held.{Held}
use Rattle.raw_nodes.specs.declared.nodes.Held.TheVariants.{Spare, Line, Inner}
use Rattle.raw_nodes.specs.declared.nodes.Node.{Node}

-- one more than the number of spares behind this one; 0 of a node in use
abbrev pub if_spare : Bool → ℕ → ℕ
if_spare true n = 0
if_spare false n = suc n

abbrev pub mark_of : Node → ℕ
mark_of x = if_spare (is_used x.held) (slot_in x.held)

abbrev pub marks_of : List Node → List ℕ
marks_of = map mark_of

-- 1 of a spare
abbrev pub if_free : Bool → ℕ
if_free true = 0
if_free false = 1

abbrev pub flag_of : Node → ℕ
flag_of x = if_free (is_used x.held)

-- 1 of an inner node, which has a room
abbrev pub room_in : Held → ℕ
room_in (Spare n) = 0
room_in (Line slot line) = 0
room_in (Inner slot room) = 1

-- how many rooms a node takes that is this line, or no line
abbrev pub rooms_for : Option LineContent → ℕ
rooms_for None = 1
rooms_for (Some line) = 0

abbrev pub room_of : Node → ℕ
room_of x = room_in x.held

-- the next spare
abbrev pub next_of : Node → Option NodePtr
next_of x = link_name x.parent

abbrev pub nexts_of : List Node → List (Option NodePtr)
nexts_of = map next_of

-- the one before in the row of all nodes
abbrev pub before_of : Node → Option NodePtr
before_of x = link_name x.before

abbrev pub befores_of : List Node → List (Option NodePtr)
befores_of = map before_of

-- the one after
abbrev pub after_of : Node → Option NodePtr
after_of x = link_name x.after

abbrev pub afters_of : List Node → List (Option NodePtr)
afters_of = map after_of

-- a node but for its links in the row
abbrev pub content_of : Node → Link × Held
content_of x = (x.parent, x.held)

abbrev pub contents_of : List Node → List (Link × Held)
contents_of = map content_of

abbrev pub first_of : List NodePtr → Option NodePtr
first_of [] = None
first_of (p ∷ ps) = Some p

-- the one behind each in the row
abbrev pub behind : List NodePtr → List (Option NodePtr)
behind [] = []
behind (p ∷ ps) = first_of ps ∷ behind ps

-- the last node once one has left that stands between these two
abbrev pub last_left : Option NodePtr → Option NodePtr → Option NodePtr → Option NodePtr
last_left last before None = before
last_left last before (Some p) = last

-- n spares hang together, from this one on
abbrev pub IsChain : List NodePtr → List ℕ → List (Option NodePtr) → ℕ → Option NodePtr → Type 0
IsChain ps ms ns zero None = ⊤
IsChain ps ms ns zero (Some p) = ⊥
IsChain ps ms ns (suc n) None = ⊥
IsChain ps ms ns (suc n) (Some p) =
    IsPlace ps p × (slice_index_or ms (number_in ps p) 0 ≡ suc n)
    × IsChain ps ms ns n (slice_index_or ns (number_in ps p) None)
