-- What a node is once a borrow of its line or its branch ends.
use Rattle.std.specs.Prelude.{⊤}
use Rattle.std.specs.Borrow.{Lends, MutBor, Fml}
use Rattle.segments.specs.Columns.{LineContent}
use Rattle.segments.specs.contracts.line.Line as line
use Rattle.raw_nodes.specs.contracts.nodes.Held as held
use Rattle.raw_nodes.specs.contracts.branch.Branch as branch
use Rattle.raw_nodes.specs.Records.{slot_in}
use Rattle.raw_nodes.specs.declared.branch.Branch.{Branch}
use Rattle.raw_nodes.specs.declared.nodes.Held.{Held}
use Rattle.raw_nodes.specs.declared.nodes.Held.TheVariants.{Spare, Line, Inner}

abbrev pub IsLine : Held → Type 0
IsLine (Spare n) = ⊥
IsLine (Line slot line) = ⊤
IsLine (Inner slot room) = ⊥

abbrev pub IsRoom : Held → Type 0
IsRoom (Spare n) = ⊥
IsRoom (Line slot line) = ⊥
IsRoom (Inner slot room) = ⊤

abbrev pub LendsText : MutBor Held → MutBor LineContent → Fml
LendsText h r = Lends held.the_row line.the_row h r (λ w. Line (slot_in h.now) w)

abbrev pub LendsBranch : MutBor Held → MutBor Branch → Fml
LendsBranch h r = Lends held.the_row branch.the_row h r (λ w. Inner (slot_in h.now) w)
