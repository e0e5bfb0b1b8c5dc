-- What becomes of the heap once a borrow of a node ends.
use Rattle.std.specs.Prelude.{slice_set}
use Rattle.std.specs.Borrow.{Lends, MutBor, Fml}
use mathlib.Core.Path.{sym, ◌∙◌}
use lib.ListN.{length-set}
use Rattle.raw_nodes.specs.Cells.{number_in}
use Rattle.raw_nodes.specs.declared.heap.Heap.{Heap}
use Rattle.raw_nodes.specs.declared.names.NodePtr.{NodePtr}
use Rattle.raw_nodes.specs.declared.nodes.Node.{Node}
use Rattle.raw_nodes.specs.contracts.heap.Heap.{the_row}
use Rattle.raw_nodes.specs.contracts.nodes.Node as node

-- the same nodes with w as the node of that name
abbrev pub with_node : Heap → NodePtr → Node → Heap
with_node h p w = record {
  places = h.places;
  values = slice_set h.values (number_in h.places p) w;
  paired = h.paired ∙ sym (length-set h.values (number_in h.places p) w);
}

-- that node is the last value behind r
abbrev pub LendsNode : MutBor Heap → NodePtr → MutBor Node → Fml
LendsNode h p r = Lends the_row node.the_row h r (with_node h.now p)
