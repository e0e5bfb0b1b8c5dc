-- The children of a record as a list: the names in its first slots.
use Rattle.std.specs.Prelude.{◌-◌, Option, None, Some, List, [], ◌++◌, length, map, replicate}
use Rattle.std.specs.List.{filter_map}
use Rattle.std.specs.FinMap as finite
use Rattle.raw_nodes.specs.Records.{Record, Records}
use Rattle.raw_nodes.specs.declared.names.NodePtr.{NodePtr}

-- the slots of a node with these children
abbrev pub row : List NodePtr → List (Option NodePtr)
row children = map (λ c. Some c) children ++ replicate (12 - length children) None

abbrev pub kids_of : Option Record → List NodePtr
kids_of None = []
kids_of (Some r) = filter_map (λ c. c) r.children

-- the children of the node with that name
abbrev pub kids : Records → NodePtr → List NodePtr
kids m p = kids_of (finite.get m p)
