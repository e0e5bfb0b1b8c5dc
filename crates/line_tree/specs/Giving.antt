-- What is left where records are given back.
use Rattle.std.specs.Prelude.{◌≡◌, List}
use Rattle.std.specs.FinMap as finite
use Rattle.std.specs.declared.option.Option.TheVariants.{None}
use Rattle.raw_nodes.specs.Records.{Records}
use Rattle.raw_nodes.specs.declared.names.NodePtr.{NodePtr}
use Rattle.line_tree.specs.Changes.{Among}

-- the records but those of these names
pub record Without (m n : Records) (ps : List NodePtr) : Type 0 where
  pub gone : (q : NodePtr) → Among q ps → finite.get n q ≡ None
  pub other : (q : NodePtr) → (Among q ps → ⊥) → finite.get n q ≡ finite.get m q
