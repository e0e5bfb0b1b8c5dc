-- A place found by what is counted of the children, and then of the lines, before it.
use Rattle.std.specs.Prelude.{◌≡◌, ℕ, ◌+◌, ◌<◌, List, ◌∷◌, ◌++◌, take, slice_get}
use Rattle.std.specs.declared.option.Option.TheVariants.{Some}
use Rattle.toggle_sums.specs.Counts.{Count}
use Rattle.segments.specs.Columns.{line_count}
use Rattle.raw_nodes.specs.Records.{Records}
use Rattle.raw_nodes.specs.Rows.{kids}
use Rattle.raw_nodes.specs.declared.names.NodePtr.{NodePtr}
use Rattle.line_tree.specs.Changes.{sum_all}
use Rattle.line_tree.specs.Shape.{sum_at}
use Rattle.line_tree.specs.Trees.{Named, total}
use Rattle.line_tree.specs.declared.search.Arrived.{Arrived}
use Rattle.line_tree.specs.declared.search.Reached.{Reached}

-- the sum of a node's children, and of the first of them
abbrev pub sum_below : Records → NodePtr → Count
sum_below m p = sum_all m (kids m p)

abbrev pub sum_before : Records → NodePtr → ℕ → Count
sum_before m p i = sum_all m (take i (kids m p))

-- the child in which place k is among those that a sum has, what is read of the child, and the place's number in it
pub record Reaches {S : Type 0} (sized : Count → S) (wide : Count → ℕ) (m : Records) (p : NodePtr) (k : ℕ)
    (r : Reached S) : Type 0 where
  pub child : slice_get (kids m p) r.slot ≡ Some r.child
  pub place : wide (sum_before m p r.slot) + r.rest ≡ k
  pub rest : r.rest < wide (sum_at m r.child)
  pub size : r.size ≡ sized (sum_at m r.child)

-- the line in which place k of some lines is, and the place's number in it; where old stands before the first line, new
-- stands before that one
pub record Arrives {A : Type 0} (wide : Count → ℕ) (behind : A → Count → A) (ls : List Named) (k : ℕ) (old new : A)
    (a : Arrived) : Type 0 where
  pub front : List Named
  pub line : Named
  pub back : List Named
  pub split : ls ≡ front ++ (line ∷ back)
  pub name : line.0 ≡ a.name
  pub place : wide (total front) + a.rest ≡ k
  pub rest : a.rest < wide (line_count line.1)
  pub before : new ≡ behind old (total front)
