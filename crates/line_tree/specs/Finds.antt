-- A child found by counting lines.
use Rattle.std.specs.Prelude.{◌≡◌, ℕ, ◌+◌, ◌<◌, ◌≤◌, length, take, slice_get, IsSome}
use Rattle.std.specs.FinMap as finite
use Rattle.std.specs.List.{sum_by}
use Rattle.std.specs.declared.option.Option.TheVariants.{None, Some}
use Rattle.raw_nodes.specs.Records.{Record, Records}
use Rattle.raw_nodes.specs.Rows.{kids, row}
use Rattle.raw_nodes.specs.declared.names.NodePtr.{NodePtr}
use Rattle.line_tree.specs.Shape.{lines_at}
use Rattle.line_tree.specs.declared.find.Found.{Found}

-- an inner record with a row of children, each of which has a record
pub record HasRow (m : Records) (p : NodePtr) : Type 0 where
  pub found : Record
  pub is : finite.get m p ≡ Some found
  pub children : found.children ≡ row (kids m p)
  pub few : length (kids m p) ≤ 12
  pub inner : found.line ≡ None
  pub each : (i : ℕ) (c : NodePtr) → slice_get (kids m p) i ≡ Some c → IsSome (finite.get m c)

-- how many lines the children have
abbrev pub lines_below : Records → NodePtr → ℕ
lines_below m p = sum_by (lines_at m) (kids m p)

-- the child with line k, the number of that line in it, and how many it has
pub record Finds (m : Records) (p : NodePtr) (k : ℕ) (f : Found) : Type 0 where
  pub child : slice_get (kids m p) f.slot ≡ Some f.child
  pub place : sum_by (lines_at m) (take f.slot (kids m p)) + f.rest ≡ k
  pub rest : f.rest < lines_at m f.child
  pub lines : f.lines ≡ lines_at m f.child

-- the child below which line k is put in, and the number that it gets there
pub record Leads (m : Records) (p : NodePtr) (k : ℕ) (f : Found) : Type 0 where
  pub child : slice_get (kids m p) f.slot ≡ Some f.child
  pub place : sum_by (lines_at m) (take f.slot (kids m p)) + f.rest ≡ k
  pub rest : f.rest ≤ lines_at m f.child
