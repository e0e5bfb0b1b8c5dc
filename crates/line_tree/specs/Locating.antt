-- A line found by counting characters.
use Rattle.std.specs.Prelude.{◌≡◌, ℕ, ◌+◌, ◌<◌, List, length, take, slice_get}
use Rattle.std.specs.List.{sum_by}
use Rattle.std.specs.declared.option.Option.TheVariants.{Some}
use Rattle.raw_nodes.specs.Records.{Records}
use Rattle.raw_nodes.specs.Rows.{kids}
use Rattle.raw_nodes.specs.declared.names.NodePtr.{NodePtr}
use Rattle.line_tree.specs.Shape.{sum_at}
use Rattle.line_tree.specs.Trees.{Named, total}

abbrev pub characters_at : Records → NodePtr → ℕ
characters_at m p = (sum_at m p).characters

-- how many characters the children have
abbrev pub characters_below : Records → NodePtr → ℕ
characters_below m p = sum_by (characters_at m) (kids m p)

-- character p stands in line k, at this column
pub record IsPlaceAt (ls : List Named) (p k column : ℕ) : Type 0 where
  pub line : Named
  pub at : slice_get ls k ≡ Some line
  pub offset : (total (take k ls)).characters + column ≡ p
  pub within : column < length line.1.columns
