-- How a tree stands in the records of a store.
use Rattle.std.specs.Prelude.{◌≡◌, ℕ, zero, suc, ◌≤◌, ⊤, List, [], ◌∷◌, map, length, IsSome}
use Rattle.std.specs.FinMap as finite
use Rattle.std.specs.List.{AllByRecursion}
use Rattle.std.specs.declared.option.Option.{Option}
use Rattle.std.specs.declared.option.Option.TheVariants.{None, Some}
use Rattle.toggle_sums.specs.Counts.{Count, no_text}
use Rattle.segments.specs.Columns.{LineContent}
use Rattle.raw_nodes.specs.Records.{Record, Records}
use Rattle.raw_nodes.specs.Rows.{kids, row}
use Rattle.raw_nodes.specs.declared.names.NodePtr.{NodePtr}
use Rattle.line_tree.specs.Trees.{Named, Tree, lines, tops, total}

-- ---- reading a record
abbrev pub line_of : Option Record → Option LineContent
line_of None = None
line_of (Some r) = r.line

abbrev pub sum_of : Option Record → Count
sum_of None = no_text
sum_of (Some r) = r.sum

abbrev pub sum_at : Records → NodePtr → Count
sum_at m p = sum_of (finite.get m p)

abbrev pub lines_at : Records → NodePtr → ℕ
lines_at m p = (sum_at m p).lines

-- ---- what records say
pub record IsLineNode (m : Records) (p : NodePtr) (l : Option LineContent) (s : Count) : Type 0 where
  pub found : Record
  pub is : finite.get m p ≡ Some found
  pub line : found.line ≡ l
  pub some : IsSome l
  pub sum : found.sum ≡ s

pub record IsNode (m : Records) (p : NodePtr) (cs : List NodePtr) (s : Count) : Type 0 where
  pub found : Record
  pub is : finite.get m p ≡ Some found
  pub children : found.children ≡ row cs
  pub few : length cs ≤ 12
  pub sum : found.sum ≡ s
  pub inner : found.line ≡ None

pub record IsLinked (m : Records) (p : NodePtr) (i : ℕ) (q : NodePtr) : Type 0 where
  pub found : Record
  pub is : finite.get m q ≡ Some found
  pub parent : found.parent ≡ Some p
  pub slot : found.slot ≡ i

-- the names know their parent, and their slots from i on
abbrev pub Links : Records → NodePtr → ℕ → List NodePtr → Type 0
Links m p i [] = ⊤
Links m p i (q ∷ qs) = IsLinked m p i q × Links m p (suc i) qs

-- the records are those of the tree; of its top they say all but the parent and the slot
abbrev pub Holds : Records → (h : ℕ) → Tree h → Type 0
Holds m zero t = IsLineNode m t.0 t.1 (total (lines zero t))
Holds m (suc h) t =
    IsNode m t.0 (tops h t.1) (total (lines (suc h) t))
    × Links m t.0 0 (tops h t.1)
    × AllByRecursion (Holds m h) t.1

-- ---- the tree in the records
abbrev pub tree_at : Records → (h : ℕ) → NodePtr → Tree h
tree_at m zero p = (p, line_of (finite.get m p))
tree_at m (suc h) p = (p, map (tree_at m h) (kids m p))

abbrev pub IsTree : Records → ℕ → NodePtr → Type 0
IsTree m h p = Holds m h (tree_at m h p)

abbrev pub lines_in : Records → ℕ → NodePtr → List Named
lines_in m h p = lines h (tree_at m h p)
