-- What one more line leaves of trees.
use Rattle.std.specs.Prelude.{◌≡◌, ◌≢◌, ℕ, zero, suc, ◌≤◌, ◌⊎◌, ⊤, List, [], ◌∷◌, ◌++◌, length, map, take, drop, IsSome}
use Rattle.std.specs.Prelude.{option_to_list}
use Rattle.std.specs.FinMap as finite
use Rattle.std.specs.List.{AllByRecursion, flat_map}
use Rattle.std.specs.declared.option.Option.{Option}
use Rattle.std.specs.declared.option.Option.TheVariants.{None, Some}
use Rattle.toggle_sums.specs.Counts.{plus}
use Rattle.segments.specs.Columns.{LineContent}
use Rattle.raw_nodes.specs.Records.{Record, Records, blank}
use Rattle.raw_nodes.specs.Rows.{row}
use Rattle.raw_nodes.specs.declared.names.NodePtr.{NodePtr}
use Rattle.line_tree.specs.Changes.{Among, Distinct, FitsSum, refilled}
use Rattle.line_tree.specs.Shape.{Holds, IsTree, lines_in, sum_at, tree_at}
use Rattle.line_tree.specs.Trees.{IsBalanced, IsBalancedRoot, Named, Tree, lines, names, total}

-- every name of several trees; every line
abbrev pub names_of : (h : ℕ) → List (Tree h) → List NodePtr
names_of h ts = flat_map (names h) ts

abbrev pub lines_of : (h : ℕ) → List (Tree h) → List Named
lines_of h ts = flat_map (lines h) ts

-- the line of x becomes number k
abbrev pub with_line : List Named → ℕ → Tree 0 → List Named
with_line ls k x = take k ls ++ (lines zero x ++ drop k ls)

-- in place of the trees ts of m there are the trees us in n, with the line of x as number k
pub record Grows (m n : Records) (h : ℕ) (ts : List (Tree h)) (k : ℕ) (x : Tree 0) (us : List (Tree h)) : Type 0 where
  pub holds : AllByRecursion (Holds n h) us
  pub line : lines_of h us ≡ with_line (lines_of h ts) k x
  pub distinct : Distinct (names_of h us)
  pub within : (q : NodePtr) → Among q (names_of h us) → Among q (names_of h ts) ⊎ ((q ≡ x.0) ⊎ (finite.get m q ≡ None))
  pub other : (q : NodePtr) → IsSome (finite.get m q) → (Among q (names_of h ts) → ⊥) → q ≢ x.0
      → finite.get n q ≡ finite.get m q
  pub kept : (q : NodePtr) → IsSome (finite.get m q) → IsSome (finite.get n q)
  pub inside : (q : NodePtr) → Among q (names_of h ts) → Among q (names_of h us)
  pub added : Among x.0 (names_of h us)
  pub old : (q : NodePtr) → IsSome (finite.get n q) → (Among q (names_of h us) → ⊥) → IsSome (finite.get m q)

-- the trees at a name and at another, if there is one
abbrev pub trees : Records → (h : ℕ) → NodePtr → Option NodePtr → List (Tree h)
trees m h p o = tree_at m h p ∷ map (tree_at m h) (option_to_list o)

-- a top of so many children at least, with balanced trees below it
abbrev pub IsWide : ℕ → (h : ℕ) → Tree h → Type 0
IsWide least zero t = ⊤
IsWide least (suc h) t = (least ≤ length t.1) × (length t.1 ≤ 12) × AllByRecursion (IsBalanced h) t.1

-- trees in place of one are as wide as that, and balanced where they are two
pub record KeepsWide (h : ℕ) (t : Tree h) (us : List (Tree h)) (o : Option NodePtr) : Type 0 where
  pub wide : (least : ℕ) → least ≤ 6 → IsWide least h t → AllByRecursion (IsWide least h) us
  pub split : IsSome o → IsWide 1 h t → AllByRecursion (IsBalanced h) us

-- p keeps its place below its parent
pub record KeepsLink (m n : Records) (p : NodePtr) : Type 0 where
  pub before : Record
  pub was : finite.get m p ≡ Some before
  pub after : Record
  pub is : finite.get n p ≡ Some after
  pub parent : after.parent ≡ before.parent
  pub slot : after.slot ≡ before.slot

-- the line x can become number k below p
pub record CanInsert (m : Records) (h : ℕ) (p : NodePtr) (k : ℕ) (x : NodePtr) : Type 0 where
  pub tree : IsTree m h p
  pub wide : IsWide 1 h (tree_at m h p)
  pub distinct : Distinct (names h (tree_at m h p))
  pub place : k ≤ length (lines_in m h p)
  pub line : IsTree m 0 x
  pub new : Among x (names h (tree_at m h p)) → ⊥
  pub fits : FitsSum (plus (total (lines_in m h p)) (sum_at m x))

-- the line x is number k now, below p and the other name
pub record Inserts (m n : Records) (h : ℕ) (p : NodePtr) (k : ℕ) (x : NodePtr) (o : Option NodePtr) : Type 0 where
  pub grows : Grows m n h (tree_at m h p ∷ []) k (tree_at m 0 x) (trees n h p o)
  pub wide : KeepsWide h (tree_at m h p) (trees n h p o) o
  pub link : KeepsLink m n p

-- the children us below p, or the first half below p and the others below a second node
abbrev pub parted : (h : ℕ) → NodePtr → List (Tree h) → ℕ → Option NodePtr → List (Tree (suc h))
parted h p us half None = (p, us) ∷ []
parted h p us half (Some s) = (p, take half us) ∷ (s, drop half us) ∷ []

-- x is a new record, with a line
pub record NewLine (m n : Records) (x : NodePtr) (l : LineContent) : Type 0 where
  pub fresh : finite.get m x ≡ None
  pub same : n ≡ finite.insert m x (blank (Some l))

-- r is a new record, above these
pub record NewRoot (m n : Records) (r : NodePtr) (cs : List NodePtr) : Type 0 where
  pub fresh : finite.get m r ≡ None
  pub same : n ≡ refilled (finite.insert m r (blank None)) r (row cs)

-- ---- a whole tree
pub record HasNoParent (m : Records) (r : NodePtr) : Type 0 where
  pub found : Record
  pub is : finite.get m r ≡ Some found
  pub parent : found.parent ≡ None

-- a balanced tree stands in the records, from its root on
pub record Stands (m : Records) (h : ℕ) (r : NodePtr) : Type 0 where
  pub tree : IsTree m h r
  pub balanced : IsBalancedRoot h (tree_at m h r)
  pub distinct : Distinct (names h (tree_at m h r))
  pub root : HasNoParent m r
  pub fits : FitsSum (total (lines_in m h r))

-- and there is no other record
pub record StandsAlone (m : Records) (h : ℕ) (r : NodePtr) : Type 0 where
  pub stands : Stands m h r
  pub whole : (q : NodePtr) → IsSome (finite.get m q) → Among q (names h (tree_at m h r))
