-- Nodes that are made anew above others.
use Rattle.std.specs.Prelude.{◌≡◌, ℕ, suc, ◌≤◌, List, ◌++◌, length, map, take, drop, IsSome}
use Rattle.std.specs.FinMap as finite
use Rattle.std.specs.List.{AllByRecursion, flat_map}
use Rattle.std.specs.declared.option.Option.TheVariants.{None, Some}
use Rattle.toggle_sums.specs.Counts.{plus}
use Rattle.raw_nodes.specs.Records.{Record, Records}
use Rattle.raw_nodes.specs.Rows.{kids, row}
use Rattle.raw_nodes.specs.declared.names.NodePtr.{NodePtr}
use Rattle.line_tree.specs.Changes.{Among, Distinct, FitsSum, sum_all}
use Rattle.line_tree.specs.Growth.{HasNoParent, IsWide, lines_of, names_of}
use Rattle.line_tree.specs.Shape.{Holds, IsTree, lines_in, tree_at}
use Rattle.line_tree.specs.Trees.{IsBalanced, IsBalancedRoot, Named, Tree, names, total}

-- the trees at these names
abbrev pub trees_at : Records → (h : ℕ) → List NodePtr → List (Tree h)
trees_at m h cs = map (tree_at m h) cs

-- in place of the records of these names there are these trees; all others stay
pub record Becomes (m n : Records) (ps : List NodePtr) (h : ℕ) (us : List (Tree h)) : Type 0 where
  pub holds : AllByRecursion (Holds n h) us
  pub distinct : Distinct (names_of h us)
  pub within : (q : NodePtr) → Among q (names_of h us) → (Among q ps → ⊥) → finite.get m q ≡ None
  pub other : (q : NodePtr) → IsSome (finite.get m q) → (Among q ps → ⊥) → finite.get n q ≡ finite.get m q
  pub old : (q : NodePtr) → IsSome (finite.get n q) → (Among q (names_of h us) → ⊥) →
      IsSome (finite.get m q) × (Among q ps → ⊥)

-- the trees right below these
abbrev pub below_all : (h : ℕ) → List (Tree (suc h)) → List (Tree h)
below_all h ts = flat_map (λ t. t.1) ts

abbrev pub HasKids : ℕ → (h : ℕ) → Tree (suc h) → Type 0
HasKids least h t = (least ≤ length t.1) × (length t.1 ≤ 12)

-- nodes can be made above these
pub record CanRaise (m : Records) (h : ℕ) (cs : List NodePtr) : Type 0 where
  pub holds : AllByRecursion (Holds m h) (trees_at m h cs)
  pub distinct : Distinct (names_of h (trees_at m h cs))
  pub fits : FitsSum (sum_all m cs)

-- there are nodes ps above these, of so many in all
pub record Raises (m n : Records) (h : ℕ) (cs : List NodePtr) (all : ℕ) (ps : List NodePtr) : Type 0 where
  pub becomes : Becomes m n (names_of h (trees_at m h cs)) (suc h) (trees_at n (suc h) ps)
  pub below : below_all h (trees_at n (suc h) ps) ≡ trees_at m h cs
  pub wide : (least : ℕ) → least ≤ 6 → least ≤ all → AllByRecursion (HasKids least h) (trees_at n (suc h) ps)
  pub loose : (q : NodePtr) → Among q ps → HasNoParent n q

-- an inner record with a row of children, some of which may be gone
pub record HasSlots (m : Records) (p : NodePtr) : Type 0 where
  pub found : Record
  pub is : finite.get m p ≡ Some found
  pub children : found.children ≡ row (kids m p)
  pub few : length (kids m p) ≤ 12
  pub inner : found.line ≡ None

-- ---- a row of lines
-- the lines of these names can be put in below p
pub record CanTakeRow (m : Records) (h : ℕ) (p : NodePtr) (k : ℕ) (xs : List NodePtr) : Type 0 where
  pub tree : IsTree m h p
  pub wide : IsWide 1 h (tree_at m h p)
  pub place : k ≤ length (lines_in m h p)
  pub row : AllByRecursion (Holds m 0) (trees_at m 0 xs)
  pub some : 1 ≤ length xs
  pub distinct : Distinct (names h (tree_at m h p) ++ names_of 0 (trees_at m 0 xs))
  pub fits : FitsSum (plus (total (lines_in m h p)) (total (lines_of 0 (trees_at m 0 xs))))

-- lines among others
abbrev pub with_lines : List Named → ℕ → List Named → List Named
with_lines ls k added = take k ls ++ (added ++ drop k ls)

-- they are in place from line k on, below these nodes
pub record TakesRow (m n : Records) (h : ℕ) (p : NodePtr) (k : ℕ) (xs ps : List NodePtr) : Type 0 where
  pub becomes : Becomes m n (names h (tree_at m h p) ++ names_of 0 (trees_at m 0 xs)) h (trees_at n h ps)
  pub lines : lines_of h (trees_at n h ps) ≡ with_lines (lines_in m h p) k (lines_of 0 (trees_at m 0 xs))
  pub some : 1 ≤ length ps
  pub wide : (least : ℕ) → least ≤ 6 → IsWide least h (tree_at m h p)
      → AllByRecursion (IsWide least h) (trees_at n h ps)
  pub split : 2 ≤ length ps → AllByRecursion (IsWide 6 h) (trees_at n h ps)
  pub loose : (q : NodePtr) → Among q ps → HasNoParent n q

-- ---- up to the root
-- levels can be made above these
pub record CanLift (m : Records) (h : ℕ) (cs : List NodePtr) : Type 0 where
  pub some : 1 ≤ length cs
  pub holds : AllByRecursion (Holds m h) (trees_at m h cs)
  pub distinct : Distinct (names_of h (trees_at m h cs))
  pub fits : FitsSum (total (lines_of h (trees_at m h cs)))
  pub root : AllByRecursion (IsBalancedRoot h) (trees_at m h cs)
  pub split : 2 ≤ length cs → AllByRecursion (IsBalanced h) (trees_at m h cs)
  pub loose : (q : NodePtr) → Among q cs → HasNoParent m q

-- above these there are the nodes ps, of another height
pub record Lifted (m n : Records) (h : ℕ) (cs : List NodePtr) (top : ℕ) (ps : List NodePtr) : Type 0 where
  pub can : CanLift n top ps
  pub becomes : Becomes m n (names_of h (trees_at m h cs)) top (trees_at n top ps)
  pub lines : lines_of top (trees_at n top ps) ≡ lines_of h (trees_at m h cs)

-- and that is one
pub record Lifts (m n : Records) (h : ℕ) (cs : List NodePtr) (top : ℕ) (ps : List NodePtr) : Type 0 where
  pub lifted : Lifted m n h cs top ps
  pub one : length ps ≡ 1
