-- What one line less leaves of trees, or the lines of a subtree.
use Rattle.std.specs.Prelude.{◌≡◌, ◌⊎◌, ℕ, suc, ◌+◌, ◌<◌, ◌≤◌, List, [], ◌∷◌, length, slice_get, slice_range, IsSome}
use Rattle.std.specs.FinMap as finite
use Rattle.std.specs.List.{AllByRecursion}
use Rattle.std.specs.declared.option.Option.{Option}
use Rattle.std.specs.declared.option.Option.TheVariants.{None, Some}
use Rattle.text_model.specs.Splices.{removed}
use Rattle.raw_nodes.specs.Records.{Records}
use Rattle.raw_nodes.specs.Rows.{kids}
use Rattle.raw_nodes.specs.declared.names.NodePtr.{NodePtr}
use Rattle.line_tree.specs.Changes.{Among, CanEven, Distinct, FitsSum, Mends}
use Rattle.line_tree.specs.Growth.{HasNoParent, IsWide, KeepsLink, Stands, lines_of, names_of}
use Rattle.line_tree.specs.Shape.{Holds, IsTree, lines_in, tree_at}
use Rattle.line_tree.specs.Trees.{Tree, names, total}

-- in place of the trees ts of m there are the trees us in n, without the subtree x of height j, whose first line is
-- line k
pub record Shrinks
    (m n : Records) (h : ℕ) (ts : List (Tree h)) (k j : ℕ) (x : NodePtr) (us : List (Tree h)) : Type 0 where
  pub holds : AllByRecursion (Holds n h) us
  pub line : lines_of h us ≡ removed k (k + length (lines_in m j x)) (lines_of h ts)
  pub gone : slice_range (lines_of h ts) k (k + length (lines_in m j x)) ≡ lines_in m j x
  pub tree : IsTree m j x
  pub distinct : Distinct (names_of h us)
  pub within : (q : NodePtr) → Among q (names_of h us) → Among q (names_of h ts)
  pub inside : (q : NodePtr) → Among q (names j (tree_at m j x)) → Among q (names_of h ts)
  pub out : (q : NodePtr) → Among q (names j (tree_at m j x)) → Among q (names_of h us) → ⊥
  pub other : (q : NodePtr) → (Among q (names_of h ts) → ⊥) → finite.get n q ≡ finite.get m q
  pub left : (q : NodePtr) → Among q (names j (tree_at m j x)) → finite.get n q ≡ finite.get m q

-- in place of the trees ts of m there are the trees us in n, with the same lines
pub record Turns (m n : Records) (h : ℕ) (ts us : List (Tree h)) : Type 0 where
  pub holds : AllByRecursion (Holds n h) us
  pub line : lines_of h us ≡ lines_of h ts
  pub distinct : Distinct (names_of h us)
  pub within : (q : NodePtr) → Among q (names_of h us) → Among q (names_of h ts)
  pub other : (q : NodePtr) → (Among q (names_of h ts) → ⊥) → finite.get n q ≡ finite.get m q

-- line k can be taken out below p
pub record CanRemove (m : Records) (h : ℕ) (p : NodePtr) (k : ℕ) : Type 0 where
  pub tree : IsTree m h p
  pub wide : IsWide 2 h (tree_at m h p)
  pub distinct : Distinct (names h (tree_at m h p))
  pub place : k < length (lines_in m h p)
  pub fits : FitsSum (total (lines_in m h p))

-- the subtree x of height j, whose first line is line k, is taken out below p, whose children are one less at most
pub record Removes (m n : Records) (h : ℕ) (p : NodePtr) (k j : ℕ) (x : NodePtr) : Type 0 where
  pub shrinks : Shrinks m n h (tree_at m h p ∷ []) k j x (tree_at n h p ∷ [])
  pub wide : (least : ℕ) → IsWide (suc least) h (tree_at m h p) → IsWide least h (tree_at n h p)
  pub link : KeepsLink m n p

-- the node c in this slot has six children at least, or shares with a neighbour
pub record Settles (m n : Records) (p : NodePtr) (slot : ℕ) (c : NodePtr) (o : Option ℕ) : Type 0 where
  pub ways : ((n ≡ m) × (o ≡ None) × (6 ≤ length (kids m c))) ⊎ Mends m n p slot o

-- the pairs of neighbours below p that can share
abbrev pub CanMend : Records → NodePtr → Type 0
CanMend m p =
    (i : ℕ) (a b : NodePtr) → slice_get (kids m p) i ≡ Some a → slice_get (kids m p) (suc i) ≡ Some b → CanEven m a b

-- a tree that can lose its root, if that has one child
pub record CanLower (m : Records) (h : ℕ) (r : NodePtr) : Type 0 where
  pub tree : IsTree m h r
  pub wide : IsWide 1 h (tree_at m h r)
  pub distinct : Distinct (names h (tree_at m h r))
  pub root : HasNoParent m r
  pub fits : FitsSum (total (lines_in m h r))

-- the same lines below the root s at height i
pub record Lowers (m n : Records) (h : ℕ) (r : NodePtr) (i : ℕ) (s : NodePtr) : Type 0 where
  pub stands : Stands n i s
  pub lines : lines_in n i s ≡ lines_in m h r
  pub within : (q : NodePtr) → Among q (names i (tree_at n i s)) → Among q (names h (tree_at m h r))
  pub other : (q : NodePtr) → (Among q (names h (tree_at m h r)) → ⊥) → finite.get n q ≡ finite.get m q
  pub clean : (q : NodePtr) → IsSome (finite.get n q) → (Among q (names i (tree_at n i s)) → ⊥)
      → IsSome (finite.get m q) × (Among q (names h (tree_at m h r)) → ⊥)

-- what was below p and is so no more has no record, but for the subtree x of height j
abbrev pub Cleans : Records → Records → ℕ → NodePtr → ℕ → NodePtr → Type 0
Cleans m n h p j x =
    (q : NodePtr) → Among q (names h (tree_at m h p)) → (Among q (names h (tree_at n h p)) → ⊥)
    → (Among q (names j (tree_at m j x)) → ⊥) → finite.get n q ≡ None
