-- The lowest level of a tree, where each child is a line.
use Rattle.line_tree.proofs.Common.{◌≡◌, ℕ, zero, suc, ◌<◌, ◌≤◌, List, [], ◌∷◌, length, take, map, refl, ◌∙◌, arith}
use Rattle.line_tree.proofs.Common.{IsSome, slice_get, Option, None, Some, AllByRecursion, sum_by, sum_by-cons, Holds}
use Rattle.line_tree.proofs.Common.{IsTree, line_of, lines_at, tree_at, LineContent, NodePtr, Records, kids, lines}
use Rattle.line_tree.proofs.Common.{lines_below, lines_before}
use mathlib.Core.Bool.{false≢true}
use Rattle.line_tree.proofs.TreeLaws.{child-tree, count-tree}
use Rattle.std.specs.FinMap as finite

-- a line is one line
pub one-line : (m : Records) (p : NodePtr) → IsTree m zero p → lines_at m p ≡ 1
one-line m p is = count-tree m zero p is ∙ one (line_of (finite.get m p)) is.some where
  one : (o : Option LineContent) → IsSome o → length (lines zero (p, o)) ≡ 1
  one None s = absurd (false≢true s)
  one (Some l) s = refl

first-lines : (m : Records) (cs : List NodePtr) (i : ℕ) → AllByRecursion (Holds m zero) (map (tree_at m zero) cs) →
    i ≤ length cs → sum_by (lines_at m) (take i cs) ≡ i
first-lines m cs zero all h = refl
first-lines m [] (suc i) all h = absurd (omega arith)
first-lines m (c ∷ cs) (suc i) all h =
    let here = one-line m c all.0 in let rest = first-lines m cs i all.1 (omega arith) in
    let s = sum_by-cons (lines_at m) c (take i cs) in omega arith

-- so many lines stand before a line as children before it
pub lowest-before : (m : Records) (p : NodePtr) (i : ℕ) → IsTree m 1 p → i ≤ length (kids m p) → lines_before m p i ≡ i
lowest-before m p i is h = first-lines m (kids m p) i is.2 h

every-line : (m : Records) (cs : List NodePtr) → AllByRecursion (Holds m zero) (map (tree_at m zero) cs) →
    sum_by (lines_at m) cs ≡ length cs
every-line m [] all = refl
every-line m (c ∷ cs) all = let here = one-line m c all.0 in let rest = every-line m cs all.1 in
    let s = sum_by-cons (lines_at m) c cs in omega arith

-- there are so many lines as children
pub lowest-below : (m : Records) (p : NodePtr) → IsTree m 1 p → lines_below m p ≡ length (kids m p)
lowest-below m p is = every-line m (kids m p) is.2

-- a child has line 0 of its own
pub lowest-child : (m : Records) (p : NodePtr) (k : ℕ) (c : NodePtr) → IsTree m 1 p → slice_get (kids m p) k ≡ Some c →
    0 < lines_at m c
lowest-child m p k c is at = let one = one-line m c (child-tree m zero (kids m p) k c is.2 at) in omega arith
