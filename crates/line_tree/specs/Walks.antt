-- From a line to the one behind it.
use Rattle.std.specs.Prelude.{◌≡◌, ℕ, ◌+◌, ◌<◌, length, slice_get, MatchOption}
use Rattle.std.specs.declared.option.Option.{Option}
use Rattle.raw_nodes.specs.Records.{Records}
use Rattle.raw_nodes.specs.declared.names.NodePtr.{NodePtr}
use Rattle.line_tree.specs.Shape.{IsTree, lines_in, tree_at}
use Rattle.line_tree.specs.Trees.{IsBalanced}
use Rattle.line_tree.specs.declared.walk.Subtree.{Subtree}

-- below the root r, at height h, line k is the first of the subtree
pub record IsFirstLine (m : Records) (h : ℕ) (r : NodePtr) (k : ℕ) (b : Subtree) : Type 0 where
  pub low : b.height < h
  pub tree : IsTree m b.height b.node
  pub balanced : IsBalanced b.height (tree_at m b.height b.node)
  pub line : slice_get (lines_in m h r) k ≡ slice_get (lines_in m b.height b.node) 0

-- the subtree that begins behind line k, if that isn't the last
abbrev pub Follows : Records → ℕ → NodePtr → ℕ → Option Subtree → Type 0
Follows m h r k o = MatchOption o (length (lines_in m h r) ≡ k + 1) (IsFirstLine m h r (k + 1))
