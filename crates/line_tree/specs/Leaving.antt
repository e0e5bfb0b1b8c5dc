-- What is left where some of the lines in a row go.
use Rattle.std.specs.Prelude.{◌≡◌, ℕ, ◌+◌, ◌≤◌, List, ◌++◌, length, take, drop}
use Rattle.line_tree.specs.Room.{KeepsRoom}
use Rattle.line_tree.specs.TreeState.{TreeState}
use Rattle.line_tree.specs.Trees.{Named}

-- of so many lines from line k on so many are left, and the others are as before
pub record Leaves (old : TreeState) (k gone left : ℕ) (now : TreeState) : Type 0 where
  pub few : left ≤ gone
  pub rest : List Named
  pub long : length rest ≡ left
  pub lines : now.lines ≡ take k old.lines ++ rest ++ drop (k + gone) old.lines
  pub room : KeepsRoom old now
