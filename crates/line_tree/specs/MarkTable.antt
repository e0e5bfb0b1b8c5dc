-- In which line the mark of each number stands, by the name of the line.
use Rattle.std.specs.Prelude.{◌≡◌, ℕ, ◌<◌, ◌≤◌, List, [], ◌∷◌, ◌++◌, if◌then◌else◌, get_or, take, drop, slice_range}
use Rattle.std.specs.declared.option.Option.{Option}
use Rattle.std.specs.declared.option.Option.TheVariants.{None, Some}
use Rattle.std.proofs.Props.{props}
use Rattle.line_lists.specs.Lists.{has_mark}
use Rattle.raw_nodes.specs.declared.names.NodePtr.{NodePtr}
use Rattle.line_tree.specs.Places.{IsLineAt}
use Rattle.line_tree.specs.Trees.{Named}

-- the name of the first line that has the mark of a number
abbrev pub holder : ℕ → List Named → Option NodePtr
holder number [] = None
holder number (l ∷ ls) = if has_mark number l.1 then Some l.0 else holder number ls

-- what a table says of a number: behind its end there is nothing
abbrev pub noted : ℕ → List (Option NodePtr) → Option NodePtr
noted number names = get_or names number None

-- a table says of each number the name of the line that has its mark, and where no line has it, it says none
pub record IsTable (names : List (Option NodePtr)) (lines : List Named) : Type 0 where
  pub each : (number : ℕ) → noted number names ≡ holder number lines

pub IsTable-prop : (names : List (Option NodePtr)) (lines : List Named) → IsProp (IsTable names lines)
IsTable-prop names lines = Prim.hlevel props

-- all lines but those from one to another
abbrev pub lines_without : ℕ → ℕ → List Named → List Named
lines_without from to lines = take from lines ++ drop to lines

-- in the lines from one to another no mark stands
abbrev pub AreBare : ℕ → ℕ → List Named → Type 0
AreBare from to lines = (number : ℕ) → holder number (slice_range lines from to) ≡ None

-- a line below another, where those from one on before it have no mark
pub record IsMarkedBelow (from to : ℕ) (lines : List Named) (found : ℕ × NodePtr) : Type 0 where
  pub above : from ≤ found.0
  pub below : found.0 < to
  pub bare : AreBare from found.0 lines
  pub named : IsLineAt lines found.0 found.1
