-- Runs of a text's characters, and the slots that these get.
use Rattle.std.specs.Prelude.{◌≡◌, ◌<◌, ◌≤◌, ℕ, List, [], ◌∷◌, length, slice_range, ⊤}
use Rattle.std.specs.FinSet as set
use Rattle.std.specs.List.{All}
use Rattle.text_model.specs.declared.cells.Cell.{Cell}
use Rattle.text_model.specs.Content.{Slots}
use Rattle.text_model.specs.Splices.{changed}
use Rattle.text_model.specs.Steps.{cells_of}
use Rattle.edit_ops.specs.declared.slot_runs.SlotRun.{SlotRun}

-- the cells of a text that comes in without slots
abbrev pub bare_cells : List ℕ → List Cell
bare_cells text = cells_of text set.empty

abbrev pub with_slots : Slots → Cell → Cell
with_slots slots cell = record cell { tags = slots }

-- the cells of each run get its slots
abbrev pub slotted : List SlotRun → List Cell → List Cell
slotted [] cells = cells
slotted (run ∷ runs) cells = slotted runs (changed (with_slots run.slots) run.from run.to cells)

-- a run that isn't empty, of cells that have no slots
pub record IsBareRun (cells : List Cell) (run : SlotRun) : Type 0 where
  pub some : run.from < run.to
  pub within : run.to ≤ length cells
  pub bare : All (λ (cell : Cell). cell.tags ≡ set.empty) (slice_range cells run.from run.to)

-- from an offset on, each behind the one before it
abbrev pub AreBareRuns : ℕ → List SlotRun → List Cell → Type 0
AreBareRuns at [] cells = ⊤
AreBareRuns at (run ∷ runs) cells = (at ≤ run.from) × IsBareRun cells run × AreBareRuns run.to runs cells
