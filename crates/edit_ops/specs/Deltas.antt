-- What an edit does to the cells of a text, as its plan knows it.
use Rattle.std.specs.Prelude.{◌≡◌, ◌+◌, Bool, true, false, List, [], length, slice_get, Option, None, Some, ⊤}
use Rattle.std.specs.Prelude.{box_value, option_map, Box, IfSome}
use Rattle.text_model.specs.declared.cells.Cell.{Cell}
use Rattle.text_model.specs.Content.{slot_sets}
use Rattle.text_model.specs.Splices.{changed}
use Rattle.text_model.specs.Steps.{without_slots}
use Rattle.undo_stack.specs.declared.actions.Action.{Action}
use Rattle.edit_ops.specs.SlotRuns.{bare_cells, slotted, AreBareRuns}
use Rattle.edit_ops.specs.Told.{patched_by, AreHunksOf}
use Rattle.edit_ops.specs.declared.deltas.Delta.{Delta}
use Rattle.edit_ops.specs.declared.slot_runs.SlotRun.{SlotRun}

-- the cells that hunks leave: what they insert has no slots
abbrev pub hunks_made : Delta → List Cell → List Cell
hunks_made delta cells = patched_by bare_cells 0 delta.hunks.items cells

-- one cell, and its slots
abbrev pub IsLostRun : List Cell → Option SlotRun → Type 0
IsLostRun cells None = ⊤
IsLostRun cells (Some run) = (run.to ≡ run.from + 1) × (slice_get (slot_sets cells) run.from ≡ Some run.slots)

-- the run of a delta that loses its slots
abbrev pub lost_run : Delta → Option SlotRun
lost_run delta = option_map box_value delta.lost

-- the cells of a run lose their slots
abbrev pub bared : Option SlotRun → List Cell → List Cell
bared None cells = cells
bared (Some run) cells = changed without_slots run.from run.to cells

-- Actions make new cells of old ones, and this is how: by hunks of the old text, which are exactly what the actions do,
-- and then a cell that loses its slots, or runs of new cells that get theirs.
pub record IsDelta (actions : List Action) (old new : List Cell) (delta : Delta) : Type 0 where
  pub exact : AreHunksOf actions (length old) delta.hunks.items
  pub lost : IsLostRun (hunks_made delta old) (lost_run delta)
  pub either : IfSome (lost_run delta) (λ _. delta.gained.items ≡ [])
  pub bare : AreBareRuns 0 delta.gained.items (bared (lost_run delta) (hunks_made delta old))
  pub cells : new ≡ slotted delta.gained.items (bared (lost_run delta) (hunks_made delta old))

module _ {Z : Type 0} where
  -- what a plan knows of this, where its caller follows
  abbrev pub KnowsDelta : Bool → List Action → List Cell → List Cell → Option (Box Delta Z) → Type 0
  KnowsDelta follows actions old new None = follows ≡ false
  KnowsDelta follows actions old new (Some delta) = (follows ≡ true) × IsDelta actions old new (box_value delta)
