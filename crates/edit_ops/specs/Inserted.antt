-- What the steps of an edit insert, in place of some characters of the text.
use Rattle.std.specs.Prelude.{◌≡◌, ◌<◌, ℕ, ◌+◌, ◌^◌, Bool, true, false, List, [], ◌∷◌, ◌++◌, length, ⊤, Option, None}
use Rattle.std.specs.Prelude.{Some, Box, box_value, ◌==◌, if◌then◌else◌}
use Rattle.std.specs.List.{flat_map, All}
use Rattle.text_model.specs.declared.cells.Cell.{Cell}
use Rattle.text_model.specs.declared.edits.Step.{Step}
use Rattle.text_model.specs.declared.edits.Step.TheVariants.{Insert, Remove}
use Rattle.text_model.specs.Content.{characters}
use Rattle.text_model.specs.Splices.{inserted, removed}
use Rattle.edit_ops.specs.Deltas.{lost_run}
use Rattle.edit_ops.specs.Insertions.{pieces_text}
use Rattle.edit_ops.specs.SlotRuns.{bare_cells, slotted, AreBareRuns}
use Rattle.undo_stack.specs.declared.actions.Action.{Action}
use Rattle.edit_ops.specs.Told.{deletion, insertion, replacing}
use Rattle.edit_ops.specs.declared.deltas.Delta.{Delta}
use Rattle.edit_ops.specs.declared.slot_runs.SlotRun.{SlotRun}
use Rattle.edit_ops.specs.declared.slotted_texts.SlottedText.{SlottedText}

-- the text that a step inserts, and the run of its characters
abbrev pub text_of : Step → List ℕ
text_of (Insert at text slots) = text
text_of step = []

abbrev pub runs_of : Step → List SlotRun
runs_of (Insert at text slots) = record { from = at; to = at + length text; slots = slots } ∷ []
runs_of step = []

-- the same of steps
abbrev pub text_in : List Step → List ℕ
text_in steps = flat_map text_of steps

abbrev pub runs_in : List Step → List SlotRun
runs_in steps = flat_map runs_of steps

-- the end of what a step inserts is a number of the program
abbrev pub IsShort : Step → Type 0
IsShort (Insert at text slots) = at + length text < 2 ^ 64
IsShort step = ⊤

-- texts that aren't empty, inserted from an offset on, each after the one before it
abbrev pub AreInsertions : ℕ → List Step → Type 0
AreInsertions at [] = ⊤
AreInsertions at (Insert place text slots ∷ steps) =
    (place ≡ at) × (0 < length text) × AreInsertions (at + length text) steps
AreInsertions at (step ∷ steps) = ⊥

-- an edit goes on by inserting texts at an offset
pub record GoesOn (at : ℕ) (pieces : List SlottedText) (old new : List Step) : Type 0 where
  pub steps : List Step
  pub made : new ≡ old ++ steps
  pub are : AreInsertions at steps
  pub text : text_in steps ≡ pieces_text pieces

-- Steps insert texts in place of the characters from one offset to another, and so make new cells of old ones: those
-- with the texts without slots, where the runs then get theirs.
pub record PutInPlace (from to : ℕ) (pieces : List SlottedText) (old new : List Cell) (steps : List Step) : Type 0 where
  pub short : All IsShort steps
  pub text : text_in steps ≡ pieces_text pieces
  pub bare : AreBareRuns 0 (runs_in steps) (inserted from (bare_cells (pieces_text pieces)) (removed from to old))
  pub cells : new ≡ slotted (runs_in steps) (inserted from (bare_cells (pieces_text pieces)) (removed from to old))

-- the delta of steps that insert texts in place of the characters from one offset to another
pub record IsInserted (from to : ℕ) (steps : List Step) (delta : Delta) : Type 0 where
  pub hunks : delta.hunks.items ≡ replacing from to (text_in steps)
  pub lost : lost_run delta ≡ None
  pub gained : delta.gained.items ≡ runs_in steps

module _ {Z : Type 0} where
  -- what is known of it, where the caller follows
  abbrev pub KnowsInserted : Bool → ℕ → ℕ → List Step → Option (Box Delta Z) → Type 0
  KnowsInserted follows from to steps None = follows ≡ false
  KnowsInserted follows from to steps (Some delta) = (follows ≡ true) × IsInserted from to steps (box_value delta)

-- the steps that delete the characters from one offset to another
abbrev pub removal_steps : ℕ → ℕ → List Step
removal_steps from to = if from == to then [] else Remove from to ∷ []

-- the actions that replace the characters of cells from one offset to another by a text
abbrev pub replacement : List Cell → ℕ → ℕ → List ℕ → List Action
replacement cells from to text = deletion (characters cells) from to ∷ insertion from text ∷ []
