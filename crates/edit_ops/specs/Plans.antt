-- What a plan leaves.
use Rattle.std.specs.Prelude.{◌≡◌, ◌≤◌, true, List, length, ⊤, Option, None, Some, IfSome}
use Rattle.text_model.specs.Content.{Content}
use Rattle.undo_stack.specs.History.{next_undo, next_redo}
use Rattle.undo_stack.specs.Rings.{Kept}
use Rattle.undo_stack.specs.declared.actions.Action.{Action}
use Rattle.edit_ops.specs.declared.anchors.Anchors.{Anchors}
use Rattle.edit_ops.specs.declared.plans.Effects.{Effects}
use Rattle.edit_ops.specs.declared.plans.Notes.{Notes}
use Rattle.edit_ops.specs.declared.plans.Notes.TheVariants.{Made, Undone, Redone}
use Rattle.edit_ops.specs.Reversals.{log_undone, log_redone}
use Rattle.edit_ops.specs.States.{State, Log, all_noted, state_of}

-- a group is moved, if there is one
abbrev pub group_moved : (List Action → Log → Log) → Option (List Action) → Log → Log
group_moved moved None log = log
group_moved moved (Some group) log = moved group log

-- what is kept of the edits after a plan
abbrev pub log_after : Notes → Log → Log
log_after (Made kind actions recording) log = all_noted recording kind actions.items log
log_after Undone log = group_moved log_undone (next_undo log.history) log
log_after Redone log = group_moved log_redone (next_redo log.history) log

-- the anchors and the log after a plan; where it has no effects, both stay
abbrev pub anchors_left : Option Effects → List Anchors → List Anchors
anchors_left None anchors = anchors
anchors_left (Some effects) anchors = effects.anchors.items

abbrev pub log_left : Option Effects → Log → Log
log_left None log = log
log_left (Some effects) log = log_after effects.notes log

-- what a plan leaves: the content that its store then has, and its effects on the anchors and the log
abbrev pub planned : Option Effects → Content → List Anchors → Log → State
planned effects content anchors log = state_of content (anchors_left effects anchors) (log_left effects log)

-- there is room for the actions, if they are kept
abbrev pub HasRoom : Notes → Kept → Type 0
HasRoom (Made kind actions recording) kept = recording.undo ≡ true → length actions.items ≤ kept.room
HasRoom Undone kept = ⊤
HasRoom Redone kept = ⊤

abbrev pub HasRoomFor : Option Effects → Kept → Type 0
HasRoomFor effects kept = IfSome effects (λ effects. HasRoom effects.notes kept)

-- after a plan there are as many widgets as before
abbrev pub KeepsWidgets : Option Effects → List Anchors → Type 0
KeepsWidgets effects anchors = length (anchors_left effects anchors) ≡ length anchors
