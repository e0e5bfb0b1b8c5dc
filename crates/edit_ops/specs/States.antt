-- What edits change: a text with its marks, the anchors of each widget, and what is kept of the edits.
use Rattle.std.specs.Prelude.{◌≡◌, ℕ, List, [], ◌∷◌, if◌then◌else◌}
use Rattle.text_model.specs.Content.{Content}
use Rattle.text_model.specs.Steps.{after}
use Rattle.text_model.specs.declared.edits.Step.{Step}
use Rattle.undo_stack.specs.History.{History, noted}
use Rattle.undo_stack.specs.Modified.{Modified, counted_new}
use Rattle.undo_stack.specs.Rings.{Kept}
use Rattle.undo_stack.specs.declared.actions.Action.{Action}
use Rattle.undo_stack.specs.declared.actions.EditKind.{EditKind}
use Rattle.edit_ops.specs.declared.anchors.Anchors.{Anchors}
use Rattle.edit_ops.specs.declared.plans.Recording.{Recording}
use Rattle.edit_ops.specs.declared.texts.EditedText.{EditedText}

-- what is kept of the edits; no more groups of them than `most`, if that isn't 0
pub record Log : Type 0 where
  pub history : History
  pub modified : Modified
  pub most : ℕ

abbrev pub log_of : Kept → Log
log_of kept = record { history = kept.history; modified = kept.modified; most = kept.most }

pub record State : Type 0 where
  pub content : Content
  pub anchors : List Anchors
  pub log : Log

-- An action of an edit of a kind is noted. It counts in any case, and is kept where that is wanted.
abbrev pub log_noted : Recording → EditKind → Action → Log → Log
log_noted recording kind action log = record log {
  history = if recording.undo then noted kind action recording.separators log.most log.history else log.history;
  modified = counted_new log.modified;
}

abbrev pub all_noted : Recording → EditKind → List Action → Log → Log
all_noted recording kind [] log = log
all_noted recording kind (action ∷ actions) log = all_noted recording kind actions (log_noted recording kind action log)

-- what an edit does: steps on the text, the anchors afterwards, and actions to be noted
pub record Outline : Type 0 where
  pub steps : List Step
  pub anchors : List Anchors
  pub actions : List Action

abbrev pub outlineed : Recording → EditKind → Outline → State → State
outlineed recording kind outline state = record {
  content = after outline.steps state.content;
  anchors = outline.anchors;
  log = all_noted recording kind outline.actions state.log;
}

abbrev pub state_of : Content → List Anchors → Log → State
state_of content anchors log = record { content = content; anchors = anchors; log = log }

-- what an edited text is, where a function tells the content of its store
abbrev pub state_in : {S P : Type 0} → (S → Content) → EditedText S P → State
state_in content text = state_of (content text.store) text.anchors.items (log_of text.history)

-- an edited text is as it was
abbrev pub IsUnchanged : {S P : Type 0} → (S → Content) → EditedText S P → EditedText S P → Type 0
IsUnchanged content text changed =
    (content changed.store ≡ content text.store) × (log_of changed.history ≡ log_of text.history) ×
    (changed.anchors.items ≡ text.anchors.items)
