-- Commands on the history and on whether the text is modified: `edit ..`.
use Rattle.std.specs.Prelude.{ℕ, ◌+◌, Bool, true, false, ◌&&◌, List, [], ◌∷◌, length, map, Option, None, Some}
use Rattle.std.specs.Prelude.{is_some, option_map, if◌then◌else◌}
use Rattle.undo_stack.specs.History.{History, after_redo, after_undo, limit_of, next_redo, next_undo, no_history}
use Rattle.undo_stack.specs.History.{separated}
use Rattle.undo_stack.specs.Modified.{Modified, counted_down, counted_up, set_to, times}
use Rattle.undo_stack.specs.declared.actions.Action.{Action}
use Rattle.edit_ops.specs.Replays.{replays}
use Rattle.edit_ops.specs.Reversals.{redo_end}
use Rattle.command_effects.specs.declared.answers.Answer.TheVariants.{Empty}
use Rattle.command_effects.specs.declared.answers.Fault.{Fault}
use Rattle.command_effects.specs.declared.answers.Fault.TheVariants.{NothingToRedo, NothingToUndo}
use Rattle.documents.specs.Deletions.{with_clipped}
use Rattle.reports.specs.Cells.{keys_between}
use Rattle.documents.specs.Edits.{with_cells, without_cells}
use Rattle.documents.specs.Promise.{Change, answered, edited, refused, unless_idle}
use Rattle.documents.specs.Documents.{Document, Widget}

-- `W edit separator`: where actions are kept, the last group takes no more
abbrev pub edit_separator : Document → Change
edit_separator document =
    answered (if document.undo then record document { history = separated document.history } else document) Empty

-- `W edit reset`: no group is left
abbrev pub edit_reset : Document → Change
edit_reset document = answered (record document { history = no_history }) Empty

abbrev pub modified_set : Document → Bool → Change
modified_set document modified = answered (record document { modified = set_to modified document.modified }) Empty

-- ---- undo and redo

-- a text comes back at a place, with the keys that both its neighbours have
abbrev pub text_back : ℕ → List ℕ → Document → Document
text_back at text document = with_cells at (map (λ character.
    record { character = character; keys = keys_between document.cells at }) text) document

-- an action is made once more; nothing is noted
abbrev pub action_again : Action → Document → Document
action_again action document =
    if action.inserts then text_back action.at action.text document
    else without_cells action.at (action.at + length action.text) document

-- the actions of a group, the first first
abbrev pub group_again : List Action → Document → Document
group_again [] document = document
group_again (action ∷ actions) document = group_again actions (action_again action document)

-- the widget's `insert` stands where a group ended, if it ended somewhere
abbrev pub with_end : Widget → Option ℕ → Document → Document
with_end widget end document =
    with_clipped widget (option_map (λ at. record widget.insert { offset = at }) end) document

-- the group that is undone where `back`, or redone
abbrev pub next_group : Bool → History → Option (List Action)
next_group true = next_undo
next_group false = next_redo

-- where a group is redone, the oldest groups past the limit go
abbrev pub after_group : Bool → List Action → ℕ → History → History
after_group true group most history = after_undo group history
after_group false group most history = after_redo group most history

-- each action that is reverted takes one from the count
abbrev pub recounted : Bool → Modified → Modified
recounted true = counted_down
recounted false = counted_up

-- a group is undone where `back`, or redone: the actions that revert it, or its own, are made
abbrev pub with_group : Bool → Widget → List Action → Document → Document
with_group back widget group document =
    record (with_end widget (redo_end (replays back group)) (group_again (replays back group) document)) {
      history = after_group back group (limit_of document.most_undo) document.history;
      modified = times (length group) (recounted back) document.modified;
    }

abbrev pub no_group : Bool → Fault
no_group true = NothingToUndo
no_group false = NothingToRedo

-- a widget that is disabled, or shows nothing, leaves the text as it is
abbrev pub group_found : Bool → Document → Widget → Option (List Action) → Change
group_found back document widget None = refused document (no_group back)
group_found back document widget (Some group) =
    unless_idle widget document (edited (with_group back widget group document) (replays back group))

-- nothing happens where no action is kept
abbrev pub edit_group : Bool → Document → Widget → Change
edit_group back document widget =
    if document.undo then group_found back document widget (next_group back document.history)
    else answered document Empty

-- `W edit undo`
abbrev pub edit_undo : Document → Widget → Change
edit_undo = edit_group true

-- `W edit redo`
abbrev pub edit_redo : Document → Widget → Change
edit_redo = edit_group false

-- ---- what `edit undo` and `edit redo` would find

-- as `edit canundo`: actions are kept, and a group is left
abbrev pub can_undo : Document → Bool
can_undo document = document.undo && is_some (next_undo document.history)

-- as `edit canredo`
abbrev pub can_redo : Document → Bool
can_redo document = document.undo && is_some (next_redo document.history)
