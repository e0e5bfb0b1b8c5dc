-- What it does to undo the group of actions that was made last, and to redo the one that was undone last.
use Rattle.std.specs.Prelude.{ℕ, ◌+◌, List, [], ◌∷◌, length, map, Option, None, Some, option_map, option_and_then}
use Rattle.std.specs.Prelude.{if◌then◌else◌}
use Rattle.std.specs.FinMap as finite
use Rattle.text_model.specs.Content.{Content, characters}
use Rattle.text_model.specs.Steps.{after_insertion, after_removal}
use Rattle.text_model.specs.declared.places.Place.{Place}
use Rattle.undo_stack.specs.History.{next_undo, next_redo, after_undo, after_redo}
use Rattle.undo_stack.specs.Modified.{counted_up, counted_down, times}
use Rattle.undo_stack.specs.declared.actions.Action.{Action}
use Rattle.edit_ops.specs.Anchors.{anchors_moved, anchors_removed}
use Rattle.text_cursor.specs.Around.{shared_slots}
use Rattle.edit_ops.specs.Removals.{with_mark}
use Rattle.edit_ops.specs.States.{State, Log}

-- a text comes back at a place, with the slots that both sides share
abbrev pub put_back : ℕ → List ℕ → State → State
put_back at text state = record state {
  content = after_insertion at text (shared_slots at state.content.cells) state.content;
  anchors = map (anchors_moved at (length text)) state.anchors;
}

-- the cells from one offset to another are taken out again
abbrev pub taken_back : ℕ → ℕ → State → State
taken_back from to state = record state {
  content = after_removal from to state.content;
  anchors = map (anchors_removed (characters state.content.cells) from to) state.anchors;
}

-- an action is made once more, or reverted; nothing is noted
abbrev pub action_redone : Action → State → State
action_redone action state =
    if action.inserts then put_back action.at action.text state
    else taken_back action.at (action.at + length action.text) state

abbrev pub action_undone : Action → State → State
action_undone action state =
    if action.inserts then taken_back action.at (action.at + length action.text) state
    else put_back action.at action.text state

-- the actions of a group, the first first
abbrev pub group_redone : List Action → State → State
group_redone [] state = state
group_redone (action ∷ actions) state = group_redone actions (action_redone action state)

-- the actions of a group, the last first
abbrev pub group_undone : List Action → State → State
group_undone [] state = state
group_undone (action ∷ actions) state = action_undone action (group_undone actions state)

-- The end of the last text that was put back, or the beginning of what was taken out last, whichever came last: of a
-- group that is redone the last action, and of one that is undone the first.
abbrev pub redo_end : List Action → Option ℕ
redo_end [] = None
redo_end (action ∷ []) = Some (if action.inserts then action.at + length action.text else action.at)
redo_end (action ∷ next ∷ actions) = redo_end (next ∷ actions)

abbrev pub undo_end : List Action → Option ℕ
undo_end [] = None
undo_end (action ∷ actions) = Some (if action.inserts then action.at else action.at + length action.text)

-- the mark of a number, if there is one, stands at an offset
abbrev pub stood : ℕ → Option ℕ → Content → Content → Content
stood number offset old content =
    with_mark number (option_and_then (λ (place : Place). option_map (λ at. record place { offset = at }) offset)
    (finite.get old.marks number)) content

abbrev pub log_undone : List Action → Log → Log
log_undone group log =
    record log { history = after_undo group log.history; modified = times (length group) counted_down log.modified }

abbrev pub log_redone : List Action → Log → Log
log_redone group log = record log {
  history = after_redo group log.most log.history;
  modified = times (length group) counted_up log.modified;
}

abbrev pub undone_group : ℕ → Option (List Action) → State → State
undone_group mark None state = state
undone_group mark (Some group) state =
    let made = group_undone group state in
    record made { content = stood mark (undo_end group) state.content made.content; log = log_undone group state.log }

abbrev pub redone_group : ℕ → Option (List Action) → State → State
redone_group mark None state = state
redone_group mark (Some group) state =
    let made = group_redone group state in
    record made { content = stood mark (redo_end group) state.content made.content; log = log_redone group state.log }

-- The last group is undone, and the mark of a number stands where that ends; nothing, where there is no group.
abbrev pub undone : ℕ → State → State
undone mark state = undone_group mark (next_undo state.log.history) state

-- the group that was undone last is redone
abbrev pub redone : ℕ → State → State
redone mark state = redone_group mark (next_redo state.log.history) state
