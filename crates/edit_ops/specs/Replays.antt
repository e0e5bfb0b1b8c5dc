-- A group of actions is made once more, or reverted, by an outline with a cursor in what it makes.
use Rattle.std.specs.Prelude.{◌≡◌, ◌<◌, ◌^◌, ℕ, ◌+◌, Bool, true, false, not, List, map, length, reverse}
use Rattle.std.specs.Prelude.{if◌then◌else◌}
use Rattle.std.specs.Char.{IsScalar}
use Rattle.std.specs.List.{All}
use Rattle.text_model.specs.Content.{Content, characters}
use Rattle.text_model.specs.declared.cells.Cell.{Cell}
use Rattle.text_model.specs.Steps.{Fits, after}
use Rattle.undo_stack.specs.declared.actions.Action.{Action}
use Rattle.text_cursor.specs.declared.cursors.Cursor.{Cursor}
use Rattle.edit_ops.specs.Anchors.{AnchorsStand}
use Rattle.text_cursor.specs.Cursors.{cursor_cells, IsCursor}
use Rattle.edit_ops.specs.Reversals.{group_redone, redo_end, stood}
use Rattle.edit_ops.specs.Told.{after_actions}
use Rattle.edit_ops.specs.States.{State, Log, Outline, state_of}

-- An outline and a cursor go along: the cursor is in the text that the outline makes of a content.
pub record Follows (content : Content) (outline : Outline) (cursor : Cursor) : Type 0 where
  pub is : IsCursor cursor
  pub old_len : cursor.old_len ≡ length content.cells
  pub short : cursor.len < 2 ^ 64
  pub cells : cursor_cells content.cells cursor ≡ (after outline.steps content).cells
  pub fits : Fits outline.steps content
  pub stand : All (AnchorsStand cursor.len) outline.anchors

-- Actions lead from the text in which a cursor is to that in which it is afterwards, whatever the old text is.
abbrev pub ActsOn : List Action → Cursor → Cursor → Type 0
ActsOn actions before now =
    (old : List Cell) → length old ≡ before.old_len
    → characters (cursor_cells old now) ≡ after_actions actions (characters (cursor_cells old before))

-- They lead from the old text to that in which a cursor is.
abbrev pub Leads : List Action → Cursor → Type 0
Leads actions now =
    (old : List Cell) → length old ≡ now.old_len
    → characters (cursor_cells old now) ≡ after_actions actions (characters old)

-- what an outline makes, of which nothing is noted
abbrev pub drawn_up : Outline → Content → Log → State
drawn_up outline content log = state_of (after outline.steps content) outline.anchors log

-- the end of a text that was put in, or the place of one that was taken out
abbrev pub action_end : Action → ℕ
action_end action = if action.inserts then action.at + length action.text else action.at

-- the action itself, or the one that reverts it
abbrev pub replayed : Bool → Action → Action
replayed false action = action
replayed true action = record action { inserts = not action.inserts }

-- the actions of a group, or those that revert them, in the order in which they are made
abbrev pub replays : Bool → List Action → List Action
replays false group = group
replays true group = map (replayed true) (reverse group)

-- a group of actions is made, and the mark of a number is where that ends
abbrev pub replayed_group : ℕ → List Action → State → State
replayed_group mark group state =
    let made = group_redone group state in
    record made { content = stood mark (redo_end group) state.content made.content }

-- the texts of actions are of Unicode scalar values
abbrev pub AreScalars : List Action → Type 0
AreScalars actions = All (λ (action : Action). All IsScalar action.text) actions
