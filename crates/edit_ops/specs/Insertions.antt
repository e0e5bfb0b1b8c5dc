-- What it does to put texts in.
use Rattle.std.specs.Prelude.{◌≡◌, ◌<◌, ℕ, ◌+◌, ◌==◌, Bool, true, List, [], ◌∷◌, length, map, get_or, sum_by, Option}
use Rattle.std.specs.Prelude.{None, Some, if◌then◌else◌, encode_utf8_all}
use Rattle.std.specs.FinSet as set
use Rattle.std.specs.List.{flat_map, list_any}
use Rattle.std.specs.Option.{is_none}
use Rattle.text_model.specs.declared.cells.Cell.{Cell}
use Rattle.text_model.specs.Content.{Slots, slot_sets}
use Rattle.text_model.specs.Steps.{after_insertion}
pub use Rattle.text_cursor.specs.Around.{shared_slots}
use Rattle.undo_stack.specs.declared.actions.EditKind.{EditKind}
use Rattle.edit_ops.specs.declared.slotted_texts.SlottedText.{SlottedText}
use Rattle.edit_ops.specs.declared.plans.Recording.{Recording}
use Rattle.edit_ops.specs.Anchors.{anchors_moved}
use Rattle.edit_ops.specs.States.{State, log_noted}

-- the slots of a list, or without a list those that both sides share
abbrev pub slots_or : Option Slots → Slots → Slots
slots_or (Some slots) shared = slots
slots_or None shared = shared

-- a text is put in before the cell at a place, which is one action; no text is none
abbrev pub inserted_text : Recording → EditKind → ℕ → SlottedText → State → State
inserted_text recording kind at piece state =
    if length piece.text == 0 then state
    else record {
      content =
          after_insertion at piece.text (slots_or piece.slots (shared_slots at state.content.cells)) state.content;
      anchors = map (anchors_moved at (length piece.text)) state.anchors;
      log = log_noted recording kind (record { inserts = true; at = at; text = piece.text }) state.log;
    }

-- texts are put in at a place, each right behind the one before it
abbrev pub inserted_texts : Recording → EditKind → ℕ → List SlottedText → State → State
inserted_texts recording kind at [] state = state
inserted_texts recording kind at (piece ∷ pieces) state =
    inserted_texts recording kind (at + length piece.text) pieces (inserted_text recording kind at piece state)

-- how many characters the texts have
abbrev pub total : List SlottedText → ℕ
total pieces = sum_by (λ (piece : SlottedText). length piece.text) pieces

-- the texts, one after the other
abbrev pub pieces_text : List SlottedText → List ℕ
pieces_text pieces = flat_map (λ (piece : SlottedText). piece.text) pieces

-- how many bytes the texts have
abbrev pub total_bytes : List SlottedText → ℕ
total_bytes pieces = sum_by (λ (piece : SlottedText). length (encode_utf8_all piece.text)) pieces

-- whether a text has no slots of its own, and so gets those that both sides share
abbrev pub needs_shared : List SlottedText → Bool
needs_shared pieces = list_any (λ (piece : SlottedText). is_none piece.slots) pieces

-- Before a place in a text of so many cells, and behind it, stand cells that share some slots, and the one behind has
-- these, where that matters.
pub record IsBetween (matters : Bool) (shared behind : Slots) (len at : ℕ) (cells : List Cell) : Type 0 where
  pub counted : length cells ≡ len
  pub within : at < len
  pub after : matters ≡ true → get_or (slot_sets cells) at set.empty ≡ behind
  pub around : matters ≡ true → shared_slots at cells ≡ shared
