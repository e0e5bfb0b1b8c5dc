-- What it does to take cells out, and to put texts in their place.
use Rattle.std.specs.Prelude.{ℕ, ◌+◌, ◌-◌, ◌==◌, ◌&&◌, nat_le, nat_lt, min, false, List, map, slice_range, Option, None}
use Rattle.std.specs.Prelude.{Some, option_and_then, if◌then◌else◌}
use Rattle.std.specs.FinMap as finite
use Rattle.text_model.specs.Content.{Content, characters}
use Rattle.text_model.specs.Steps.{after_removal}
use Rattle.text_model.specs.declared.places.Place.{Place}
use Rattle.undo_stack.specs.declared.actions.EditKind.{EditKind}
use Rattle.undo_stack.specs.declared.actions.EditKind.TheVariants.{Replace}
use Rattle.edit_ops.specs.declared.slotted_texts.SlottedText.{SlottedText}
use Rattle.edit_ops.specs.declared.plans.Recording.{Recording}
use Rattle.edit_ops.specs.Anchors.{anchors_removed}
use Rattle.edit_ops.specs.Insertions.{inserted_texts, total}
use Rattle.edit_ops.specs.States.{State, log_noted}

-- the cells from one offset to another are taken out, which is one action; no cells are none
abbrev pub removed_span : Recording → EditKind → ℕ → ℕ → State → State
removed_span recording kind from to state =
    if from == to then state
    else record {
      content = after_removal from to state.content;
      anchors = map (anchors_removed (characters state.content.cells) from to) state.anchors;
      log = log_noted recording kind (record {
        inserts = false;
        at = from;
        text = slice_range (characters state.content.cells) from to;
      }) state.log;
    }

-- A mark before a cell that is replaced stays as far behind the place as it was, or at the end of the new text.
abbrev pub clipped : ℕ → ℕ → ℕ → Place → Option Place
clipped from to count place =
    if nat_le from place.offset && nat_lt place.offset to
    then Some (record place { offset = from + min (place.offset - from) count })
    else None

-- the mark of a number is put at a place, if there is one
abbrev pub with_mark : ℕ → Option Place → Content → Content
with_mark number None content = content
with_mark number (Some place) content = record content { marks = finite.insert content.marks number place }

-- the cells from one offset to another give way to texts, and the mark of a number is clipped
abbrev pub replaced_span : Recording → ℕ → ℕ → ℕ → List SlottedText → State → State
replaced_span recording mark from to pieces state =
    let made = inserted_texts recording Replace from pieces (removed_span recording Replace from to state) in
    record made {
      content = with_mark mark (option_and_then (clipped from to (total pieces)) (finite.get state.content.marks mark))
          made.content;
    }

-- the same, where both offsets are cut to one that is the greatest
abbrev pub replaced : Recording → ℕ → ℕ → ℕ → ℕ → List SlottedText → State → State
replaced recording mark last from to pieces state =
    replaced_span recording mark (min from last) (min to last) pieces state
