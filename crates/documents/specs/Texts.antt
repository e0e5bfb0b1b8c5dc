-- Commands on texts: `insert` and `get`.
use Rattle.std.specs.Prelude.{ℕ, ◌+◌, ◌-◌, min, nat_lt, List, [], ◌∷◌, length, map, flat_map, Option, None, Some}
use Rattle.std.specs.Prelude.{option_map, Result, Ok, if◌then◌else◌}
use Rattle.text_model.specs.LimitTable.{LimitTable}
use Rattle.undo_stack.specs.declared.actions.EditKind.TheVariants as kind
use Rattle.edit_ops.specs.Told.{insertion}
use Rattle.command_effects.specs.declared.answers.Fault.{Fault}
use Rattle.command_effects.specs.declared.answers.Fault.TheVariants.{TooManyTags, TextTooLong}
use Rattle.command_effects.specs.Faults.{with_value}
use Rattle.documents.specs.Edits.{KeyedText, with_texts}
use Rattle.reports.specs.Keys.{keys_named}
use Rattle.command_effects.specs.Lists.{Pair, all_names, total, with_names}
use Rattle.documents.specs.Indices.{place_at}
use Rattle.documents.specs.Promise.{Change, refused, edited}
use Rattle.documents.specs.Views.{is_idle, view_start, shown}
use Rattle.documents.specs.Documents.{Document, Widget}

-- a text with the keys of its tag list, of which `sel` is the acting widget's
abbrev pub keyed_text : Widget → Pair → KeyedText
keyed_text widget pair = record { text = pair.text; keys = option_map (keys_named widget.name) pair.names }

-- the tags of a document with those of some lists, the new ones last
abbrev pub tags_with : Document → List Pair → List (List ℕ)
tags_with document pairs = with_names document.tags (all_names pairs)

-- a change, unless there are too many tags then, or the document grows too long
abbrev pub within_limits : LimitTable → Document → ℕ → ℕ → Change → Change
within_limits limits document tags chars change =
    if nat_lt (limits.tags + 1) tags then refused document TooManyTags
    else (if nat_lt limits.chars chars then refused document TextTooLong
    else change)

-- the texts of pairs, one after the other
abbrev pub joined_text : List Pair → List ℕ
joined_text pairs = flat_map (λ (pair : Pair). pair.text) pairs

-- Texts are inserted at an offset of the document, each after the one before it, and the tags of their lists are made,
-- within the limits.
abbrev pub insert_at : LimitTable → Document → Widget → ℕ → List Pair → Change
insert_at limits document widget at pairs =
    within_limits limits document (length (tags_with document pairs)) (length document.cells + total pairs)
    (edited (with_texts kind.Insert at (map (keyed_text widget) pairs)
    (record document { tags = tags_with document pairs })) (insertion at (joined_text pairs) ∷ []))

-- before a place of the view, or at its end just before its last newline
abbrev pub insertion_offset : Document → Widget → ℕ → ℕ
insertion_offset document widget place = view_start widget + min place (length (shown document widget) - 1)

-- that of the index at a position of the command, or the fault there; none where the widget leaves the text as it is
abbrev pub insertion_at : Document → Widget → ℕ → List ℕ → Result (Option ℕ) Fault
insertion_at document widget position word =
    with_value (place_at document widget position word) (λ place.
    Ok (if is_idle document widget then None else Some (insertion_offset document widget place)))
