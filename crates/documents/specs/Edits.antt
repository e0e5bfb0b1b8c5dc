-- What an edit makes of a document: of its cells, of the places in it, and of what is kept of edits.
use Rattle.std.specs.Prelude.{ℕ, ◌+◌, ◌==◌, true, false, List, [], ◌∷◌, length, map}
use Rattle.std.specs.Prelude.{slice_range, Option, option_map, if◌then◌else◌}
use Rattle.text_model.specs.Splices.{inserted, removed, changed, moved, drawn}
use Rattle.undo_stack.specs.History.{noted, limit_of}
use Rattle.undo_stack.specs.Modified.{counted_new}
use Rattle.undo_stack.specs.declared.actions.Action.{Action}
use Rattle.undo_stack.specs.declared.actions.EditKind.{EditKind}
use Rattle.edit_ops.specs.Anchors.{anchor_moved, anchors_removed}
use Rattle.edit_ops.specs.declared.spans.Span.{Span}
use Rattle.reports.specs.Keys.{Keys}
use Rattle.documents.specs.Documents.{Document, Widget, SharedMark}
use Rattle.reports.specs.Cells.{KeyedCell, bare, characters, keys_between, keys_or}

-- a text to be put in, with the keys of each of its characters where it has a tag list
pub record KeyedText : Type 0 where
  pub text : List ℕ
  pub keys : Option Keys

-- a widget after so many cells are put in at an offset: its anchors and its own marks move along
abbrev pub widget_moved : ℕ → ℕ → Widget → Widget
widget_moved at count widget = record widget {
  start = option_map (anchor_moved at count) widget.start;
  end = option_map (anchor_moved at count) widget.end;
  insert = moved at count widget.insert;
  current = moved at count widget.current;
}

-- cells are put in before the cell at an offset, and the places in the document move along
abbrev pub with_cells : ℕ → List KeyedCell → Document → Document
with_cells at cells document = record document {
  cells = inserted at cells document.cells;
  widgets = map (widget_moved at (length cells)) document.widgets;
  marks = map (λ (mark : SharedMark). record mark { place = moved at (length cells) mark.place }) document.marks;
}

-- an action of an edit of a kind is noted: it counts in any case, and is kept where `-undo` is true
abbrev pub with_action : EditKind → Action → Document → Document
with_action kind action document = record document {
  history = if document.undo then noted kind action document.separators (limit_of document.most_undo) document.history
      else document.history;
  modified = counted_new document.modified;
}

-- a text is put in before the cell at an offset, which is one action; no text is none
abbrev pub with_text : EditKind → ℕ → KeyedText → Document → Document
with_text kind at text document =
    if length text.text == 0 then document
    else with_action kind (record { inserts = true; at = at; text = text.text })
    (with_cells at (map (λ character. record {
      character = character;
      keys = keys_or text.keys (keys_between document.cells at);
    }) text.text) document)

-- texts are put in, each right behind the one before it
abbrev pub with_texts : EditKind → ℕ → List KeyedText → Document → Document
with_texts kind at [] document = document
with_texts kind at (text ∷ texts) document =
    with_texts kind (at + length text.text) texts (with_text kind at text document)

-- a widget after the cells from one offset to another are taken out of a text: its anchors and its own marks are drawn
-- along
abbrev pub widget_drawn : List ℕ → ℕ → ℕ → Widget → Widget
widget_drawn text from to widget =
    let anchors = anchors_removed text from to (record { start = widget.start; end = widget.end }) in
    record widget {
      start = anchors.start;
      end = anchors.end;
      insert = drawn from to widget.insert;
      current = drawn from to widget.current;
    }

-- the cells from one offset to another are taken out, and the places in the document are drawn along
abbrev pub without_cells : ℕ → ℕ → Document → Document
without_cells from to document = record document {
  cells = removed from to document.cells;
  widgets = map (widget_drawn (characters document.cells) from to) document.widgets;
  marks = map (λ (mark : SharedMark). record mark { place = drawn from to mark.place }) document.marks;
}

-- the cells from one offset to another are taken out, which is one action; no cells are none
abbrev pub without_span : EditKind → ℕ → ℕ → Document → Document
without_span kind from to document =
    if from == to then document
    else with_action kind (record {
      inserts = false;
      at = from;
      text = slice_range (characters document.cells) from to;
    }) (without_cells from to document)

-- spans are taken out, one after the other
abbrev pub without_spans : EditKind → List Span → Document → Document
without_spans kind [] document = document
without_spans kind (span ∷ spans) document = without_spans kind spans (without_span kind span.from span.to document)

abbrev pub with_bare : ℕ → Document → Document
with_bare at document = record document { cells = changed bare at (at + 1) document.cells }
