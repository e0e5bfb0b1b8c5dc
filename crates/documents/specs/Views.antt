-- The part of a document that a widget shows.
use Rattle.std.specs.Prelude.{ℕ, Bool, ◌||◌, ◌==◌, List, get_or, length, map, slice_range, unwrap_or}
use Rattle.std.specs.FinSet as set
use Rattle.reports.specs.declared.keys.Key.{Key}
use Rattle.edit_ops.specs.declared.anchors.Anchors.{Anchors}
use Rattle.text_index.specs.Views.{Part}
use Rattle.text_model.specs.Content.{Content}
use Rattle.documents.specs.Documents.{Widget, Document, whole}
use Rattle.reports.specs.Cells.{KeyedCell, characters}

abbrev pub view_start : Widget → ℕ
view_start widget = unwrap_or widget.start 0

abbrev pub view_end : Document → Widget → ℕ
view_end document widget = unwrap_or widget.end (length document.cells)

-- the part of a text between the anchors of a slot
abbrev pub part_between : Content → List Anchors → ℕ → Part
part_between content anchors slot = record {
  content = content;
  start = unwrap_or (get_or anchors slot whole).start 0;
  end = unwrap_or (get_or anchors slot whole).end (length content.cells);
}

-- the characters from the start of the view to its end
abbrev pub shown : Document → Widget → List ℕ
shown document widget = slice_range (characters document.cells) (view_start widget) (view_end document widget)

-- which of its cells have a key
abbrev pub shown_flags : Document → Widget → Key → List Bool
shown_flags document widget key =
    slice_range (map (λ (cell : KeyedCell). set.contains cell.keys key) document.cells) (view_start widget)
    (view_end document widget)

-- a widget whose commands leave the text as it is: it is disabled, or its view is empty
abbrev pub is_idle : Document → Widget → Bool
is_idle document widget = widget.disabled || view_start widget == view_end document widget
