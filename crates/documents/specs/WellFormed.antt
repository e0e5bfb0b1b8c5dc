-- When a document is well formed: what every command can rely on, and keeps.
use Rattle.std.specs.Prelude.{◌≡◌, ℕ, ◌+◌, ◌≤◌, IfSome, Bool, true, false, ◌&&◌, not, List, length, map, if◌then◌else◌}
use Rattle.std.specs.List.{AllByRecursion, IsDistinct}
use Rattle.std.specs.FinSet as set
use Rattle.text_model.specs.Documents.{IsDocument}
use Rattle.text_model.specs.Lines.{IsLineStart}
use Rattle.text_model.specs.LimitTable.{LimitTable}
use Rattle.undo_stack.specs.Fits.{FitsText}
use Rattle.command_effects.specs.Words.{is_same, is_among, is_own}
use Rattle.reports.specs.declared.keys.Key.{Key}
use Rattle.documents.specs.Documents.{Document, Widget, SharedMark, sel}
use Rattle.reports.specs.Cells.{KeyedCell, characters}
use Rattle.documents.specs.Views.{view_start, view_end}
use Rattle.documents.specs.Kept.{is_window_name}

-- the names of the widgets, by their creation
abbrev pub window_names : Document → List (List ℕ)
window_names document = map (λ (widget : Widget). widget.name) document.widgets

-- a tag of the document, or one of its widgets
abbrev pub belongs : Document → Key → Bool
belongs document key =
    if key.selects then is_among key.name (window_names document)
    else is_among key.name document.tags && not (is_same key.name sel)

abbrev pub HasItsKeys : Document → KeyedCell → Type 0
HasItsKeys document cell = (key : Key) → set.contains cell.keys key ≡ true → belongs document key ≡ true

-- a widget's view is of whole lines of the document, and its marks stand in the document
pub record IsPlaced (document : Document) (widget : Widget) : Type 0 where
  pub name : is_window_name widget.name ≡ true
  pub start : IfSome widget.start (IsLineStart (characters document.cells))
  pub end : IfSome widget.end (IsLineStart (characters document.cells))
  pub ordered : view_start widget ≤ view_end document widget
  pub insert : widget.insert.offset ≤ length document.cells
  pub current : widget.current.offset ≤ length document.cells

pub record IsWellFormedDocument (limits : LimitTable) (document : Document) : Type 0 where
  pub text : IsDocument (characters document.cells)
  pub fits : length document.cells ≤ limits.chars
  pub keys : AllByRecursion (HasItsKeys document) document.cells
  pub widgets : AllByRecursion (IsPlaced document) document.widgets
  pub widget_names : IsDistinct is_same (window_names document)
  pub marks : AllByRecursion (λ (mark : SharedMark). mark.place.offset ≤ length document.cells) document.marks
  pub mark_names : IsDistinct is_same (map (λ (mark : SharedMark). mark.name) document.marks)
  pub mark_words : AllByRecursion (λ (mark : SharedMark). is_own mark.name ≡ false) document.marks
  pub mark_count : length document.marks ≤ limits.marks
  pub tag_names : IsDistinct is_same document.tags
  pub sel : is_among sel document.tags ≡ true
  pub tag_count : length document.tags ≤ limits.tags + 1
  pub history : FitsText limits.chars (characters document.cells) document.history
