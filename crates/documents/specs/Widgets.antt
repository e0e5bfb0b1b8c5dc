-- Widgets of a document, as it gets and loses them.
use Rattle.std.specs.Prelude.{◌≡◌, ℕ, Bool, true, false, not, nat_lt, length, if◌then◌else◌, List, [], ◌∷◌, ◌++◌}
use Rattle.std.specs.Prelude.{filter, find, map, option_map, pos, unwrap_or, Option, None, Some}
use Rattle.std.specs.FinSet as set
use Rattle.text_model.specs.declared.places.Gravity.TheVariants.{Right}
use Rattle.text_model.specs.declared.places.Place.{Place}
use Rattle.undo_stack.specs.History.{no_history}
use Rattle.undo_stack.specs.Modified.{unmodified}
use Rattle.command_effects.specs.declared.settings.Settings.{Settings}
use Rattle.command_effects.specs.Words.{is_among, is_same}
use Rattle.reports.specs.Cells.{KeyedCell}
use Rattle.reports.specs.Keys.{selection_stays}
use Rattle.documents.specs.Documents.{Document, Widget, sel}
use Rattle.documents.specs.Options.{anchor_at, with_shared_settings}

abbrev pub widget_named : List ℕ → Document → Option Widget
widget_named name document = find (λ (widget : Widget). is_same widget.name name) document.widgets

-- ---- widgets that show a whole document, and can change it

-- an enabled widget without anchors
pub record IsOpen (widget : Widget) : Type 0 where
  pub enabled : widget.disabled ≡ false
  pub start : widget.start ≡ None
  pub end : widget.end ≡ None

-- a document has such a widget of a name
pub record ShowsOpenly (document : Document) (name : List ℕ) : Type 0 where
  pub widget : Widget
  pub found : widget_named name document ≡ Some widget
  pub is_open : IsOpen widget

-- ---- widgets that come

-- a widget of a name with options, whose own marks stand where its view starts
abbrev pub new_widget : Document → List ℕ → Settings → Widget
new_widget document name settings =
    let start = option_map (anchor_at document) settings.start in
    let mark : Place = record { offset = unwrap_or start 0; gravity = Right } in
    record {
      name = name;
      start = start;
      end = option_map (anchor_at document) settings.end;
      disabled = settings.disabled;
      insert = mark;
      current = mark;
    }

-- the document with one widget more, and options
abbrev pub with_peer : List ℕ → Settings → Document → Document
with_peer name settings document =
    with_shared_settings settings.document (record document
    { widgets = document.widgets ++ new_widget document name settings ∷ [] })

-- a document of one newline without keys, that knows `sel` alone and has no widget yet
abbrev pub bare_document : Document
bare_document = record {
  cells = record { character = 10; keys = set.empty } ∷ [];
  widgets = [];
  marks = [];
  tags = sel ∷ [];
  history = no_history;
  modified = unmodified;
  undo = false;
  most_undo = pos 0;
  separators = true;
}

-- a new document, which one widget shows
abbrev pub new_document : List ℕ → Settings → Document
new_document name settings = with_peer name settings bare_document

-- ---- widgets that go

abbrev pub is_kept : List (List ℕ) → Widget → Bool
is_kept names widget = not (is_among widget.name names)

-- selections go with their widgets
abbrev pub without_selections : List (List ℕ) → KeyedCell → KeyedCell
without_selections names cell = record cell { keys = set.retain cell.keys (selection_stays names) }

-- the document without the widgets of some names, their own marks and their selections
abbrev pub without_widgets : List (List ℕ) → Document → Document
without_widgets names document = record document {
  widgets = filter (is_kept names) document.widgets;
  cells = map (without_selections names) document.cells;
}

-- whether some widget of the document isn't of these names
abbrev pub keeps_some : List (List ℕ) → Document → Bool
keeps_some names document = nat_lt 0 (length (without_widgets names document).widgets)

-- the same of a document that keeps one at least; one that keeps none stays as it is
abbrev pub thinned : List (List ℕ) → Document → Document
thinned names document = if keeps_some names document then without_widgets names document else document
