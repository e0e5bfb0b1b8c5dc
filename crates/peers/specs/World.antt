-- All that a session of commands can see later.
use Rattle.std.specs.Prelude.{◌≡◌, ◌<◌, ℕ, suc, List, [], ◌∷◌, flat_map, get_or, length, option_map, Option, None, Some}
use Rattle.std.specs.Prelude.{if◌then◌else◌}
use Rattle.text_model.specs.LimitTable.{LimitTable}
use Rattle.command_effects.specs.Words.{is_among}
use Rattle.documents.specs.Documents.{Document, widget_at}
use Rattle.documents.specs.WellFormed.{window_names}
use Rattle.documents.specs.Widgets.{bare_document, widget_named}

-- the documents in the order of their creation
pub record World : Type 0 where
  pub limits : LimitTable
  pub documents : List Document

-- the names of all widgets
abbrev pub windows_of : List Document → List (List ℕ)
windows_of documents = flat_map window_names documents

abbrev pub all_windows : World → List (List ℕ)
all_windows world = windows_of world.documents

-- the document at a place of the order of creation
abbrev pub document_at : List Document → ℕ → Document
document_at documents place = get_or documents place bare_document

-- the place of the document that the widget of a name shows
abbrev pub home : List ℕ → List Document → Option ℕ
home name [] = None
home name (document ∷ documents) =
    if is_among name (window_names document) then Some 0 else option_map suc (home name documents)

-- the widget of a name is at a seat of the document at a place
pub record IsAt (name : List ℕ) (documents : List Document) (place seat : ℕ) : Type 0 where
  pub found : home name documents ≡ Some place
  pub within : place < length documents
  pub shown : seat < length (document_at documents place).widgets
  pub named : widget_named name (document_at documents place) ≡ Some (widget_at (document_at documents place) seat)
