-- Edits leave a document its widgets, by their names.
use Rattle.documents.proofs.Common.{◌≡◌, ℕ, true, false, List, [], ◌∷◌, map, length, refl, ◌∙◌, LimitTable, Settings}
use Rattle.documents.proofs.Common.{is_same, Document, Widget, KeyedCell, characters, widget_drawn, widget_moved}
use Rattle.documents.proofs.Common.{with_cells, without_cells, with_widget, widget_set, with_settings, edit_redo}
use Rattle.documents.proofs.Common.{edit_undo, window_names, if◌then◌else◌, ap}
use Rattle.documents.proofs.CarriedLaws.{IsTextEdited}
use Rattle.documents.proofs.EditedLaws.{steady-edited, steady-group, IsSteady}

-- a document with the widgets of another one, by their names
abbrev pub HasNamesOf : Document → Document → Type 0
HasNamesOf old new = window_names new ≡ window_names old

along : (goes : Widget → Widget) → ((widget : Widget) → (goes widget).name ≡ widget.name) → (widgets : List Widget)
    → map (λ (widget : Widget). widget.name) (map goes widgets) ≡ map (λ (widget : Widget). widget.name) widgets
along goes keeps [] = refl
along goes keeps (widget ∷ widgets) = λ i. keeps widget i ∷ along goes keeps widgets i

-- ---- cells

cells-put : (at : ℕ) (cells : List KeyedCell) (document : Document) → HasNamesOf document (with_cells at cells document)
cells-put at cells document = along (widget_moved at (length cells)) (λ widget. refl) document.widgets

cells-out : (from to : ℕ) (document : Document) → HasNamesOf document (without_cells from to document)
cells-out from to document = along (widget_drawn (characters document.cells) from to) (λ widget. refl) document.widgets

-- ---- widgets

pub widget-changed : (document : Document) (widget : Widget) (change : Widget → Widget) →
    ((other : Widget) → (change other).name ≡ other.name)
    → HasNamesOf document (with_widget document widget change)
widget-changed document widget change keeps =
    along (λ other. if is_same widget.name other.name then change other else other)
    (λ other. elim (is_same widget.name other.name) as
    (λ b. (if b then change other else other).name ≡ other.name) [ true ↦ keeps other | false ↦ refl ]) document.widgets

pub settings-kept : (widget : Widget) (settings : Settings) (document : Document) →
    HasNamesOf document (with_settings widget settings document)
settings-kept widget settings document = widget-changed document widget (widget_set document settings) (λ other. refl)

-- ---- edits

names-steady : (document : Document) → IsSteady (HasNamesOf document)
names-steady document = record {
  put = λ at cells old same. cells-put at cells old ∙ same;
  out = λ from to old same. cells-out from to old ∙ same;
  placed = λ widget place old same.
      widget-changed old widget (λ (other : Widget). record other { insert = place }) (λ other. refl) ∙ same;
  alike = λ old new widgets marks same. ap (map (λ (widget : Widget). widget.name)) widgets ∙ same;
}

pub names-edited : (limits : LimitTable) (document : Document) (widget : Widget)
    → IsTextEdited limits document widget (HasNamesOf document)
names-edited limits document widget =
    steady-edited (HasNamesOf document) (names-steady document) limits document widget refl

pub undo-kept : (document : Document) (widget : Widget) → HasNamesOf document (edit_undo document widget).document
undo-kept document widget = steady-group (HasNamesOf document) (names-steady document) true document widget refl

pub redo-kept : (document : Document) (widget : Widget) → HasNamesOf document (edit_redo document widget).document
redo-kept document widget = steady-group (HasNamesOf document) (names-steady document) false document widget refl
