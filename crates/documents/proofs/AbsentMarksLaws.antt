-- No edit of the text makes a mark.
use Rattle.documents.proofs.Common.{◌≡◌, ◌≢◌, ℕ, true, false, List, [], ◌∷◌, None, Some, map, find, length, refl, sym}
use Rattle.documents.proofs.Common.{ap, ◌∙◌, none-some, option_map, if◌then◌else◌, LimitTable, Place, is_same, drawn}
use Rattle.documents.proofs.Common.{moved, Document, Widget, with_insert, mark_at, MarkChange, MarkKey, All-nil}
use Rattle.documents.proofs.PlacedByLaws.{cells-out, cells-put}
use Rattle.documents.proofs.CarriedLaws.{IsTextEdited}
use Rattle.documents.proofs.EditedLaws.{IsSteady, steady-edited}
use Rattle.documents.proofs.MarkReportLaws.{by-kind, own_of}
use Rattle.documents.proofs.StillMarksLaws.{marks-alike}

-- a key that has no mark in a document has none in another one
abbrev pub KeepsAbsent : Document → Document → Type 0
KeepsAbsent old new = (key : MarkKey) → mark_at old key ≡ None → mark_at new key ≡ None

-- widgets that keep their names
own-absent : (get : Widget → Place) (change : Widget → Widget) (name : List ℕ) (widgets : List Widget) →
    ((widget : Widget) → (change widget).name ≡ widget.name) → own_of get name widgets ≡ None
    → own_of get name (map change widgets) ≡ None
own-absent get change name [] keeps none = refl
own-absent get change name (widget ∷ widgets) keeps none =
    ap (λ n. option_map get (if is_same n name then Some (change widget)
    else find (λ (w : Widget). is_same w.name name) (map change widgets))) (keeps widget)
    ∙ elim (is_same widget.name name) as (λ b. option_map get (if b then Some widget
    else find (λ (w : Widget). is_same w.name name) widgets) ≡ None → option_map get (if b then Some (change widget)
    else find (λ (w : Widget). is_same w.name name) (map change widgets)) ≡ None) [
      | true ↦ λ no. absurd (none-some (get widget) (sym no))
      | false ↦ λ no. own-absent get change name widgets keeps no
    ] none

absent-steady : (document : Document) → IsSteady (KeepsAbsent document)
absent-steady document = record {
  put = λ at cells old holds key none.
      cells-put at cells old key ∙ ap (option_map (moved at (length cells))) (holds key none);
  out = λ from to old holds key none.
      cells-out from to old key ∙ ap (option_map (drawn from to)) (holds key none);
  placed = λ widget place old holds key none.
      put-absent old widget place key (holds key none);
  alike = λ old new widgets marks holds key none.
      marks-alike old new widgets marks key (All-nil (λ (mark : MarkChange). mark.key ≢ key)) ∙ holds key none;
}
  where
    put-absent : (old : Document) (widget : Widget) (place : Place) → KeepsAbsent old (with_insert old widget place)
    put-absent old widget place =
        let change : Widget → Widget = λ (other : Widget). if is_same widget.name other.name
        then record other { insert = place } else other in
        let keeps : (other : Widget) → (change other).name ≡ other.name = λ other.
        elim (is_same widget.name other.name) as
        (λ b. (if b then record other { insert = place } else other).name ≡ other.name)
        [ true ↦ refl | false ↦ refl ] in
        by-kind (λ key. mark_at old key ≡ None → mark_at (with_insert old widget place) key ≡ None)
        (λ name none. own-absent (λ (w : Widget). w.insert) change name old.widgets keeps none)
        (λ name none. own-absent (λ (w : Widget). w.current) change name old.widgets keeps none)
        (λ name none. none)

pub absent-carried : (limits : LimitTable) (document : Document) (widget : Widget) →
    IsTextEdited limits document widget (λ new. (key : MarkKey) → mark_at document key ≡ None → mark_at new key ≡ None)
absent-carried limits document widget =
    steady-edited (KeepsAbsent document) (absent-steady document) limits document widget (λ key none. none)
