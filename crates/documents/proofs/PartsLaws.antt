-- A document as it is kept: its characters, its widgets, and what of it a change leaves.
use Rattle.documents.proofs.Common.{◌≡◌, ℕ, zero, suc, ◌+◌, ◌*◌, ◌<◌, true, List, [], ◌∷◌, length, map, refl, sym, ap}
use Rattle.documents.proofs.Common.{subst, ◌∙◌, option_map, Some, AllByRecursion, length-map, none-some, same_Some}
use Rattle.documents.proofs.Common.{get_or_from_slice_get, slice_get-map, MOST_WIDGETS, Named, numbers_of, Tag}
use Rattle.documents.proofs.Common.{AreAnchored, Document, Parts, anchors_at, characters, document_of, no_widget, whole}
use Rattle.documents.proofs.Common.{widget_at, widget_of, HasOwnMarks, Anchors, IsSeated, IsSound, Stands, Key}
use Rattle.documents.proofs.Common.{key_pairs, slice_get, is_some, characters-keyed, length-keyed}
use Rattle.documents.proofs.PlacedLaws.{placed-length}
use Rattle.std.specs.FinMap as finite
use Rattle.text_model.specs.Content as model

pub stand : {parts : Parts} {document : Document} → IsSound parts → document_of parts ≡ document →
    Stands parts document
stand sound is = record { sound = sound; is = is }

-- ---- its characters and counts

abbrev pub pairs_of : Parts → List (ℕ × Key)
pairs_of parts = key_pairs parts.seats.entries parts.tags.tags

pub characters-kept : (parts : Parts) (document : Document) → document_of parts ≡ document →
    characters document.cells ≡ model.characters parts.content.cells
characters-kept parts document is =
    ap (λ (d : Document). characters d.cells) (sym is) ∙ characters-keyed (pairs_of parts) parts.content.cells

pub cells-kept : (parts : Parts) (document : Document) → document_of parts ≡ document →
    length document.cells ≡ length parts.content.cells
cells-kept parts document is =
    ap (λ (d : Document). length d.cells) (sym is) ∙ length-keyed (pairs_of parts) parts.content.cells

pub marks-kept : (parts : Parts) (document : Document) → document_of parts ≡ document →
    length document.marks ≡ length parts.marks.marks
marks-kept parts document is =
    ap (λ (d : Document). length d.marks) (sym is) ∙ placed-length parts.content.marks parts.marks.marks

pub tags-kept : (parts : Parts) (document : Document) → document_of parts ≡ document →
    length document.tags ≡ length parts.tags.tags
tags-kept parts document is =
    ap (λ (d : Document). length d.tags) (sym is) ∙ length-map parts.tags.tags (λ (tag : Tag). tag.name)

-- ---- one of its widgets

-- a widget sits at a place of the order of creation, and has a slot
pub record Sits (parts : Parts) (document : Document) (place slot : ℕ) : Type 0 where
  pub seat : Named
  pub stands : slice_get parts.seats.entries place ≡ Some seat
  pub number : seat.number ≡ slot
  pub widget : widget_at document place ≡ widget_of parts.journal parts.content.marks seat
  pub below : slot < MOST_WIDGETS
  pub anchors : slot < length parts.journal.anchors
  pub disabled : slot < length parts.journal.disabled
  pub anchored : AreAnchored (model.characters parts.content.cells) (anchors_at parts.journal slot)
  pub insert : is_some (finite.get parts.content.marks (2 * slot)) ≡ true
  pub current : is_some (finite.get parts.content.marks (2 * slot + 1)) ≡ true

-- what holds of each element holds of the one at a place
pub at-place : {A : Type 0} (P : A → Type 0) (xs : List A) (place : ℕ) (x : A) → AllByRecursion P xs →
    slice_get xs place ≡ Some x → P x
at-place P [] place x each is = absurd (none-some x is)
at-place P (y ∷ ys) zero x each is = subst P (same_Some y x is) each.0
at-place P (y ∷ ys) (suc place) x each is = at-place P ys place x each.1 is

pub mapped-at : {A B : Type 0} (f : A → B) (xs : List A) (place : ℕ) (x : A) → slice_get xs place ≡ Some x →
    slice_get (map f xs) place ≡ Some (f x)
mapped-at f xs place x is = slice_get-map f xs place ∙ ap (option_map f) is

seat-at : (entries : List Named) (place slot : ℕ) → slice_get (numbers_of entries) place ≡ Some slot →
    (seat : Named) × (slice_get entries place ≡ Some seat) × (seat.number ≡ slot)
seat-at [] place slot is = absurd (none-some slot is)
seat-at (seat ∷ seats) zero slot is = (seat, refl, same_Some seat.number slot is)
seat-at (seat ∷ seats) (suc place) slot is = seat-at seats place slot is

pub widget-is : (parts : Parts) (document : Document) (place : ℕ) (seat : Named) → document_of parts ≡ document →
    slice_get parts.seats.entries place ≡ Some seat
    → widget_at document place ≡ widget_of parts.journal parts.content.marks seat
widget-is parts document place seat is stands =
    ap (λ (d : Document). widget_at d place) (sym is)
    ∙ get_or_from_slice_get (document_of parts).widgets place (widget_of parts.journal parts.content.marks seat)
    no_widget (mapped-at (widget_of parts.journal parts.content.marks) parts.seats.entries place seat stands)

pub sits : {parts : Parts} {document : Document} {slot : ℕ} (place : ℕ) → Stands parts document →
    slice_get (numbers_of parts.seats.entries) place ≡ Some slot → Sits parts document place slot
sits {parts} {document} {slot} place stands is =
    let found = seat-at parts.seats.entries place slot is in
    let own = at-place (HasOwnMarks parts.content.marks) parts.seats.entries place found.0 stands.sound.kept.own found.1
    in
    let seated = at-place (IsSeated parts.journal.anchors parts.journal.disabled) parts.seats.entries place found.0
    stands.sound.views.seated found.1 in
    let same = found.2 in
    record {
      seat = found.0;
      stands = found.1;
      number = found.2;
      widget = widget-is parts document place found.0 stands.is found.1;
      below = stands.sound.kept.seats.below place slot is;
      anchors = subst (λ n. n < length parts.journal.anchors) same seated.anchored;
      disabled = subst (λ n. n < length parts.journal.disabled) same seated.flagged;
      anchored =
          stands.sound.views.anchored slot whole (subst (λ n. n < length parts.journal.anchors) same seated.anchored);
      insert = subst (λ n. is_some (finite.get parts.content.marks (2 * n)) ≡ true) same own.insert;
      current = subst (λ n. is_some (finite.get parts.content.marks (2 * n + 1)) ≡ true) same own.current;
    }

-- its anchors, as they are held
pub anchors-there : {parts : Parts} {document : Document} {slot : ℕ} {held : List Anchors} (place : ℕ) →
    Stands parts document → slice_get (numbers_of parts.seats.entries) place ≡ Some slot → held ≡ parts.journal.anchors
    → slot < length held
anchors-there {parts} {document} {slot} place stands number same =
    subst (λ anchors. slot < length anchors) (sym same) (sits place stands number).anchors
