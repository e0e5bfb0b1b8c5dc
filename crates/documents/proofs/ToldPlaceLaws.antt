-- The changes of the text that are told of a command take each mark to where the command leaves it.
use Rattle.documents.proofs.Common.{◌≡◌, ℕ, ◌+◌, ◌-◌, ◌≤◌, false, List, [], ◌∷◌, length, map, refl, sym, ap, ◌∙◌, arith}
use Rattle.documents.proofs.Common.{subst, option_map, unwrap_or, All, Fault, IsPlaced, LimitTable, Place, Pair, Span}
use Rattle.documents.proofs.Common.{TellsCells, TextChange, characters, deletion, insertion, Change, HasMarksBut}
use Rattle.documents.proofs.Common.{MarkChange, MarkKey, carried_all, drawn, moved, delete_places, delete_spans}
use Rattle.documents.proofs.Common.{deleted-runs, deleted_runs, edited, joined_text, insert_at, insertion_offset}
use Rattle.documents.proofs.Common.{is_idle, keyed_text, TakesMarksBut, mark_at, mark_carried, refused, replace_span}
use Rattle.documents.proofs.Common.{replaced, shown, spans_shown, tags_with, total, view_end, view_start, watched}
use Rattle.documents.proofs.Common.{with_texts, Document, Widget, AreApart}
use Rattle.documents.proofs.CarriedLaws.{within-either}
use Rattle.documents.proofs.CarriedByLaws.{deletions-carried, drawn_all, insertion-carries, replacement-carries}
use Rattle.documents.proofs.CarriedByLaws.{told-none}
use Rattle.documents.proofs.CarriedMarksLaws.{option-same}
use Rattle.documents.proofs.EditLeadLaws.{IsActive, active, offset-inside}
use Rattle.documents.proofs.LeadLaws.{counted}
use Rattle.documents.proofs.MarkReportLaws.{insert_key, one-other}
use Rattle.documents.proofs.PlacedByLaws.{deleted-marks, inserted-marks, option-alike, replaced-marks}
use Rattle.documents.proofs.WidgetLeadLaws.{spans-inside}
use Rattle.undo_stack.specs.declared.actions.EditKind.TheVariants as kind

-- a command without edits of the text
pub still-taken : (marks : List MarkChange) (document : Document) (change : Change) → change.edits ≡ []
    → HasMarksBut marks document change.document → TakesMarksBut marks document change
still-taken marks document change still stays told tells key others =
    let none : told.changes ≡ [] = told-none
    (subst (λ edits. TellsCells edits document.cells change.document.cells told) still tells) in
    stays key others
    ∙ sym (ap (λ changes. mark_carried changes document key) none ∙ option-same (mark_at document key))

pub refused-taken : (marks : List MarkChange) (document : Document) (fault : Fault)
    → TakesMarksBut marks document (refused document fault)
refused-taken marks document fault = still-taken marks document (refused document fault) refl (λ key _. refl)

-- a mark goes as changes take it that take every place so
taken-as : (goes : Place → Place) (changes : List TextChange) (document : Document) (key : MarkKey)
    → ((place : Place) → carried_all changes place ≡ goes place)
    → option_map goes (mark_at document key) ≡ mark_carried changes document key
taken-as goes changes document key same =
    option-alike goes (carried_all changes) (λ place. sym (same place)) (mark_at document key)

-- ---- edits at offsets of the text

pub insert-taken : (limits : LimitTable) (document : Document) (widget : Widget) (at : ℕ) (pairs : List Pair)
    → at ≤ length document.cells → TakesMarksBut [] document (insert_at limits document widget at pairs)
insert-taken limits document widget at pairs within =
    let text = joined_text pairs in
    let tagged : Document = record document { tags = tags_with document pairs } in
    let made : Document = with_texts kind.Insert at (map (keyed_text widget) pairs) tagged in
    within-either (TakesMarksBut [] document) limits document (length (tags_with document pairs))
    (length document.cells + total pairs) (edited made (insertion at text ∷ [])) (refused-taken [] document)
    (λ _ told tells key _. inserted-marks document widget at pairs key
    ∙ taken-as (moved at (length text)) told.changes document key (λ place.
    insertion-carries at text place within tells))

pub delete-taken : (document : Document) (widget : Widget) (spans : List Span)
    → AreApart (length document.cells) (deleted_runs document widget spans)
    → TakesMarksBut [] document (delete_spans document widget spans)
delete-taken document widget spans apart told tells key _ =
    let runs = deleted_runs document widget spans in
    deleted-marks document widget spans key
    ∙ taken-as (drawn_all runs) told.changes document key (λ place.
    deletions-carried (length document.cells) runs place apart (omega arith) tells)

pub replace-taken : (limits : LimitTable) (document : Document) (widget : Widget) (from to : ℕ) (pairs : List Pair)
    → from ≤ to → to ≤ length document.cells
    → TakesMarksBut (watched document (insert_key widget.name) ∷ []) document
    (replace_span limits document widget from to pairs)
replace-taken limits document widget from to pairs ordered within =
    let text = joined_text pairs in
    let insert = insert_key widget.name in
    let marks = watched document insert ∷ [] in
    within-either (TakesMarksBut marks document) limits document (length (tags_with document pairs))
    (length document.cells - (to - from) + total pairs)
    (edited (replaced document widget from to pairs)
    (deletion (characters document.cells) from to ∷ insertion from text ∷ [])) (refused-taken marks document)
    (λ _ told tells key others. replaced-marks document widget from to pairs key (one-other document insert key others)
    ∙ taken-as (λ (place : Place). moved from (length text) (drawn from to place)) told.changes document key
    (λ place. replacement-carries from to text place ordered within tells))

-- ---- edits of what a widget shows

pub placed-active : (document : Document) (widget : Widget) → IsPlaced document widget → is_idle document widget ≡ false
    → IsActive document widget
placed-active document widget placed busy =
    let long = counted document.cells in
    active document widget (record {
      start = placed.start;
      end = placed.end;
      ordered = subst (λ n. unwrap_or widget.start 0 ≤ unwrap_or widget.end n) (sym long) placed.ordered;
    }) busy

module _ (document : Document) (widget : Widget) (placed : IsPlaced document widget)
    (busy : is_idle document widget ≡ false) where
  pub inserted-taken : (limits : LimitTable) (place : ℕ) (pairs : List Pair)
      → TakesMarksBut [] document (insert_at limits document widget (insertion_offset document widget place) pairs)
  inserted-taken limits place pairs =
      let within = offset-inside document widget place (placed-active document widget placed busy) in
      insert-taken limits document widget (insertion_offset document widget place) pairs (omega (arith, within))

  pub deleted-taken : (places : List ℕ) → All (λ place. place ≤ length (shown document widget)) places
      → TakesMarksBut [] document (delete_places document widget places)
  deleted-taken places inside =
      let is_active = placed-active document widget placed busy in
      let some = is_active.some in
      let spans = spans_shown document widget places in
      delete-taken document widget spans
      (deleted-runs (characters document.cells) (view_start widget) (view_end document widget) (length document.cells)
      spans (omega (arith, some)) is_active.within (spans-inside document widget places is_active inside))

  pub replaced-taken : (limits : LimitTable) (from to : ℕ) (pairs : List Pair) → from ≤ to
      → TakesMarksBut (watched document (insert_key widget.name) ∷ []) document
      (replace_span limits document widget (insertion_offset document widget from)
      (insertion_offset document widget to) pairs)
  replaced-taken limits from to pairs ordered =
      let within = offset-inside document widget to (placed-active document widget placed busy) in
      replace-taken limits document widget (insertion_offset document widget from) (insertion_offset document widget to)
      pairs (omega (arith, ordered)) (omega (arith, within))
