-- What holds of a document by its widgets and marks alone, and stays where cells come or go, holds after each edit of
-- the text.
use Rattle.documents.proofs.Common.{Bool, with_group, edit_group, ◌≡◌, ℕ, ◌+◌, ◌-◌, ◌==◌, true, false, List, [], ◌∷◌}
use Rattle.documents.proofs.Common.{Option, Some, None, map, length, refl, replays, LimitTable, Place, Action, EditKind}
use Rattle.documents.proofs.Common.{Span, in_spans, clipped, redo_end, Pair, total, delete_spans, deleted_runs}
use Rattle.documents.proofs.Common.{last_bare, replace_span, with_clipped, Document, Widget, KeyedCell, characters}
use Rattle.documents.proofs.Common.{KeyedText, keys_between, keys_or, with_action, with_bare, with_cells, with_text}
use Rattle.documents.proofs.Common.{with_texts, without_cells, without_span, without_spans, with_insert, spans_shown}
use Rattle.documents.proofs.Common.{action_again, group_again, text_back, with_end, insert_at, insertion_offset}
use Rattle.documents.proofs.Common.{keyed_text, tags_with, view_end, slice_range, if◌then◌else◌}
use Rattle.documents.proofs.BackLaws.{group-carried}
use Rattle.documents.proofs.CarriedLaws.{IsTextEdited, carried-limited}
use Rattle.undo_stack.specs.declared.actions.EditKind.TheVariants as kind

-- It stays where cells come or go, where a widget's `insert` is put at a place, and where widgets and marks stay.
pub record IsSteady (P : Document → Type 0) : Type 0 where
  pub put : (at : ℕ) (cells : List KeyedCell) (document : Document) → P document → P (with_cells at cells document)
  pub out : (from to : ℕ) (document : Document) → P document → P (without_cells from to document)
  pub placed : (widget : Widget) (place : Place) (document : Document) → P document →
      P (with_insert document widget place)
  pub alike : (old new : Document) → new.widgets ≡ old.widgets → new.marks ≡ old.marks → P old → P new

module _ (P : Document → Type 0) (steady : IsSteady P) where
  -- ---- cells

  text-put : (kind : EditKind) (at : ℕ) (text : KeyedText) (document : Document) → P document
      → P (with_text kind at text document)
  text-put kind at text document holds =
      let cell : ℕ → KeyedCell = λ character. record {
        character = character;
        keys = keys_or text.keys (keys_between document.cells at);
      } in
      let cells = map cell text.text in
      let action : Action = record { inserts = true; at = at; text = text.text } in
      let made : Document = with_cells at cells document in
      elim (length text.text == 0) as (λ b. P (if b then document else with_action kind action made)) [
        | true ↦ holds
        | false ↦ steady.alike made (with_action kind action made) refl refl (steady.put at cells document holds)
      ]

  texts-put : (kind : EditKind) (at : ℕ) (texts : List KeyedText) (document : Document) → P document
      → P (with_texts kind at texts document)
  texts-put kind at [] document holds = holds
  texts-put kind at (text ∷ texts) document holds =
      texts-put kind (at + length text.text) texts (with_text kind at text document)
      (text-put kind at text document holds)

  span-out : (kind : EditKind) (from to : ℕ) (document : Document) → P document
      → P (without_span kind from to document)
  span-out kind from to document holds =
      let action : Action = record {
        inserts = false;
        at = from;
        text = slice_range (characters document.cells) from to;
      } in
      let made : Document = without_cells from to document in
      elim (from == to) as (λ b. P (if b then document else with_action kind action made)) [
        | true ↦ holds
        | false ↦ steady.alike made (with_action kind action made) refl refl (steady.out from to document holds)
      ]

  spans-out : (kind : EditKind) (spans : List Span) (document : Document) → P document
      → P (without_spans kind spans document)
  spans-out kind [] document holds = holds
  spans-out kind (span ∷ spans) document holds =
      spans-out kind spans (without_span kind span.from span.to document)
      (span-out kind span.from span.to document holds)

  clipped-kept : (widget : Widget) (place : Option Place) (document : Document) → P document
      → P (with_clipped widget place document)
  clipped-kept widget None document holds = holds
  clipped-kept widget (Some place) document holds = steady.placed widget place document holds

  -- ---- edits

  pub steady-inserted : (limits : LimitTable) (document : Document) (widget : Widget) (at : ℕ) (pairs : List Pair)
      → P document → P (insert_at limits document widget at pairs).document
  steady-inserted limits document widget at pairs holds =
      let tagged : Document = record document { tags = tags_with document pairs } in
      carried-limited P limits document (length (tags_with document pairs)) (length document.cells + total pairs) _ holds
      (λ _. texts-put kind.Insert at (map (keyed_text widget) pairs) tagged
      (steady.alike document tagged refl refl holds))

  pub steady-replaced : (limits : LimitTable) (document : Document) (widget : Widget) (from to : ℕ) (pairs : List Pair)
      → P document → P (replace_span limits document widget from to pairs).document
  steady-replaced limits document widget from to pairs holds =
      let tagged : Document = record document { tags = tags_with document pairs } in
      carried-limited P limits document (length (tags_with document pairs))
      (length document.cells - (to - from) + total pairs) _ holds
      (λ _. clipped-kept widget (clipped from to (total pairs) widget.insert) _
      (texts-put kind.Replace from (map (keyed_text widget) pairs) _
      (span-out kind.Replace from to tagged (steady.alike document tagged refl refl holds))))

  pub steady-deleted : (document : Document) (widget : Widget) (spans : List Span) → P document
      → P (delete_spans document widget spans).document
  steady-deleted document widget spans holds =
      spans-out kind.Delete (deleted_runs document widget spans) (last_bare widget spans document)
      (elim (in_spans spans (view_end document widget - 1)) as
      (λ b. P (if b then with_bare (view_end document widget - 1) document else document)) [
        | true ↦ steady.alike document (with_bare (view_end document widget - 1) document) refl refl holds
        | false ↦ holds
      ])

  -- ---- undo and redo

  text-back : (at : ℕ) (text : List ℕ) (document : Document) → P document → P (text_back at text document)
  text-back at text document holds = steady.put at _ document holds

  again-kept : (action : Action) (document : Document) → P document → P (action_again action document)
  again-kept action document holds =
      elim action.inserts as
      (λ b. P (if b then text_back action.at action.text document
      else without_cells action.at (action.at + length action.text) document)) [
        | true ↦ text-back action.at action.text document holds
        | false ↦ steady.out action.at (action.at + length action.text) document holds
      ]

  group-again-kept : (group : List Action) (document : Document) → P document → P (group_again group document)
  group-again-kept [] document holds = holds
  group-again-kept (action ∷ actions) document holds =
      group-again-kept actions (action_again action document) (again-kept action document holds)

  end-kept : (widget : Widget) (end : Option ℕ) (document : Document) → P document → P (with_end widget end document)
  end-kept widget None document holds = holds
  end-kept widget (Some at) document holds =
      clipped-kept widget (Some (record widget.insert { offset = at })) document holds

  pub steady-group : (back : Bool) (document : Document) (widget : Widget) → P document
      → P (edit_group back document widget).document
  steady-group back document widget holds = group-carried P back document widget holds (λ group _.
      let actions = replays back group in
      let made : Document = with_end widget (redo_end actions) (group_again actions document) in
      steady.alike made (with_group back widget group document) refl refl
      (end-kept widget (redo_end actions) (group_again actions document) (group-again-kept actions document holds)))

  pub steady-edited : (limits : LimitTable) (document : Document) (widget : Widget) → P document
      → IsTextEdited limits document widget P
  steady-edited limits document widget holds = record {
    inserted = λ place pairs _.
        steady-inserted limits document widget (insertion_offset document widget place) pairs holds;
    replaced = λ from to pairs _ _. steady-replaced limits document widget (insertion_offset document widget from)
        (insertion_offset document widget to) pairs holds;
    deleted = λ places _ _. steady-deleted document widget (spans_shown document widget places) holds;
    grouped = λ back. steady-group back document widget holds;
  }
