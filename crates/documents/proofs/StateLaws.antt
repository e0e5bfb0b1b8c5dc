-- A document after what edits do to its text: a text is put in, cells are taken out, and an action is noted.
use Rattle.documents.proofs.Common.{◌≡◌, ℕ, ◌+◌, ◌-◌, ◌*◌, ◌<◌, ◌≤◌, true, false, List, [], ◌∷◌, Option, None, Some}
use Rattle.documents.proofs.Common.{map, length, take, drop, get_or, refl, sym, ap, ap₂, subst, ◌∙◌, arith, slice_range}
use Rattle.documents.proofs.Common.{if◌then◌else◌, IsScalar, All, AllByRecursion, get_or-map, length-map, All-append}
use Rattle.documents.proofs.Common.{All-drop, All-head, All-tail, All-take, Named, Remove, MOST_CHARS, Place, Content}
use Rattle.documents.proofs.Common.{Marks, Slots, map_marks, IsDocument, drawn, inserted, moved, after_insertion}
use Rattle.documents.proofs.Common.{after_removal, cells_of, characters-inserted, characters-removed}
use Rattle.documents.proofs.Common.{IsDocument-inserted, IsDocument-removed, length-cells_inserted, length-removed}
use Rattle.documents.proofs.Common.{shared_slots, limit_of, noted, counted_new, Action, EditKind, AnchorsStand}
use Rattle.documents.proofs.Common.{AreAnchored, anchors_moved, anchors_removed, inserted_text, inserted_texts}
use Rattle.documents.proofs.Common.{slots_or, removed_span, Log, State, log_noted, state_of, Anchors, SlottedText}
use Rattle.documents.proofs.Common.{all-moved, all-removed, anchored-stand, text-end-begins, recording_of, Document}
use Rattle.documents.proofs.Common.{Journal, KeyedCell, Parts, SharedMark, Widget, characters, document_of, placed}
use Rattle.documents.proofs.Common.{whole, widget_of, keys_between, keys_or, with_action, with_cells, with_text}
use Rattle.documents.proofs.Common.{with_texts, without_cells, without_span, AreKnown, HasKnownSlots, HasOwnMarks}
use Rattle.documents.proofs.Common.{IsSeated, Stands, Keys, keyed, keys_of, eqb-true, Bool, option_map, ◌==◌}
use Rattle.documents.proofs.Common.{keyed-inserted, keyed-removed, keyed-shared, IsKnownPiece, known-inserted}
use Rattle.documents.proofs.Common.{known-put, characters-keyed, EditedText, log_of}
use Rattle.text_model.specs.declared.edits.Step.TheVariants.{Insert}
use Rattle.text_model.proofs.StepLaws.{MarksStand-after_step}
use Rattle.edit_ops.specs.Insertions.{total}
use Rattle.edit_ops.specs.declared.plans.Recording.{Recording}
use Rattle.edit_ops.proofs.InsertLaws.{total-cons}
use Rattle.text_model.proofs.RunLaws.{long as count-characters}
use Rattle.documents.proofs.NamedLaws.{keyed_piece}
use Rattle.documents.proofs.PartsLaws.{pairs_of}
use Rattle.documents.proofs.PlacedLaws.{are-moved, gravity-moved, mark-there, mark_of-moved, placed-moved}
use Rattle.text_model.specs.Content as model

-- the parts with another state of what edits change
abbrev pub with_state : Parts → State → Parts
with_state parts state = record parts {
  journal = record parts.journal { anchors = state.anchors; log = state.log };
  content = state.content;
}

abbrev pub state_in : Parts → State
state_in parts = state_of parts.content parts.journal.anchors parts.journal.log

abbrev pub with_log : Log → Parts → Parts
with_log log parts = with_state parts (state_of parts.content parts.journal.anchors log)

-- cells of a text
abbrev pub cells_with : List ℕ → Keys → List KeyedCell
cells_with text keys = map (λ character. record { character = character; keys = keys }) text

-- ---- the widgets, whose anchors and own marks go along

abbrev gone_along : (Anchors → Anchors) → (Place → Place) → Widget → Widget
gone_along f g widget =
    let anchors = f (record { start = widget.start; end = widget.end }) in
    record widget { start = anchors.start; end = anchors.end; insert = g widget.insert; current = g widget.current }

widget-along : (f : Anchors → Anchors) (g : Place → Place) (journal : Journal) (places : Marks) (seat : Named) →
    HasOwnMarks places seat → IsSeated journal.anchors journal.disabled seat
    → widget_of (record journal { anchors = map f journal.anchors }) (map_marks g places) seat
    ≡ gone_along f g (widget_of journal places seat)
widget-along f g journal places seat own seated =
    let anchors = get_or-map f journal.anchors seat.number whole whole seated.anchored in
    let insert = mark_of-moved g places (2 * seat.number) own.insert in
    let current = mark_of-moved g places (2 * seat.number + 1) own.current in
    λ i. record (widget_of journal places seat) {
      start = (anchors i).start;
      end = (anchors i).end;
      insert = insert i;
      current = current i;
    }

widgets-along : (f : Anchors → Anchors) (g : Place → Place) (journal : Journal) (places : Marks) (seats : List Named) →
    AllByRecursion (HasOwnMarks places) seats
    → AllByRecursion (IsSeated journal.anchors journal.disabled) seats
    → map (widget_of (record journal { anchors = map f journal.anchors }) (map_marks g places)) seats
    ≡ map (gone_along f g) (map (widget_of journal places) seats)
widgets-along f g journal places [] own seated = refl
widgets-along f g journal places (seat ∷ seats) own seated =
    ap₂ (λ (widget : Widget) widgets. widget ∷ widgets) (widget-along f g journal places seat own.0 seated.0)
    (widgets-along f g journal places seats own.1 seated.1)

own-along : (g : Place → Place) (places : Marks) (seats : List Named) → AllByRecursion (HasOwnMarks places) seats →
    AllByRecursion (HasOwnMarks (map_marks g places)) seats
own-along g places [] own = tt
own-along g places (seat ∷ seats) own = (
  record {
    insert = mark-there g places (2 * seat.number) own.0.insert;
    current = mark-there g places (2 * seat.number + 1) own.0.current;
  },
  own-along g places seats own.1,
)

seated-along : (f : Anchors → Anchors) (anchors : List Anchors) (disabled : List Bool) (seats : List Named) →
    AllByRecursion (IsSeated anchors disabled) seats → AllByRecursion (IsSeated (map f anchors) disabled) seats
seated-along f anchors disabled [] seated = tt
seated-along f anchors disabled (seat ∷ seats) seated = (
  record {
    anchored = (let h = seated.0.anchored in omega (arith, h, length-map anchors f));
    flagged = seated.0.flagged;
  },
  seated-along f anchors disabled seats seated.1,
)

-- ---- a text that is put in

abbrev pub with_put : ℕ → List ℕ → Slots → Parts → Parts
with_put at text slots parts =
    with_state parts (state_of (after_insertion at text slots parts.content)
    (map (anchors_moved at (length text)) parts.journal.anchors) parts.journal.log)

document-put : (parts : Parts) (document : Document) (at : ℕ) (text : List ℕ) (slots : Slots) (keys : Keys) →
    Stands parts document → keys_of (pairs_of parts) slots ≡ keys
    → document_of (with_put at text slots parts) ≡ with_cells at (cells_with text keys) (document_of parts)
document-put parts document at text slots keys stands same =
    let content = parts.content in
    let sound = stands.sound in
    let made : Document = document_of parts in
    let pairs = pairs_of parts in
    let new = cells_with text keys in
    let count : length text ≡ length new = sym
    (length-map text (λ character. record { character = character; keys = keys })) in
    let cells : keyed pairs (inserted at (cells_of text slots) content.cells)
    ≡ inserted at new (keyed pairs content.cells) =
    keyed-inserted pairs at text slots content.cells
    ∙ ap (λ k. inserted at (cells_with text k) (keyed pairs content.cells)) same in
    let along = λ (n : ℕ). map (gone_along (anchors_moved at n) (moved at n)) made.widgets in
    let widgets : map (widget_of (with_put at text slots parts).journal
    (map_marks (moved at (length text)) content.marks)) parts.seats.entries ≡ along (length new) =
    widgets-along (anchors_moved at (length text)) (moved at (length text)) parts.journal content.marks
    parts.seats.entries sound.kept.own sound.views.seated ∙ ap along count in
    let shared : placed (map_marks (moved at (length text)) content.marks) parts.marks.marks
    ≡ map (λ (mark : SharedMark). record mark { place = moved at (length new) mark.place }) made.marks =
    placed-moved (moved at (length text)) content.marks parts.marks.marks sound.marked.each
    ∙ ap (λ n. map (λ (mark : SharedMark). record mark { place = moved at n mark.place }) made.marks) count in
    λ i. record made { cells = cells i; widgets = widgets i; marks = shared i }

pub stands-put : (parts : Parts) (document : Document) (at : ℕ) (text : List ℕ) (slots : Slots) (keys : Keys) →
    Stands parts document → at < length parts.content.cells
    → length parts.content.cells + length text ≤ MOST_CHARS → All IsScalar text →
    AreKnown parts.seats.entries parts.tags.tags slots → keys_of (pairs_of parts) slots ≡ keys
    → Stands (with_put at text slots parts) (with_cells at (cells_with text keys) document)
stands-put parts document at text slots keys stands within short scalars known same =
    let content = parts.content in
    let kept = stands.sound.kept in
    let sound = stands.sound in
    let all = model.characters content.cells in
    let inside : at < length all = omega (arith, within, count-characters content.cells) in
    let text_is = characters-inserted at text slots content.cells in
    record {
      sound = record {
        kept = record {
          seats = kept.seats;
          slots = kept.slots;
          named = kept.named;
          text = subst IsDocument (sym text_is) (IsDocument-inserted at text all inside scalars kept.text);
          short = omega (arith, short, length-cells_inserted at text slots content.cells (omega (arith, within)));
          marks = MarksStand-after_step (Insert at text slots) content within kept.marks;
          own = own-along (moved at (length text)) content.marks parts.seats.entries kept.own;
          known = known-inserted parts.seats.entries parts.tags.tags at text slots content.cells known kept.known;
          tags = kept.tags;
          roomy = kept.roomy;
        };
        marked =
            are-moved (moved at (length text)) parts.marks content.marks (gravity-moved at (length text)) sound.marked;
        orderly = record { most = sound.orderly.most; groups = sound.orderly.groups; undone = sound.orderly.undone };
        views = record {
          anchored = subst (λ t. All (AreAnchored t) (map (anchors_moved at (length text)) parts.journal.anchors))
              (sym text_is) (all-moved at text all parts.journal.anchors inside sound.views.anchored);
          seated = seated-along (anchors_moved at (length text)) parts.journal.anchors parts.journal.disabled
              parts.seats.entries sound.views.seated;
        };
      };
      is = document-put parts document at text slots keys stands same
          ∙ ap (with_cells at (cells_with text keys)) stands.is;
    }

-- ---- cells that are taken out

abbrev pub with_out : ℕ → ℕ → Parts → Parts
with_out from to parts =
    with_state parts (state_of (after_removal from to parts.content)
    (map (anchors_removed (model.characters parts.content.cells) from to) parts.journal.anchors) parts.journal.log)

document-out : (parts : Parts) (document : Document) (from to : ℕ) → Stands parts document →
    document_of (with_out from to parts) ≡ without_cells from to (document_of parts)
document-out parts document from to stands =
    let content = parts.content in
    let sound = stands.sound in
    let made : Document = document_of parts in
    let pairs = pairs_of parts in
    let text = sym (characters-keyed pairs content.cells) in
    let cells = keyed-removed pairs from to content.cells in
    let along = λ (all : List ℕ). map (gone_along (anchors_removed all from to) (drawn from to)) made.widgets in
    let widgets : map (widget_of (with_out from to parts).journal (map_marks (drawn from to) content.marks))
    parts.seats.entries ≡ along (characters made.cells) =
    widgets-along (anchors_removed (model.characters content.cells) from to) (drawn from to) parts.journal content.marks
    parts.seats.entries sound.kept.own sound.views.seated ∙ ap along text in
    let shared : placed (map_marks (drawn from to) content.marks) parts.marks.marks
    ≡ map (λ (mark : SharedMark). record mark { place = drawn from to mark.place }) made.marks =
    placed-moved (drawn from to) content.marks parts.marks.marks sound.marked.each in
    λ i. record made { cells = cells i; widgets = widgets i; marks = shared i }

pub stands-out : (parts : Parts) (document : Document) (from to : ℕ) → Stands parts document → from ≤ to →
    to < length parts.content.cells
    → Stands (with_out from to parts) (without_cells from to document)
stands-out parts document from to stands ordered within =
    let content = parts.content in
    let kept = stands.sound.kept in
    let sound = stands.sound in
    let P = HasKnownSlots parts.seats.entries parts.tags.tags in
    let all = model.characters content.cells in
    let long = length-removed from to content.cells ordered (omega (arith, within)) in
    let inside : to < length all = omega (arith, within, count-characters content.cells) in
    let text_is = characters-removed from to content.cells in
    record {
      sound = record {
        kept = record {
          seats = kept.seats;
          slots = kept.slots;
          named = kept.named;
          text = subst IsDocument (sym text_is) (IsDocument-removed from to all inside kept.text);
          short = (let h = kept.short in omega (arith, long, h));
          marks = MarksStand-after_step (Remove from to) content (ordered, within) kept.marks;
          own = own-along (drawn from to) content.marks parts.seats.entries kept.own;
          known = All-append P (take from content.cells) (drop to content.cells)
              (All-take P from content.cells kept.known) (All-drop P to content.cells kept.known);
          tags = kept.tags;
          roomy = kept.roomy;
        };
        marked = are-moved (drawn from to) parts.marks content.marks (λ _. refl) sound.marked;
        orderly = record { most = sound.orderly.most; groups = sound.orderly.groups; undone = sound.orderly.undone };
        views = record {
          anchored =
              subst (λ t. All (AreAnchored t) (map (anchors_removed all from to) parts.journal.anchors)) (sym text_is)
              (all-removed all from to parts.journal.anchors ordered inside (text-end-begins all kept.text.newline)
              sound.views.anchored);
          seated = seated-along (anchors_removed all from to) parts.journal.anchors parts.journal.disabled
              parts.seats.entries sound.views.seated;
        };
      };
      is = document-out parts document from to stands ∙ ap (without_cells from to) stands.is;
    }

-- ---- an action that is noted

pub stands-noted : (parts : Parts) (document : Document) (kind : EditKind) (action : Action) → Stands parts document
    → Stands (with_log (log_noted (recording_of parts.journal.settings) kind action parts.journal.log) parts)
    (with_action kind action document)
stands-noted parts document kind action stands =
    let sound = stands.sound in
    let settings = parts.journal.settings in
    let log : Log = parts.journal.log in
    let made : Document = document_of parts in
    let most : log.most ≡ limit_of settings.most_undo = sound.orderly.most in
    record {
      sound = record {
        kept = sound.kept;
        marked = sound.marked;
        orderly = record {
          most = most;
          groups = λ off. ap (λ b. (if b then noted kind action settings.separators log.most log.history
              else log.history).groups) off ∙ sound.orderly.groups off;
          undone = λ off. ap (λ b. (if b then noted kind action settings.separators log.most log.history
              else log.history).undone) off ∙ sound.orderly.undone off;
        };
        views = record { anchored = sound.views.anchored; seated = sound.views.seated };
      };
      is = (λ i. record made {
        history = if settings.undo then noted kind action settings.separators (most i) log.history else log.history;
        modified = counted_new log.modified;
      }) ∙ ap (with_action kind action) stands.is;
    }

-- ---- texts

pub keys-put : (parts : Parts) (document : Document) (at : ℕ) (slots : Option Slots) → Stands parts document →
    at < length parts.content.cells
    → keys_of (pairs_of parts) (slots_or slots (shared_slots at parts.content.cells))
    ≡ keys_or (option_map (keys_of (pairs_of parts)) slots) (keys_between document.cells at)
keys-put parts document at None stands within =
    keyed-shared parts.seats.entries parts.tags stands.sound.kept.seats stands.sound.kept.tags at parts.content.cells
    within ∙ ap (λ (d : Document). keys_between d.cells at) stands.is
keys-put parts document at (Some slots) stands within = refl

-- one text
pub stands-text : (parts : Parts) (document : Document) (kind : EditKind) (at : ℕ) (piece : SlottedText) →
    Stands parts document → at < length parts.content.cells
    → length parts.content.cells + length piece.text ≤ MOST_CHARS →
    IsKnownPiece parts.seats.entries parts.tags.tags piece
    → Stands (with_state parts (inserted_text (recording_of parts.journal.settings) kind at piece (state_in parts)))
    (with_text kind at (keyed_piece (pairs_of parts) piece) document)
stands-text parts document kind at piece stands within short known =
    let recording = recording_of parts.journal.settings in
    let action : Action = record { inserts = true; at = at; text = piece.text } in
    let slots = slots_or piece.slots (shared_slots at parts.content.cells) in
    let keys = keys_or (option_map (keys_of (pairs_of parts)) piece.slots) (keys_between document.cells at) in
    let put = stands-put parts document at piece.text slots keys stands within short known.text
    (known-put parts.seats.entries parts.tags.tags at piece.slots parts.content.cells known.slots
    stands.sound.kept.known within) (keys-put parts document at piece.slots stands within) in
    let made : State = state_of (after_insertion at piece.text slots parts.content)
    (map (anchors_moved at (length piece.text)) parts.journal.anchors)
    (log_noted recording kind action parts.journal.log) in
    elim (length piece.text == 0) as (λ b. Stands (with_state parts (if b then state_in parts else made)) (if b
    then document else with_action kind action (with_cells at (cells_with piece.text keys) document))) [
      | true ↦ stands
      | false ↦ stands-noted (with_put at piece.text slots parts) (with_cells at (cells_with piece.text keys) document)
          kind action put
    ]

-- how long a text is with one more in it
pub length-text : (recording : Recording) (kind : EditKind) (at : ℕ) (piece : SlottedText) (state : State) →
    at < length state.content.cells
    → length (inserted_text recording kind at piece state).content.cells
    ≡ length state.content.cells + length piece.text
length-text recording kind at piece state within =
    let slots = slots_or piece.slots (shared_slots at state.content.cells) in
    let made : State = record {
      content = after_insertion at piece.text slots state.content;
      anchors = map (anchors_moved at (length piece.text)) state.anchors;
      log = log_noted recording kind (record { inserts = true; at = at; text = piece.text }) state.log;
    } in
    elim (length piece.text == 0) as (λ b. (length piece.text == 0) ≡ b →
    length (if b then state else made).content.cells ≡ length state.content.cells + length piece.text) [
      | true ↦ λ none. let gone = eqb-true (length piece.text) 0 none in omega (arith, gone)
      | false ↦ λ _. length-cells_inserted at piece.text slots state.content.cells (omega (arith, within))
    ] refl

-- texts, each behind the one before it
pub stands-texts : (parts : Parts) (document : Document) (kind : EditKind) (at : ℕ) (pieces : List SlottedText) →
    Stands parts document → at < length parts.content.cells
    → length parts.content.cells + total pieces ≤ MOST_CHARS →
    All (IsKnownPiece parts.seats.entries parts.tags.tags) pieces
    → Stands (with_state parts (inserted_texts (recording_of parts.journal.settings) kind at pieces (state_in parts)))
    (with_texts kind at (map (keyed_piece (pairs_of parts)) pieces) document)
stands-texts parts document kind at [] stands within short known = stands
stands-texts parts document kind at (piece ∷ pieces) stands within short known =
    let P = IsKnownPiece parts.seats.entries parts.tags.tags in
    let state : State = inserted_text (recording_of parts.journal.settings) kind at piece (state_in parts) in
    let counted = total-cons piece pieces in
    let long = length-text (recording_of parts.journal.settings) kind at piece (state_in parts) within in
    stands-texts (with_state parts state) (with_text kind at (keyed_piece (pairs_of parts) piece) document) kind
    (at + length piece.text) pieces
    (stands-text parts document kind at piece stands within (omega (arith, counted, short))
    (All-head P piece pieces known))
    (omega (arith, long, within)) (omega (arith, long, counted, short)) (All-tail P piece pieces known)

pub length-texts : (recording : Recording) (kind : EditKind) (at : ℕ) (pieces : List SlottedText) (state : State) →
    at < length state.content.cells
    → length (inserted_texts recording kind at pieces state).content.cells ≡ length state.content.cells + total pieces
length-texts recording kind at [] state within = omega arith
length-texts recording kind at (piece ∷ pieces) state within =
    let long = length-text recording kind at piece state within in
    let counted = total-cons piece pieces in
    let rest = length-texts recording kind (at + length piece.text) pieces (inserted_text recording kind at piece state)
    (omega (arith, long, within)) in
    omega (arith, long, counted, rest)

-- ---- spans

pub stands-span : (parts : Parts) (document : Document) (kind : EditKind) (from to : ℕ) → Stands parts document →
    from ≤ to → to < length parts.content.cells
    → Stands (with_state parts (removed_span (recording_of parts.journal.settings) kind from to (state_in parts)))
    (without_span kind from to document)
stands-span parts document kind from to stands ordered within =
    let recording = recording_of parts.journal.settings in
    let all = model.characters parts.content.cells in
    let action = λ (text : List ℕ).
    (let made : Action = record { inserts = false; at = from; text = slice_range text from to } in made) in
    let text : all ≡ characters document.cells = sym (characters-keyed (pairs_of parts) parts.content.cells)
    ∙ ap (λ (d : Document). characters d.cells) stands.is in
    let made : State = state_of (after_removal from to parts.content)
    (map (anchors_removed all from to) parts.journal.anchors)
    (log_noted recording kind (action all) parts.journal.log) in
    let out = stands-noted (with_out from to parts) (without_cells from to document) kind (action all)
    (stands-out parts document from to stands ordered within) in
    elim (from == to) as (λ b. Stands (with_state parts (if b then state_in parts else made)) (if b then document
    else with_action kind (action (characters document.cells)) (without_cells from to document))) [
      | true ↦ stands
      | false ↦ subst (λ t. Stands (with_state parts made)
          (with_action kind (action t) (without_cells from to document))) text out
    ]

-- how many cells are left
pub length-span : (recording : Recording) (kind : EditKind) (from to : ℕ) (state : State) → from ≤ to →
    to ≤ length state.content.cells
    → length (removed_span recording kind from to state).content.cells + (to - from) ≡ length state.content.cells
length-span recording kind from to state ordered within =
    let made : State = record {
      content = after_removal from to state.content;
      anchors = map (anchors_removed (model.characters state.content.cells) from to) state.anchors;
      log = log_noted recording kind (record {
        inserts = false;
        at = from;
        text = slice_range (model.characters state.content.cells) from to;
      }) state.log;
    } in
    elim (from == to) as (λ b. (from == to) ≡ b → length (if b then state else made).content.cells + (to - from)
    ≡ length state.content.cells) [
      | true ↦ λ none. let same = eqb-true from to none in omega (arith, same)
      | false ↦ λ _. length-removed from to state.content.cells ordered within
    ] refl

-- ---- what an edit of a store leaves

-- an edit that came to nothing
pub stands-unedited : {parts : Parts} {document : Document} {content : Content} {anchors : List Anchors} {log : Log} →
    Stands parts document → content ≡ parts.content → log ≡ parts.journal.log → anchors ≡ parts.journal.anchors
    → Stands (with_state parts (state_of content anchors log)) document
stands-unedited {parts} {document} stands same past held =
    subst (λ (state : State). Stands (with_state parts state) document)
    (λ i. state_of (sym same i) (sym held i) (sym past i)) stands

-- the same of a text that is as a plan left it
pub stands-kept : {S P : Type 0} (content : S → Content) {parts : Parts} {document : Document}
    {text done : EditedText S P} → Stands parts document → (content text.store ≡ parts.content)
    × (log_of text.history ≡ parts.journal.log) × (text.anchors.items ≡ parts.journal.anchors) → done ≡ text
    → Stands (with_state parts (state_of (content done.store) done.anchors.items (log_of done.history))) document
stands-kept content {parts} {document} stands same left =
    subst (λ text. Stands (with_state parts (state_of (content text.store) text.anchors.items (log_of text.history)))
    document) (sym left) (stands-unedited stands same.0 same.1 same.2)

pub anchors-stand : {parts : Parts} {document : Document} → Stands parts document →
    All (AnchorsStand (length parts.content.cells)) parts.journal.anchors
anchors-stand {parts} stands = λ k anchors within.
    subst (λ n. AnchorsStand n (get_or parts.journal.anchors k anchors)) (count-characters parts.content.cells)
    (anchored-stand (model.characters parts.content.cells) (get_or parts.journal.anchors k anchors)
    (stands.sound.views.anchored k anchors within))
