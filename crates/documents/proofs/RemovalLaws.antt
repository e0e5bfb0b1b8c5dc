-- A document after spans of what a widget shows are deleted.
use Rattle.documents.proofs.Common.{◌≡◌, ℕ, ◌+◌, ◌-◌, ◌<◌, ◌≤◌, Bool, true, false, List, [], ◌∷◌, Ok, map, length, take}
use Rattle.documents.proofs.Common.{drop, ◌++◌, refl, sym, ap, ap₂, subst, ◌∙◌, arith, All, All-append, All-drop}
use Rattle.documents.proofs.Common.{All-map, All-take, Cell, ClearTags, IsDocument, LimitTable, changed, after_step}
use Rattle.documents.proofs.Common.{without_slots, characters-without_slots, length-changed, EditKind, Delete}
use Rattle.documents.proofs.Common.{AreAnchored, delete_set, deleted, in_spans, removed_spans, runs_below, removed_span}
use Rattle.documents.proofs.Common.{State, SpanFits, Span, deleted-kept, deleted-runs, Empty, recording_of}
use Rattle.documents.proofs.Common.{delete_places, delete_spans, deleted_runs, last_bare, Document, Parts, Widget}
use Rattle.documents.proofs.Common.{document_of, widget_at, with_bare, without_spans, HasKnownSlots, Stands}
use Rattle.documents.proofs.Common.{spans_shown, is_idle, slice_range, if◌then◌else◌, edited, deletions, AreApart}
use Rattle.documents.proofs.Common.{keyed-bare, known-empty}
use Rattle.documents.proofs.ChangeLaws.{Leaves, does-changed}
use Rattle.documents.proofs.PartsLaws.{Sits, cells-kept, characters-kept, pairs_of}
use Rattle.documents.proofs.StateLaws.{length-span, stands-span, state_in, with_state}
use Rattle.documents.proofs.ViewLaws.{IsSeen, active-is, end-is, end_in, start-is, start_in, within-is}
use Rattle.text_model.specs.Content as model

-- ---- spans that stand apart, the last first

stands-spans : (parts : Parts) (document : Document) (kind : EditKind) (border : ℕ) (spans : List Span) →
    Stands parts document → AreApart border spans → border ≤ length parts.content.cells
    → Stands (with_state parts (removed_spans (recording_of parts.journal.settings) kind spans (state_in parts)))
    (without_spans kind spans document)
stands-spans parts document kind border [] stands apart within = stands
stands-spans parts document kind border (span ∷ spans) stands apart within =
    let some = apart.0 in let below = apart.1 in
    let state : State = removed_span (recording_of parts.journal.settings) kind span.from span.to (state_in parts) in
    let long = length-span (recording_of parts.journal.settings) kind span.from span.to (state_in parts)
    (omega (arith, some)) (omega (arith, below, within)) in
    stands-spans (with_state parts state) _ kind span.from spans
    (stands-span parts document kind span.from span.to stands (omega (arith, some)) (omega (arith, below, within)))
    apart.2 (omega (arith, long, some, below, within))

-- ---- the last cell that a widget shows, which loses its keys

abbrev bared : ℕ → State → State
bared at state = record state { content = after_step (ClearTags at) state.content }

known-bare : (parts : Parts) (from to : ℕ) (cells : List Cell) →
    All (HasKnownSlots parts.seats.entries parts.tags.tags) cells
    → All (HasKnownSlots parts.seats.entries parts.tags.tags) (changed without_slots from to cells)
known-bare parts from to cells known =
    let P = HasKnownSlots parts.seats.entries parts.tags.tags in
    let part = slice_range cells from to in
    let new : All P (map without_slots part) = All-map P without_slots part (λ k cell within.
    known-empty parts.seats.entries parts.tags.tags) in
    All-append P (take from cells ++ map without_slots part) (drop to cells)
    (All-append P (take from cells) (map without_slots part) (All-take P from cells known) new)
    (All-drop P to cells known)

stands-bare : (parts : Parts) (document : Document) (at : ℕ) → Stands parts document → at < length parts.content.cells
    → Stands (with_state parts (bared at (state_in parts))) (with_bare at document)
stands-bare parts document at stands within =
    let content = parts.content in
    let kept = stands.sound.kept in
    let sound = stands.sound in
    let before : Document = document_of parts in
    let long = length-changed without_slots at (at + 1) content.cells (omega arith) (omega (arith, within)) in
    let cells = keyed-bare (pairs_of parts) at content.cells in
    let text_is = characters-without_slots at (at + 1) content.cells (omega arith) in
    record {
      sound = record {
        kept = record {
          seats = kept.seats;
          slots = kept.slots;
          named = kept.named;
          text = subst IsDocument (sym text_is) kept.text;
          short = (let h = kept.short in omega (arith, long, h));
          marks = λ number place is. (let h = kept.marks number place is in omega (arith, long, h));
          own = kept.own;
          known = known-bare parts at (at + 1) content.cells kept.known;
          tags = kept.tags;
          roomy = kept.roomy;
        };
        marked = sound.marked;
        orderly = record { most = sound.orderly.most; groups = sound.orderly.groups; undone = sound.orderly.undone };
        views = record {
          anchored = subst (λ t. All (AreAnchored t) parts.journal.anchors) (sym text_is)
              sound.views.anchored;
          seated = sound.views.seated;
        };
      };
      is = (λ i. record before { cells = cells i }) ∙ ap (with_bare at) stands.is;
    }

stands-if : (parts : Parts) (document : Document) (at : ℕ) (b : Bool) → Stands parts document →
    at < length parts.content.cells
    → Stands (with_state parts (if b then bared at (state_in parts) else state_in parts)) (if b
    then with_bare at document else document)
    × (length (if b then bared at (state_in parts) else state_in parts).content.cells ≡ length parts.content.cells)
stands-if parts document at true stands within = (
  stands-bare parts document at stands within,
  length-changed without_slots at (at + 1) parts.content.cells (omega arith) (omega (arith, within)),
)
stands-if parts document at false stands within = (stands, refl)

-- ---- a deletion

to-end : (end : ℕ) (spans : List Span) → All (SpanFits end) spans → All (λ (span : Span). span.to ≤ end) spans
to-end end spans fit = λ k d before. (fit k d before).within

pub leaves-deleted : (limits : LimitTable) (old : Parts) (state : State) (document : Document) (place slot : ℕ)
    (spans : List Span) → Stands old document → Sits old document place slot
    → start_in old slot < end_in old slot → All (SpanFits (end_in old slot)) spans →
    state ≡ deleted (recording_of old.journal.settings) (start_in old slot) (end_in old slot) spans (state_in old)
    → Leaves limits (with_state old state) document (Ok Empty) (delete_spans document (widget_at document place) spans)
leaves-deleted limits old state document place slot spans stands sits shows fit is =
    let widget : Widget = widget_at document place in
    let recording = recording_of old.journal.settings in
    let content = old.content in
    let start = start_in old slot in
    let end = end_in old slot in
    let len = length content.cells in
    let text : List ℕ = model.characters content.cells in
    let within = within-is old document place slot stands sits in
    let long = cells-kept old document stands.is in
    let start_same = start-is old document place slot stands sits in
    let end_same = end-is old document place slot stands sits in
    let b = in_spans spans (end - 1) in
    let runs = runs_below len (delete_set text start end (in_spans spans)) in
    let bare = stands-if old document (end - 1) b stands (omega (arith, shows, within)) in
    let same = bare.1 in
    let first : State = if b then bared (end - 1) (state_in old) else state_in old in
    let rest = stands-spans (with_state old first) (if b then with_bare (end - 1) document
    else document) Delete len runs bare.0
    (deleted-runs text start end len spans (omega (arith, shows)) within (to-end end spans fit)) (omega (arith, same))
    in
    let made : State = deleted recording start end spans (state_in old) in
    let result : Document = without_spans Delete (deleted_runs document widget spans) (last_bare widget spans document)
    in
    let again : (if b then with_bare (end - 1) document else document) ≡ last_bare widget spans document =
    ap (λ n. if in_spans spans (n - 1) then with_bare (n - 1) document else document) (sym end_same) in
    let same_runs : runs ≡ deleted_runs document widget spans =
    λ i. runs_below (sym long i) (delete_set (sym (characters-kept old document stands.is) i) (sym start_same i)
    (sym end_same i) (in_spans spans)) in
    let all_is : document_of (with_state old made) ≡ result = rest.is
    ∙ ap₂ (λ rs d. without_spans Delete rs d) same_runs again in
    subst (λ (s : State). Leaves limits (with_state old s) document (Ok Empty) (delete_spans document widget spans))
    (sym is)
    (does-changed stands (record {
      sound = rest.sound;
      is = ap (λ d. edited d (deletions document (deleted_runs document widget spans))) (sym all_is);
      fits = λ fits. (deleted-kept limits.chars start end recording spans (state_in old)
          (record { fits = fits; groups = stands.sound.orderly.groups; undone = stands.sound.orderly.undone }) shows
          within (to-end end spans fit)).fits;
      tags = λ few. few;
      marks = λ few. few;
      seats = refl;
    }))

pub leaves-places : {old : Parts} {state : State} {document : Document} {place slot start end : ℕ} {spans : List Span}
    (limits : LimitTable) (places : List ℕ) → IsSeen old document place slot old.content start end
    → is_idle document (widget_at document place) ≡ false
    → (spans ≡ spans_shown document (widget_at document place) places) × All (SpanFits end) spans →
    state ≡ deleted (recording_of old.journal.settings) start end spans (state_in old)
    → Leaves limits (with_state old state) document (Ok Empty)
    (delete_places document (widget_at document place) places)
leaves-places {old} {state} {document} {place} {slot} {spans = spans} limits places seen active within is =
    subst (λ ss. Leaves limits (with_state old state) document (Ok Empty)
    (delete_spans document (widget_at document place) ss)) within.0
    (leaves-deleted limits old state document place slot spans seen.stands seen.sits
    (active-is old document place slot seen.stands seen.sits active).1
    (subst (λ n. All (SpanFits n) spans) seen.ends within.1)
    (is ∙ ap₂ (λ s e. deleted (recording_of old.journal.settings) s e spans (state_in old)) seen.starts seen.ends))
