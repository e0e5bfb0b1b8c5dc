-- The options of a document and of its widgets, and widgets that come and go.
use Rattle.documents.proofs.Common.{◌≡◌, ◌≢◌, ℕ, ◌+◌, ◌-◌, ◌≤◌, false, set, List, [], ◌∷◌, Ok, length, get_or, refl}
use Rattle.documents.proofs.Common.{sym, ap, ap₂, subst, ◌∙◌, arith, slice_get, unwrap_or, IfSome, AllByRecursion}
use Rattle.documents.proofs.Common.{get_or_default, length-set, get_or-set_other, get_or-set_at, All-set, nat_tests}
use Rattle.documents.proofs.Common.{IsLineStart, line_of, line_start, lines, LimitTable, FitsText, limit_of, Kept}
use Rattle.documents.proofs.Common.{log_of, Named, AreAnchored, Anchors, is_same, Empty, history_under, is_behind}
use Rattle.documents.proofs.Common.{Settings, Document, Journal, Parts, Widget, anchors_at, characters, document_of}
use Rattle.documents.proofs.Common.{whole, widget_at, widget_of, IsSeated, Stands, answered, AreLines, IsLine}
use Rattle.documents.proofs.Common.{anchor_at, settings_of, widget_set, with_settings, window_names, filter, not}
use Rattle.documents.proofs.Common.{option_map, Option, None, Some, characters-keyed}
use Rattle.name_list.specs.Names.{names_of}
use Rattle.text_index.proofs.SameLine.{line-of-start}
use Rattle.text_index.proofs.ViewLaws.{line_of-within, line_start-add}
use Rattle.text_model.proofs.LineLaws.{line_start-le, lines-le-length}
use Rattle.documents.proofs.ChangeLaws.{Leaves, does-changed}
use Rattle.documents.proofs.JournalLaws.{fits-under, orderly-under, with_kept}
use Rattle.documents.proofs.MarkLaws.{slot-there, widgets-put}
use Rattle.documents.proofs.PartsLaws.{Sits, characters-kept, pairs_of, widget-is}
use Rattle.documents.proofs.SeatLaws.{seat-named}
use Rattle.documents.proofs.ViewLaws.{counted}
use Rattle.documents.proofs.WellFormedLaws.{windows-kept}
use Rattle.text_model.specs.Content as model

-- ---- lines

pub line-short : (text : List ℕ) (anchor : ℕ) → line_of text anchor ≤ length text
line-short text anchor = (let a = line_of-within text anchor in let b = lines-le-length text in omega (arith, a, b))

-- the line of an anchor, if there is one
abbrev pub line_numbered : List ℕ → Option ℕ → Option ℕ
line_numbered text anchor = option_map (λ a. line_of text a + 1) anchor

pub anchor-line : (text : List ℕ) (anchor : Option ℕ) → IfSome (line_numbered text anchor) (IsLine (lines text))
anchor-line text None = tt
anchor-line text (Some anchor) = (omega arith, (let within = line_of-within text anchor in omega (arith, within)))

-- where a line starts
abbrev pub line_anchor : List ℕ → Option ℕ → Option ℕ
line_anchor text line = option_map (λ l. line_start (l - 1) text) line

pub starts-line : (text : List ℕ) (line : ℕ) → line ≤ lines text → IsLineStart text (line_start line text)
starts-line text line within = record {
  within = line_start-le text line;
  begins = ap (λ n. line_start n text) (line-of-start text line within);
}

later-starts : (text : List ℕ) (line more : ℕ) → line ≤ more → line_start line text ≤ line_start more text
later-starts text line more ordered =
    let is : line + (more - line) ≡ more = omega (arith, ordered) in
    omega (arith, line_start-add line (more - line) text, ap (λ k. line_start k text) is)

-- anchors at lines of a text, of which the start isn't behind the end, stand as anchors should
pub lines-anchored : (text : List ℕ) (settings : Settings) → AreLines (lines text) settings →
    is_behind settings.start settings.end ≡ false
    → AreAnchored text (record { start = line_anchor text settings.start; end = line_anchor text settings.end })
lines-anchored text settings are before = both settings.start settings.end are.start are.end before
  where
    one : (line : Option ℕ) → IfSome line (IsLine (lines text)) → IfSome (line_anchor text line) (IsLineStart text)
    one None is = tt
    one (Some line) is = starts-line text (line - 1) (omega (arith, is.1))

    order : (start end : Option ℕ) → is_behind start end ≡ false →
        unwrap_or (line_anchor text start) 0 ≤ unwrap_or (line_anchor text end) (length text)
    order None end before = omega arith
    order (Some start) None before = line_start-le text (start - 1)
    order (Some start) (Some end) before = later-starts text (start - 1) (end - 1) (let h : start
        ≤ end = grind (arith, nat_tests, before) in omega (arith, h))

    both : (start end : Option ℕ) → IfSome start (IsLine (lines text)) → IfSome end (IsLine (lines text)) →
        is_behind start end ≡ false
        → AreAnchored text (record { start = line_anchor text start; end = line_anchor text end })
    both start end starts ends before =
        record { start = one start starts; end = one end ends; ordered = order start end before }

-- ---- options

-- the options of a document and of a widget, by its slot
abbrev pub settings_at : Parts → List ℕ → ℕ → Settings
settings_at parts text slot = record {
  document = parts.journal.settings;
  disabled = get_or parts.journal.disabled slot false;
  start = line_numbered text (anchors_at parts.journal slot).start;
  end = line_numbered text (anchors_at parts.journal slot).end;
}

pub settings-kept : {parts : Parts} {document : Document} {place slot : ℕ} → Stands parts document →
    Sits parts document place slot
    → settings_at parts (model.characters parts.content.cells) slot ≡ settings_of document (widget_at document place)
settings-kept {parts} {document} {place} {slot} stands sits =
    let widget : Widget = widget_of parts.journal parts.content.marks sits.seat in
    ap (settings_at parts (model.characters parts.content.cells)) (sym sits.number)
    ∙ ap (λ text. settings_at parts text sits.seat.number)
    (sym (characters-keyed (pairs_of parts) parts.content.cells))
    ∙ ap (λ (d : Document). settings_of d widget) stands.is ∙ ap (settings_of document) (sym sits.widget)

pub settings-lines : {parts : Parts} {document : Document} (slot : ℕ) → Stands parts document →
    AreLines (lines (characters document.cells)) (settings_at parts (model.characters parts.content.cells) slot)
settings-lines {parts} {document} slot stands =
    let text = model.characters parts.content.cells in
    subst (λ t. AreLines (lines t) (settings_at parts text slot)) (sym (characters-kept parts document stands.is))
    (record {
      start = anchor-line text (anchors_at parts.journal slot).start;
      end = anchor-line text (anchors_at parts.journal slot).end;
    })

-- an anchor of a widget stands in the text
pub anchors-within : {parts : Parts} {document : Document} {place slot : ℕ} {found : Anchors} →
    Sits parts document place slot → found ≡ get_or parts.journal.anchors slot found
    → (found ≡ anchors_at parts.journal slot) × IfSome found.start (λ a. a ≤ length parts.content.cells)
    × IfSome found.end (λ a. a ≤ length parts.content.cells)
anchors-within {parts} {document} {place} {slot} {found} sits is =
    let same : found ≡ anchors_at parts.journal slot = is
    ∙ get_or_default parts.journal.anchors slot found whole sits.anchors in
    let long = counted parts.content in
    let text = model.characters parts.content.cells in
    let one : (anchor : Option ℕ) → IfSome anchor (IsLineStart text) →
    IfSome anchor (λ a. a ≤ length parts.content.cells) = λ anchor is.
    elim anchor as (λ o. IfSome o (IsLineStart text) → IfSome o (λ a. a ≤ length parts.content.cells)) [
      | None ↦ λ _. tt
      | Some a ↦ λ (line : IsLineStart text a). (let h = line.within in omega (arith, h, long))
    ] is in (
      same,
      subst (λ (a : Anchors). IfSome a.start (λ x. x ≤ length parts.content.cells)) (sym same)
          (one (anchors_at parts.journal slot).start sits.anchored.start),
      subst (λ (a : Anchors). IfSome a.end (λ x. x ≤ length parts.content.cells)) (sym same)
          (one (anchors_at parts.journal slot).end sits.anchored.end),
    )

-- the journal with the options of a document and of a widget, by its slot
abbrev pub journal_set : Journal → ℕ → Settings → Anchors → Kept → Journal
journal_set journal slot settings anchors kept = record {
  settings = settings.document;
  disabled = set journal.disabled slot settings.disabled;
  anchors = set journal.anchors slot anchors;
  log = log_of kept;
}

pub seats-set : (journal : Journal) (slot : ℕ) (settings : Settings) (anchors : Anchors) (kept : Kept) (seats : List Named)
    → AllByRecursion (IsSeated journal.anchors journal.disabled) seats
    → AllByRecursion (IsSeated (journal_set journal slot settings anchors kept).anchors
    (journal_set journal slot settings anchors kept).disabled) seats
seats-set journal slot settings anchors kept [] seated = tt
seats-set journal slot settings anchors kept (seat ∷ seats) seated =
    let one = seated.0.anchored in
    let two = seated.0.flagged in (
      record {
        anchored = omega (arith, one, length-set journal.anchors slot anchors);
        flagged = omega (arith, two, length-set journal.disabled slot settings.disabled);
      },
      seats-set journal slot settings anchors kept seats seated.1,
    )

-- a widget is given options
pub leaves-settings : {document : Document} {place slot : ℕ} {settings : Settings} {anchors : Anchors}
    (limits : LimitTable) (old : Parts) (before after : Kept) → Stands (with_kept old before) document
    → Sits (with_kept old before) document place slot → AreLines (lines (characters document.cells)) settings →
    is_behind settings.start settings.end ≡ false
    → anchors ≡ record {
      start = line_anchor (model.characters old.content.cells) settings.start;
      end = line_anchor (model.characters old.content.cells) settings.end;
    }
    → after.history ≡ history_under settings.document before.history → after.modified ≡ before.modified →
    after.most ≡ limit_of settings.document.most_undo
    → Leaves limits (record old { journal = journal_set old.journal slot settings anchors after }) document (Ok Empty)
    (answered (with_settings (widget_at document place) settings document) Empty)
leaves-settings {document} {place} {slot} {settings} {anchors} limits old before after stands sits are ordered given
    history modified most =
    let parts : Parts = with_kept old before in
    let new : Parts = record old { journal = journal_set old.journal slot settings anchors after } in
    let text = model.characters old.content.cells in
    let lone : Document = document_of parts in
    let places = old.content.marks in
    let widget : Widget = widget_of parts.journal places sits.seat in
    let same : text ≡ characters lone.cells = sym (characters-keyed (pairs_of parts) old.content.cells) in
    let stand : AreAnchored text anchors =
    subst (AreAnchored text) (sym given) (lines-anchored text settings
    (subst (λ t. AreLines (lines t) settings) (characters-kept parts document stands.is) are) ordered) in
    let shown : (seat : Named) → seat.number ≡ slot → widget_of new.journal places seat
    ≡ widget_set lone settings (widget_of parts.journal places seat) = λ seat is.
    let there = get_or-set_at old.journal.anchors slot seat.number anchors whole is sits.anchors in
    let flag = get_or-set_at old.journal.disabled slot seat.number settings.disabled false is sits.disabled in
    let start : (get_or (set old.journal.anchors slot anchors) seat.number whole).start
    ≡ option_map (anchor_at lone) settings.start =
    ap (λ (a : Anchors). a.start) (there ∙ given) ∙ ap (λ t. line_anchor t settings.start) same in
    let end : (get_or (set old.journal.anchors slot anchors) seat.number whole).end
    ≡ option_map (anchor_at lone) settings.end =
    ap (λ (a : Anchors). a.end) (there ∙ given) ∙ ap (λ t. line_anchor t settings.end) same in
    λ i. record (widget_of parts.journal places seat) { start = start i; end = end i; disabled = flag i } in
    let others : (seat : Named) → seat.number ≢ slot → widget_of new.journal places seat
    ≡ widget_of parts.journal places seat = λ seat apart.
    let there = get_or-set_other old.journal.anchors slot seat.number anchors whole apart in
    let flag = get_or-set_other old.journal.disabled slot seat.number settings.disabled false apart in
    λ i. record (widget_of parts.journal places seat) {
      start = (there i).start;
      end = (there i).end;
      disabled = flag i;
    } in
    let widgets = widgets-put new.journal parts.journal places places sits.seat.name slot (widget_set lone settings)
    old.seats.entries (slot-there parts document place slot stands sits) shown others in
    let made : document_of new ≡ with_settings widget settings lone = λ i.
    record (document_of new) { widgets = widgets i; history = history i; modified = modified i } in
    let whole_made = made ∙ ap₂ (λ (d : Document) (w : Widget). with_settings w settings d) stands.is (sym sits.widget)
    in
    does-changed stands (record {
      sound = record {
        kept = stands.sound.kept;
        marked = stands.sound.marked;
        orderly = orderly-under settings.document new.journal before after history most;
        views = record {
          anchored = All-set (AreAnchored text) old.journal.anchors slot anchors stand stands.sound.views.anchored;
          seated = seats-set old.journal slot settings anchors after old.seats.entries stands.sound.views.seated;
        };
      };
      is = ap (λ (d : Document). answered d Empty) (sym whole_made);
      fits = λ fits. subst (FitsText limits.chars text) (sym history)
          (fits-under limits.chars settings.document before.history text fits);
      tags = λ few. few;
      marks = λ few. few;
      seats = refl;
    })

-- ---- names

-- the name at a seat is that of the widget there
pub own-name : {parts : Parts} {document : Document} (place : ℕ) (name : List ℕ) → Stands parts document →
    slice_get (names_of parts.seats.entries) place ≡ Some name
    → name ≡ (widget_at document place).name
own-name {parts} {document} place name stands is =
    let found = seat-named parts.seats.entries place name is in
    sym found.named ∙ ap (λ (w : Widget). w.name) (sym (widget-is parts document place found.seat stands.is found.stands))

-- the names of the others
pub others-kept : {parts : Parts} {document : Document} (place : ℕ) (name : List ℕ) → Stands parts document →
    slice_get (names_of parts.seats.entries) place ≡ Some name
    → filter (λ other. not (is_same other name)) (names_of parts.seats.entries)
    ≡ filter (λ other. not (is_same other (widget_at document place).name)) (window_names document)
others-kept {parts} {document} place name stands is =
    let own = own-name place name stands is in
    ap₂ (λ n names. filter (λ other. not (is_same other n)) names) own (sym (windows-kept parts)
    ∙ ap window_names stands.is)
