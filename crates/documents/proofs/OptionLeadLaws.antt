-- Options that still keep all actions, and widgets that come and go, leave what a document leads back to; and so it
-- begins.
use Rattle.documents.proofs.Common.{◌≡◌, ℕ, ◌<◌, ◌≤◌, Bool, true, false, cond, List, [], ◌∷◌, map, length, refl, sym}
use Rattle.documents.proofs.Common.{ap, ap₂, ◌∙◌, arith, subst, true≢false, unwrap_or, if◌then◌else◌, All}
use Rattle.documents.proofs.Common.{AllByRecursion, length-map, map-append, All-append, All-cons, All-nil, All-tail}
use Rattle.documents.proofs.Common.{ends_in_newline, LimitTable, lines, FitsText, reverted_groups, History, limit_of}
use Rattle.documents.proofs.Common.{limited, no_history, AreAnchored, text-end-begins, DocumentSettings, Settings}
use Rattle.documents.proofs.Common.{history_under, is_behind, is_same, Document, Widget, KeyedCell, characters}
use Rattle.documents.proofs.Common.{AreLines, settings_of, widget_set, with_settings, IsPlaced, IsWellFormedDocument}
use Rattle.documents.proofs.Common.{is_kept, new_widget, with_peer, without_selections, filter, without_widgets}
use Rattle.documents.proofs.LeadLaws.{Leads, Page, anchors_of}
use Rattle.documents.proofs.WidgetLaws.{anchor-line, lines-anchored}

-- ---- options

-- all is kept of a history
history-kept : (settings : DocumentSettings) (history : History) → settings.undo ≡ true →
    limit_of settings.most_undo ≡ 0
    → history_under settings history ≡ history
history-kept settings history undo most = ap₂ (λ n b. limited n (if b then history else no_history)) most undo

-- the options of a widget name lines of its text
pub own-lines : (document : Document) (widget : Widget) →
    AreLines (lines (characters document.cells)) (settings_of document widget)
own-lines document widget = record {
  start = anchor-line (characters document.cells) widget.start;
  end = anchor-line (characters document.cells) widget.end;
}

all-changed : (text : List ℕ) (change : Widget → Widget)
    → ((widget : Widget) → AreAnchored text (anchors_of widget) → AreAnchored text (anchors_of (change widget)))
    → (widgets : List Widget) → All (AreAnchored text) (map anchors_of widgets) →
    All (AreAnchored text) (map anchors_of (map change widgets))
all-changed text change keeps [] all = All-nil (AreAnchored text)
all-changed text change keeps (widget ∷ widgets) all =
    All-cons (AreAnchored text) (anchors_of (change widget)) (map anchors_of (map change widgets))
    (keeps widget (all 0 (anchors_of widget) (omega arith)))
    (all-changed text change keeps widgets (All-tail (AreAnchored text) (anchors_of widget) (map anchors_of widgets)
    all))

pub leads-settings : (limit : ℕ) (start : List ℕ) (document : Document) (widget : Widget) (settings : Settings) →
    Leads limit start document
    → AreLines (lines (characters document.cells)) settings → is_behind settings.start settings.end ≡ false →
    settings.document.undo ≡ true
    → limit_of settings.document.most_undo ≡ 0
    → Leads limit start (with_settings widget settings document)
leads-settings limit start document widget settings leads are before undo most =
    let text = characters document.cells in
    let same = history-kept settings.document document.history undo most in
    let page = leads.page in
    record {
      undo = undo;
      most = most;
      page = record {
        some = page.some;
        ends = page.ends;
        anchored = all-changed text (λ other. if is_same widget.name other.name then widget_set document settings other
            else other)
            (λ other anchored. elim (is_same widget.name other.name) as
            (λ b. AreAnchored text (anchors_of (if b then widget_set document settings other else other))) [
              | true ↦ lines-anchored text settings are before
              | false ↦ anchored
            ]) document.widgets page.anchored;
      };
      fits = subst (FitsText limit text) (sym same) leads.fits;
      back = ap (λ (h : History). reverted_groups limit h.groups text) same ∙ leads.back;
    }

-- ---- widgets

pub leads-peer : (limit : ℕ) (start : List ℕ) (document : Document) (name : List ℕ) (settings : Settings) →
    Leads limit start document
    → AreLines (lines (characters document.cells)) settings → is_behind settings.start settings.end ≡ false →
    settings.document.undo ≡ true
    → limit_of settings.document.most_undo ≡ 0
    → Leads limit start (with_peer name settings document)
leads-peer limit start document name settings leads are before undo most =
    let text = characters document.cells in
    let same = history-kept settings.document document.history undo most in
    let page = leads.page in
    let widget = new_widget document name settings in
    let lone = All-cons (AreAnchored text) (anchors_of widget) [] (lines-anchored text settings are before)
    (All-nil (AreAnchored text)) in
    record {
      undo = undo;
      most = most;
      page = record {
        some = page.some;
        ends = page.ends;
        anchored = subst (All (AreAnchored text)) (sym (map-append anchors_of document.widgets (widget ∷ [])))
            (All-append (AreAnchored text) (map anchors_of document.widgets) (anchors_of widget ∷ []) page.anchored
            lone);
      };
      fits = subst (FitsText limit text) (sym same) leads.fits;
      back = ap (λ (h : History). reverted_groups limit h.groups text) same ∙ leads.back;
    }

text-left : (names : List (List ℕ)) (cells : List KeyedCell) →
    characters (map (without_selections names) cells) ≡ characters cells
text-left names [] = refl
text-left names (cell ∷ cells) = ap (λ text. cell.character ∷ text) (text-left names cells)

all-left : (text : List ℕ) (keeps : Widget → Bool) (widgets : List Widget) →
    All (AreAnchored text) (map anchors_of widgets)
    → All (AreAnchored text) (map anchors_of (filter keeps widgets))
all-left text keeps [] all = All-nil (AreAnchored text)
all-left text keeps (widget ∷ widgets) all =
    let rest = all-left text keeps widgets (All-tail (AreAnchored text) (anchors_of widget) (map anchors_of widgets)
    all) in
    elim (keeps widget) as (λ b. All (AreAnchored text)
    (map anchors_of (cond b (widget ∷ filter keeps widgets) (filter keeps widgets)))) [
      | true ↦ All-cons (AreAnchored text) (anchors_of widget) (map anchors_of (filter keeps widgets))
          (all 0 (anchors_of widget) (omega arith)) rest
      | false ↦ rest
    ]

pub leads-left : (limit : ℕ) (start : List ℕ) (document : Document) (names : List (List ℕ)) → Leads limit start document
    → Leads limit start (without_widgets names document)
leads-left limit start document names leads =
    let same = text-left names document.cells in
    let page = leads.page in
    record {
      undo = leads.undo;
      most = leads.most;
      page = subst (λ text. Page text (map anchors_of (filter (is_kept names) document.widgets))) (sym same) (record {
        some = page.some;
        ends = page.ends;
        anchored = all-left (characters document.cells) (is_kept names) document.widgets page.anchored;
      });
      fits = subst (λ text. FitsText limit text document.history) (sym same) leads.fits;
      back = ap (reverted_groups limit document.history.groups) same ∙ leads.back;
    }

-- ---- the start

some-text : (text : List ℕ) → ends_in_newline text ≡ true → 0 < length text
some-text [] is = absurd (true≢false (sym is))
some-text (c ∷ text) is = omega arith

all-placed : (document : Document) (widgets : List Widget) → AllByRecursion (IsPlaced document) widgets
    → All (AreAnchored (characters document.cells)) (map anchors_of widgets)
all-placed document [] placed = All-nil (AreAnchored (characters document.cells))
all-placed document (widget ∷ widgets) placed =
    let text = characters document.cells in
    let one = placed.0 in
    let long : length document.cells ≡ length text = sym
    (length-map document.cells (λ (cell : KeyedCell). cell.character)) in
    All-cons (AreAnchored text) (anchors_of widget) (map anchors_of widgets)
    (record {
      start = one.start;
      end = one.end;
      ordered = subst (λ n. unwrap_or widget.start 0 ≤ unwrap_or widget.end n) long one.ordered;
    })
    (all-placed document widgets placed.1)

-- a document that keeps all its actions, and has none yet
pub leads-first : (limits : LimitTable) (document : Document) → IsWellFormedDocument limits document →
    document.undo ≡ true → limit_of document.most_undo ≡ 0
    → document.history.groups ≡ []
    → Leads limits.chars (characters document.cells) document
leads-first limits document formed undo most none =
    let text = characters document.cells in
    record {
      undo = undo;
      most = most;
      page = record {
        some = some-text text formed.text.newline;
        ends = text-end-begins text formed.text.newline;
        anchored = all-placed document document.widgets formed.widgets;
      };
      fits = formed.history;
      back = ap (λ groups. reverted_groups limits.chars groups text) none;
    }
