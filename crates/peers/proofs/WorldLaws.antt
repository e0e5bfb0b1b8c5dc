-- Documents in a world, as their widgets come and go.
use Rattle.peers.proofs.Common.{◌≡◌, ℕ, zero, suc, ◌+◌, ◌<◌, ◌≤◌, Bool, true, false, cond, not, List, [], ◌∷◌, ◌++◌}
use Rattle.peers.proofs.Common.{length, map, get_or, filter, slice_set, refl, sym, ap, subst, ◌∙◌, nat_lt, arith}
use Rattle.peers.proofs.Common.{AllByRecursion, length-append, get_or_read, length-map, map-append, OnErr, OnOk}
use Rattle.peers.proofs.Common.{nat_tests, among-append, is_among, is_same, Settings, Document, Widget, window_names}
use Rattle.peers.proofs.Common.{IsWellFormedDocument, is_kept, keeps_some, new_document, new_widget, thinned, with_peer}
use Rattle.peers.proofs.Common.{without_widgets, changed, create_named, create_new, has_widgets, refuses, peer_with}
use Rattle.peers.proofs.Common.{Word, TooManyWidgets, WindowExists, Change, answered, refused, AreLimits, LimitTable}
use Rattle.peers.proofs.Common.{IsWellFormed, World, all_windows, document_at, windows_of, Ok, Err, Result}
use Rattle.peers.proofs.Common.{if◌then◌else◌, nat_le, or_parts, set-get_or, Outcome}
use Rattle.std.specs.List.{IsDistinct}
use Rattle.std.proofs.lemmas.List.Sums.{count_by-le-length, length-filter}
use Rattle.peers.proofs.WindowLaws.{added-windows, count-more, distinct-kept, distinct-more, filter-changed}
use Rattle.peers.proofs.WindowLaws.{filter-twice, front-windows, names-left, next-windows, peer-windows}
use Rattle.reports.proofs.ClearedLaws.{map-filter}
use Rattle.documents.specs.Widgets as widgets

-- ---- widgets of a document

pub peer-names : (name : List ℕ) (settings : Settings) (document : Document) →
    window_names (with_peer name settings document) ≡ window_names document ++ name ∷ []
peer-names name settings document =
    map-append (λ (widget : Widget). widget.name) document.widgets (new_widget document name settings ∷ [])

pub left-names : (names : List (List ℕ)) (document : Document) →
    window_names (without_widgets names document) ≡ filter (λ name. not (is_among name names)) (window_names document)
left-names names document =
    map-filter (λ (widget : Widget). widget.name) (λ name. not (is_among name names)) document.widgets

bare-names : (document : Document) → has_widgets document ≡ false → window_names document ≡ []
bare-names document none = all document.widgets none
  where
    all : (widgets : List Widget) → nat_lt 0 (length widgets) ≡ false →
        map (λ (widget : Widget). widget.name) widgets ≡ []
    all [] is = refl
    all (widget ∷ widgets) is =
        absurd (let none : length (widget ∷ widgets) ≡ 0 = grind (arith, nat_tests, is) in omega (arith, none))

-- ---- documents that are left

pub left-windows : (names : List (List ℕ)) (documents : List Document)
    → windows_of (filter has_widgets (map (without_widgets names) documents))
    ≡ filter (λ name. not (is_among name names)) (windows_of documents)
left-windows names documents = names-left window_names (without_widgets names) has_widgets (λ name.
    not (is_among name names)) (left-names names) bare-names documents

pub left-documents : (names : List (List ℕ)) (documents : List Document)
    → filter (keeps_some names) (map (thinned names) documents)
    ≡ filter has_widgets (map (without_widgets names) documents)
left-documents names documents =
    filter-changed (keeps_some names) has_widgets (thinned names) (without_widgets names) same alike documents
  where
    alike : (document : Document) → has_widgets (without_widgets names document) ≡ true →
        thinned names document ≡ without_widgets names document
    alike document keeps = ap (λ b. cond b (without_widgets names document) document) keeps

    same : (document : Document) → keeps_some names (thinned names document)
        ≡ has_widgets (without_widgets names document)
    same document =
        elim (keeps_some names document) as (λ b. keeps_some names document ≡ b →
        keeps_some names (cond b (without_widgets names document) document)
        ≡ has_widgets (without_widgets names document)) [
          | false ↦ λ _. refl
          | true ↦ λ _. ap (λ ws. nat_lt 0 (length ws)) (filter-twice (is_kept names) document.widgets)
        ] refl

-- ---- what holds of each document

pub all-added : (Good : Document → Type 0) (documents : List Document) (new : Document) →
    AllByRecursion Good documents → Good new → AllByRecursion Good (documents ++ new ∷ [])
all-added Good [] new all good = (good, tt)
all-added Good (document ∷ documents) new all good = (all.0, all-added Good documents new all.1 good)

pub all-changed : (Good : Document → Type 0) (documents : List Document) (place : ℕ) (new : Document) →
    AllByRecursion Good documents → Good new → AllByRecursion Good (slice_set documents place new)
all-changed Good [] place new all good = tt
all-changed Good (document ∷ documents) zero new all good = (good, all.1)
all-changed Good (document ∷ documents) (suc place) new all good =
    (all.0, all-changed Good documents place new all.1 good)

pub all-at : (Good : Document → Type 0) (documents : List Document) (place : ℕ) → AllByRecursion Good documents →
    place < length documents → Good (document_at documents place)
all-at Good [] place all within = absurd (omega (arith, within))
all-at Good (document ∷ documents) zero all within = all.0
all-at Good (document ∷ documents) (suc place) all within = all-at Good documents place all.1 (omega (arith, within))

pub all-shown : (documents : List Document) →
    AllByRecursion (λ (document : Document). 0 < length document.widgets) (filter has_widgets documents)
all-shown [] = tt
all-shown (document ∷ documents) =
    elim (has_widgets document) as (λ b. has_widgets document ≡ b →
    AllByRecursion (λ (d : Document). 0 < length d.widgets)
    (cond b (document ∷ filter has_widgets documents) (filter has_widgets documents))) [
      | false ↦ λ _. all-shown documents
      | true ↦ λ some. (shown document.widgets some, all-shown documents)
    ] refl
  where
    shown : (widgets : List Widget) → nat_lt 0 (length widgets) ≡ true → 0 < length widgets
    shown widgets is = grind (arith, nat_tests, is)

-- a document that is read
pub read-is : (documents : List Document) (place : ℕ) (document : Document) → place < length documents →
    document ≡ get_or documents place document
    → document ≡ document_at documents place
read-is documents place document within is = get_or_read documents place document within is widgets.bare_document

-- the widgets of a document that is read
pub read-count : (documents : List Document) (place : ℕ) (document : Document) → place < length documents →
    document ≡ get_or documents place document
    → length document.widgets ≡ length (window_names (document_at documents place))
read-count documents place document within is =
    ap (λ (d : Document). length d.widgets) (read-is documents place document within is)
    ∙ sym (length-map (document_at documents place).widgets (λ (widget : Widget). widget.name))

-- ---- a document among others

-- a name that no widget has isn't that of one of a document's
pub own-absent : (name : List ℕ) (documents : List Document) (place : ℕ) → place < length documents →
    is_among name (windows_of documents) ≡ false
    → is_among name (window_names (document_at documents place)) ≡ false
own-absent name [] place within new = absurd (omega (arith, within))
own-absent name (document ∷ documents) place within new =
    let parts = or_parts (is_among name (window_names document)) (is_among name (windows_of documents))
    (sym (among-append name (window_names document) (windows_of documents)) ∙ new) in
    elim place as (λ at. at < length (document ∷ documents) →
    is_among name (window_names (document_at (document ∷ documents) at)) ≡ false) [
      | zero ↦ λ inside. parts.0
      | suc at ↦ λ inside. own-absent name documents at (omega (arith, inside)) parts.1
    ] within

-- its widgets are no more than all
pub own-count : (documents : List Document) (place : ℕ) → place < length documents →
    length (document_at documents place).widgets ≤ length (windows_of documents)
own-count documents place within =
    omega (
      arith,
      next-windows place documents within,
      front-windows (place + 1) documents,
      length-map (document_at documents place).widgets (λ (widget : Widget). widget.name),
    )

-- ---- a name that is taken, and too many widgets

module _ (world : World) (name : List ℕ) (settings : Settings) where
  abbrev by_count : Bool → Outcome
  by_count many = if many then refuses world TooManyWidgets
      else record {
        reply = Ok (Word 1);
        world = record world { documents = world.documents ++ new_document name settings ∷ [] };
        edits = [];
      }

  abbrev by_name : Bool → Outcome
  by_name taken = if taken then refuses world (WindowExists 1) else create_new world name settings

  pub named-taken : is_among name (all_windows world) ≡ true →
      create_named world name settings ≡ refuses world (WindowExists 1)
  named-taken taken = ap by_name taken

  pub named-many : is_among name (all_windows world) ≡ false →
      nat_le world.limits.widgets (length (all_windows world)) ≡ true
      → create_named world name settings ≡ refuses world TooManyWidgets
  named-many new many = ap by_name new ∙ ap by_count many

  pub named-new : is_among name (all_windows world) ≡ false →
      nat_le world.limits.widgets (length (all_windows world)) ≡ false
      → create_named world name settings ≡ record {
        reply = Ok (Word 1);
        world = record world { documents = world.documents ++ new_document name settings ∷ [] };
        edits = [];
      }
  named-new new few = ap by_name new ∙ ap by_count few

module _ (limits : LimitTable) (windows : List (List ℕ)) (document : Document) (position : ℕ) (name : List ℕ)
    (settings : Settings) where
  abbrev peer_by_count : Bool → Change
  peer_by_count many = if many then refused document TooManyWidgets
      else answered (with_peer name settings document) (Word position)

  abbrev peer_by_name : Bool → Change
  peer_by_name taken = if taken then refused document (WindowExists position)
      else peer_by_count (nat_le limits.widgets (length windows))

  pub peer-taken : is_among name windows ≡ true
      → peer_with limits windows document position name settings ≡ refused document (WindowExists position)
  peer-taken taken = ap peer_by_name taken

  pub peer-many : is_among name windows ≡ false → nat_le limits.widgets (length windows) ≡ true
      → peer_with limits windows document position name settings ≡ refused document TooManyWidgets
  peer-many new many = ap peer_by_name new ∙ ap peer_by_count many

  pub peer-new : is_among name windows ≡ false → nat_le limits.widgets (length windows) ≡ false
      → peer_with limits windows document position name settings
      ≡ answered (with_peer name settings document) (Word position)
  peer-new new few = ap peer_by_name new ∙ ap peer_by_count few

-- ---- a world that stays well formed

abbrev pub with_all : LimitTable → List Document → World
with_all limits documents = record { limits = limits; documents = documents }

distinct-none : IsDistinct is_same []
unfolding IsDistinct
distinct-none = tt

pub formed-none : (limits : LimitTable) (documents : List Document) → documents ≡ [] → AreLimits limits →
    IsWellFormed (with_all limits documents)
formed-none limits documents none bounds = subst (λ ds. IsWellFormed (with_all limits ds)) (sym none) (record {
  limits = bounds;
  shown = tt;
  documents = tt;
  widget_names = distinct-none;
  widget_count = omega arith;
})

pub formed-added : {A E : Type 0} (limits : LimitTable) (name : List ℕ) (settings : Settings)
    (documents new : List Document) (result : Result A E) → IsWellFormed (with_all limits documents)
    → is_among name (windows_of documents) ≡ false → nat_le limits.widgets (length (windows_of documents)) ≡ false →
    OnOk result (new ≡ documents ++ new_document name settings ∷ []) → OnErr result (new ≡ documents)
    → AllByRecursion (IsWellFormedDocument limits) new → IsWellFormed (with_all limits new)
formed-added limits name settings documents new (Ok value) formed fresh few made kept all =
    let count = ap (λ ds. length (windows_of ds)) made in
    let more = added-windows documents (new_document name settings) name refl in
    let room : length (windows_of documents) < limits.widgets = grind (arith, nat_tests, few) in
    record {
      limits = formed.limits;
      shown = subst (AllByRecursion (λ (d : Document). 0 < length d.widgets)) (sym made)
          (all-added (λ (d : Document). 0 < length d.widgets) documents (new_document name settings) formed.shown
          (omega arith));
      documents = all;
      widget_names = subst (λ ds. IsDistinct is_same (windows_of ds)) (sym made)
          (distinct-more more formed.widget_names fresh);
      widget_count = omega (arith, count, count-more more, room);
    }
formed-added limits name settings documents new (Err error) formed fresh few made kept all =
    subst (λ ds. IsWellFormed (with_all limits ds)) (sym kept) formed

fewer : {A : Type 0} (passes : A → Bool) (xs : List A) → length (filter passes xs) ≤ length xs
fewer passes xs = omega (arith, length-filter passes xs, count_by-le-length passes xs)

pub formed-left : {A E : Type 0} (limits : LimitTable) (names : List (List ℕ)) (documents new : List Document)
    (result : Result A E) → IsWellFormed (with_all limits documents)
    → OnOk result (new ≡ filter has_widgets (map (without_widgets names) documents)) → OnErr result (new ≡ documents)
    → AllByRecursion (IsWellFormedDocument limits) new → IsWellFormed (with_all limits new)
formed-left limits names documents new (Ok value) formed made kept all =
    let windows = ap (λ ds. length (windows_of ds)) made in
    let left = ap length (left-windows names documents) in
    let less = fewer (λ name. not (is_among name names)) (windows_of documents) in
    record {
      limits = formed.limits;
      shown = subst (AllByRecursion (λ (d : Document). 0 < length d.widgets)) (sym made)
          (all-shown (map (without_widgets names) documents));
      documents = all;
      widget_names = subst (IsDistinct is_same)
          (sym (ap windows_of made ∙ left-windows names documents))
          (distinct-kept (λ name. not (is_among name names)) (windows_of documents) formed.widget_names);
      widget_count = omega (arith, windows, left, less, formed.widget_count);
    }
formed-left limits names documents new (Err error) formed made kept all =
    subst (λ ds. IsWellFormed (with_all limits ds)) (sym kept) formed

-- ---- a widget more of a document

pub set-same : (documents : List Document) (place : ℕ) →
    slice_set documents place (document_at documents place) ≡ documents
set-same documents place = set-get_or documents place widgets.bare_document

-- what is refused changes no document
pub changed-refused : (limits : LimitTable) (documents : List Document) (place : ℕ) (change : Change) →
    change.document ≡ document_at documents place
    → (changed (with_all limits documents) place change).world ≡ with_all limits documents
changed-refused limits documents place change same =
    ap (with_all limits) (ap (slice_set documents place) same ∙ set-same documents place)

pub formed-peer : {A E : Type 0} (limits : LimitTable) (name : List ℕ) (settings : Settings)
    (documents new : List Document) (place : ℕ) (result : Result A E)
    → IsWellFormed (with_all limits documents) → place < length documents → is_among name (windows_of documents) ≡ false
    → nat_le limits.widgets (length (windows_of documents)) ≡ false
    → OnOk result (new ≡ slice_set documents place (with_peer name settings (document_at documents place))) →
    OnErr result (new ≡ documents)
    → AllByRecursion (IsWellFormedDocument limits) new → IsWellFormed (with_all limits new)
formed-peer limits name settings documents new place (Ok value) formed within fresh few made kept all =
    let old = document_at documents place in
    let count = ap (λ ds. length (windows_of ds)) made in
    let more = peer-windows documents place (with_peer name settings old) name within (peer-names name settings old) in
    let room : length (windows_of documents) < limits.widgets = grind (arith, nat_tests, few) in
    let shown = length-append old.widgets (new_widget old name settings ∷ []) in
    record {
      limits = formed.limits;
      shown = subst (AllByRecursion (λ (d : Document). 0 < length d.widgets)) (sym made)
          (all-changed (λ (d : Document). 0 < length d.widgets) documents place (with_peer name settings old)
          formed.shown (omega (arith, shown)));
      documents = all;
      widget_names = subst (λ ds. IsDistinct is_same (windows_of ds)) (sym made)
          (distinct-more more formed.widget_names fresh);
      widget_count = omega (arith, count, count-more more, room);
    }
formed-peer limits name settings documents new place (Err error) formed within fresh few made kept all =
    subst (λ ds. IsWellFormed (with_all limits ds)) (sym kept) formed
