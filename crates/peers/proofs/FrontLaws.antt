-- A document among others, by those before it: as one of them changes, one is added, and some end.
use Rattle.peers.proofs.Common.{◌≡◌, ℕ, zero, suc, ◌<◌, ◌≤◌, ◌||◌, Bool, true, false, cond, not, List, [], ◌∷◌, Some}
use Rattle.peers.proofs.Common.{None, filter, length, map, take, option_map, refl, sym, ap, ◌∙◌, arith, subst}
use Rattle.peers.proofs.Common.{true≢false, ◌⊎◌, inl, inr, nat_lt, slice_set, if◌then◌else◌, AllByRecursion, lt-ltb}
use Rattle.peers.proofs.Common.{ltb-true, is_among, is_same, Document, Widget, window_names, is_kept, keeps_some}
use Rattle.peers.proofs.Common.{widget_named, without_widgets, among-append, has_widgets, document_at, home, windows_of}
use Rattle.peers.proofs.Common.{or_parts, or_right, get_or-set_other, get_or-set_same, bytes_eq-turned}
use Rattle.std.proofs.Common.{find}
use Rattle.peers.proofs.WorldLaws.{left-names}
use Rattle.documents.specs.Widgets as widgets

-- ---- a document is set

pub set-at : (documents : List Document) (place : ℕ) (new : Document) → place < length documents →
    document_at (slice_set documents place new) place ≡ new
set-at documents place new within = get_or-set_same documents place new widgets.bare_document within

pub set-other : (documents : List Document) (at place : ℕ) (new : Document) → (at ≡ place → ⊥)
    → document_at (slice_set documents at new) place ≡ document_at documents place
set-other documents at place new apart =
    get_or-set_other documents at place new widgets.bare_document (λ same. apart (sym same))

pub set-twice : (documents : List Document) (place : ℕ) (one other : Document)
    → slice_set (slice_set documents place one) place other ≡ slice_set documents place other
set-twice [] place one other = refl
set-twice (document ∷ documents) zero one other = refl
set-twice (document ∷ documents) (suc place) one other = ap (λ ds. document ∷ ds) (set-twice documents place one other)

-- what holds of those before a place holds yet, where it does of one that is set
pub front-changed : (Good : Document → Type 0) (documents : List Document) (place at : ℕ) (new : Document) →
    AllByRecursion Good (take place documents)
    → (at < place → Good (document_at documents at) → Good new) →
    AllByRecursion Good (take place (slice_set documents at new))
front-changed Good [] place at new all grow = all
front-changed Good (document ∷ documents) zero at new all grow = tt
front-changed Good (document ∷ documents) (suc place) zero new all grow = (grow (omega arith) all.0, all.1)
front-changed Good (document ∷ documents) (suc place) (suc at) new all grow =
    (all.0, front-changed Good documents place at new all.1 (λ less good. grow (omega (arith, less)) good))

-- ---- a name, and the first document that has it

pub home-first : (name : List ℕ) (documents : List Document) (place : ℕ) → place < length documents
    → AllByRecursion (λ (d : Document). is_among name (window_names d) ≡ false) (take place documents)
    → is_among name (window_names (document_at documents place)) ≡ true → home name documents ≡ Some place
home-first name [] place within none there = absurd (omega (arith, within))
home-first name (document ∷ documents) zero within none there =
    ap (λ b. if b then Some 0 else option_map suc (home name documents)) there
home-first name (document ∷ documents) (suc place) within none there =
    ap (λ b. if b then Some 0 else option_map suc (home name documents)) none.0
    ∙ ap (option_map suc) (home-first name documents place (omega (arith, within)) none.1 there)

pub home-same : (name : List ℕ) (documents : List Document) (place : ℕ) (new : Document) →
    window_names new ≡ window_names (document_at documents place)
    → home name (slice_set documents place new) ≡ home name documents
home-same name [] place new same = refl
home-same name (document ∷ documents) zero new same =
    ap (λ names. if is_among name names then Some 0 else option_map suc (home name documents)) same
home-same name (document ∷ documents) (suc place) new same =
    ap (λ found. if is_among name (window_names document) then Some 0
    else option_map suc found) (home-same name documents place new same)

-- the name of a widget that is found is one of the names
pub found-among : (name : List ℕ) (document : Document) (widget : Widget) → widget_named name document ≡ Some widget
    → is_among name (window_names document) ≡ true
found-among name document widget is = by document.widgets is
  where
    by : (widgets : List Widget) → find (λ (w : Widget). is_same w.name name) widgets ≡ Some widget
        → is_among name (map (λ (w : Widget). w.name) widgets) ≡ true
    by [] none = absurd (let h : None ≡ Some widget = none in cc)
    by (first ∷ widgets) there =
        elim (is_same first.name name) as
        (λ b. is_same first.name name ≡ b → cond b (Some first) (find (λ (w : Widget). is_same w.name name) widgets)
        ≡ Some widget
        → (is_same name first.name || is_among name (map (λ (w : Widget). w.name) widgets)) ≡ true) [
          | true ↦ λ same _. ap (λ b. b || is_among name (map (λ (w : Widget). w.name) widgets))
              (bytes_eq-turned name first.name ∙ same)
          | false ↦ λ _ later. or_right (is_same name first.name) (is_among name (map (λ (w : Widget). w.name) widgets))
              (by widgets later)
        ] refl there

-- ---- documents before another one

-- it has a widget, and none of a name that the other has too
pub record IsBefore (document before : Document) : Type 0 where
  pub shown : 0 < length before.widgets
  pub apart : (name : List ℕ) → is_among name (window_names document) ≡ true →
      is_among name (window_names before) ≡ false

-- names that none had are apart from all others
pub before-grown : (documents : List Document) (place : ℕ) (old new : Document)
    → ((name : List ℕ) → is_among name (window_names new) ≡ true →
    (is_among name (window_names old) ≡ true) ⊎ (is_among name (windows_of documents) ≡ false))
    → AllByRecursion (IsBefore old) (take place documents) → AllByRecursion (IsBefore new) (take place documents)
before-grown documents zero old new known all = tt
before-grown [] (suc place) old new known all = tt
before-grown (document ∷ documents) (suc place) old new known all =
    let split : (name : List ℕ) → is_among name (windows_of (document ∷ documents)) ≡ false
    → (is_among name (window_names document) ≡ false) × (is_among name (windows_of documents) ≡ false) = λ name none.
    or_parts (is_among name (window_names document)) (is_among name (windows_of documents))
    (sym (among-append name (window_names document) (windows_of documents)) ∙ none) in (
      record {
        shown = all.0.shown;
        apart = λ name there. elim (known name there) [
          | inl was ↦ all.0.apart name was
          | inr fresh ↦ (split name fresh).0
        ];
      },
      before-grown documents place old new (λ name there. elim (known name there) [
        | inl was ↦ inl was
        | inr fresh ↦ inr (split name fresh).1
      ]) all.1,
    )

-- no documents go where no names do
all-kept : (widgets : List Widget) → filter (is_kept []) widgets ≡ widgets
all-kept [] = refl
all-kept (widget ∷ widgets) = ap (λ ws. widget ∷ ws) (all-kept widgets)

keeps-shown : (document : Document) → 0 < length document.widgets → keeps_some [] document ≡ true
keeps-shown document shown = ap (λ (ws : List Widget). nat_lt 0 (length ws)) (all-kept document.widgets)
    ∙ lt-ltb 0 (length document.widgets) shown

pub front-stays : (document : Document) (documents : List Document) (place : ℕ) → place ≤ length documents
    → AllByRecursion (IsBefore document) (take place documents)
    → length (filter (keeps_some []) (take place documents)) ≡ place
front-stays document documents zero within all = refl
front-stays document [] (suc place) within all = absurd (omega (arith, within))
front-stays document (first ∷ documents) (suc place) within all =
    ap (λ b. length (cond b (first ∷ filter (keeps_some []) (take place documents))
    (filter (keeps_some []) (take place documents))))
    (keeps-shown first all.0.shown)
    ∙ ap suc (front-stays document documents place (omega (arith, within)) all.1)

-- ---- documents that end

module _ (names : List (List ℕ)) where
  abbrev thin : Document → Document
  thin = without_widgets names

  -- those that are left
  abbrev pub left : List Document → List Document
  left documents = filter has_widgets (map (without_widgets names) documents)

  pub left-at : (documents : List Document) (place : ℕ) → place < length documents →
      keeps_some names (document_at documents place) ≡ true
      → (length (filter (keeps_some names) (take place documents)) < length (left documents))
      × (document_at (left documents) (length (filter (keeps_some names) (take place documents)))
      ≡ without_widgets names (document_at documents place))
  left-at [] place within keeps = absurd (omega (arith, within))
  left-at (document ∷ documents) zero within keeps = (
    subst (λ b. 0 < length (cond b (thin document ∷ left documents) (left documents))) (sym keeps) (omega arith),
    ap (λ b. document_at (cond b (thin document ∷ left documents) (left documents)) 0) keeps,
  )
  left-at (document ∷ documents) (suc place) within keeps =
      let rest = left-at documents place (omega (arith, within)) keeps in
      let count = length (filter (keeps_some names) (take place documents)) in
      let less : count < length (left documents) = rest.0 in
      elim (has_widgets (thin document)) as (λ b.
      (length (cond b (document ∷ filter (keeps_some names) (take place documents))
      (filter (keeps_some names) (take place documents))) < length
      (cond b (thin document ∷ left documents) (left documents)))
      × (document_at (cond b (thin document ∷ left documents) (left documents))
      (length (cond b (document ∷ filter (keeps_some names) (take place documents))
      (filter (keeps_some names) (take place documents))))
      ≡ without_widgets names (document_at documents place))) [
        | true ↦ (omega (arith, less), rest.1)
        | false ↦ rest
      ]

  filtered-none : (name : List ℕ) (keeps : List ℕ → Bool) (all : List (List ℕ)) → is_among name all ≡ false →
      is_among name (filter keeps all) ≡ false
  filtered-none name keeps [] none = refl
  filtered-none name keeps (first ∷ all) none =
      let parts = or_parts (is_same name first) (is_among name all) none in
      let rest = filtered-none name keeps all parts.1 in
      elim (keeps first) as (λ b. is_among name (cond b (first ∷ filter keeps all) (filter keeps all)) ≡ false) [
        | true ↦ ap (λ b. b || is_among name (filter keeps all)) parts.0 ∙ rest
        | false ↦ rest
      ]

  pub left-among : (name : List ℕ) (document : Document) → is_among name (window_names (thin document)) ≡ true →
      is_among name (window_names document) ≡ true
  left-among name document there =
      elim (is_among name (window_names document)) as (λ b. is_among name (window_names document) ≡ b → b ≡ true) [
        | true ↦ λ _. refl
        | false ↦ λ none. absurd (true≢false (sym there ∙ ap (is_among name) (left-names names document)
            ∙ filtered-none name (λ n. not (is_among n names)) (window_names document) none))
      ] refl

  left-before : (document before : Document) → IsBefore document before → has_widgets (thin before) ≡ true →
      IsBefore (thin document) (thin before)
  left-before document before is stays = record {
    shown = ltb-true 0 (length (thin before).widgets) stays;
    apart = λ name there. ap (is_among name) (left-names names before)
        ∙ filtered-none name (λ n. not (is_among n names)) (window_names before)
        (is.apart name (left-among name document there));
  }

  pub left-front : (document : Document) (documents : List Document) (place : ℕ) →
      AllByRecursion (IsBefore document) (take place documents)
      → AllByRecursion (IsBefore (thin document))
      (take (length (filter (keeps_some names) (take place documents))) (left documents))
  left-front document documents zero all = tt
  left-front document [] (suc place) all = tt
  left-front document (first ∷ documents) (suc place) all =
      let rest = left-front document documents place all.1 in
      elim (has_widgets (thin first)) as (λ b. has_widgets (thin first) ≡ b → AllByRecursion (IsBefore (thin document))
      (take (length (cond b (first ∷ filter (keeps_some names) (take place documents))
      (filter (keeps_some names) (take place documents))))
      (cond b (thin first ∷ left documents) (left documents)))) [
        | true ↦ λ stays. (left-before document first all.0 stays, rest)
        | false ↦ λ _. rest
      ] refl
