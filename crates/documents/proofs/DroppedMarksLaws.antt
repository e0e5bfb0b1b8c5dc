-- Marks that go with their widgets: how they are listed, and that these are all that a document loses.
use Rattle.documents.proofs.Common.{◌≡◌, ◌≢◌, ℕ, ◌+◌, Bool, true, false, not, List, [], ◌∷◌, ◌++◌, Option, None, Some}
use Rattle.documents.proofs.Common.{refl, sym, ap, ◌∙◌, subst, true≢false, map, take, filter, find, cond, option_map}
use Rattle.documents.proofs.Common.{slice_get, none-some, append_assoc, map-append, filter-in, filter-out}
use Rattle.documents.proofs.Common.{if◌then◌else◌, All, All-cons, All-nil, All-head, All-tail, AllByRecursion}
use Rattle.documents.proofs.Common.{LimitTable, Place, is_same, is_among, Document, Widget, IsWellFormedDocument}
use Rattle.documents.proofs.Common.{window_names, is_kept, AreSingle, TellsMarks, mark_at, mark_carried, own_keys}
use Rattle.documents.proofs.Common.{MarkChange, MarkKey, without_widgets, IsMarkChange, carried_all, gone}
use Rattle.documents.proofs.Common.{marks_dropped, flat_map-append, same-word, words-are, All-map}
use Rattle.documents.proofs.MarkReportLaws.{AreApartFrom, AreOthersThan, all-mapped, apart-current, by-kind}
use Rattle.documents.proofs.MarkReportLaws.{current-apart, current_key, insert-apart, insert_key, own_listed, own_of}
use Rattle.std.specs.List.{IsDistinct}

-- ---- a list of them, name by name

-- of some names those that go
abbrev pub going : List (List ℕ) → List (List ℕ) → List (List ℕ)
going names own = filter (λ name. is_among name names) own

pub dropped-more : (document : Document) (names own : List (List ℕ)) (at : ℕ) (name : List ℕ)
    (first marks more : List MarkChange) → slice_get own at ≡ Some name → is_among name names ≡ true
    → marks ≡ first ++ map (gone document) (own_listed (going names (take at own)))
    → more ≡ marks ++ map (gone document) (own_keys name)
    → more ≡ first ++ map (gone document) (own_listed (going names (take (at + 1) own)))
dropped-more document names own at name first marks more is goes before after =
    let g : MarkKey → MarkChange = gone document in
    let some = going names (take at own) in
    let next : going names (take (at + 1) own) ≡ some ++ name ∷ [] =
    filter-in (λ n. is_among n names) own at name is goes in
    after ∙ ap (λ ms. ms ++ map g (own_keys name)) before
    ∙ append_assoc first (map g (own_listed some)) (map g (own_keys name))
    ∙ ap (λ ms. first ++ ms) (sym (map-append g (own_listed some) (own_keys name))
    ∙ ap (map g) (sym (flat_map-append own_keys some (name ∷ [])) ∙ ap own_listed (sym next)))

pub dropped-past : (document : Document) (names own : List (List ℕ)) (at : ℕ) (name : List ℕ)
    (first marks : List MarkChange) → slice_get own at ≡ Some name → is_among name names ≡ false
    → marks ≡ first ++ map (gone document) (own_listed (going names (take at own)))
    → marks ≡ first ++ map (gone document) (own_listed (going names (take (at + 1) own)))
dropped-past document names own at name first marks is stays before =
    let same : going names (take (at + 1) own) ≡ going names (take at own) =
    filter-out (λ n. is_among n names) own at name is stays in
    before ∙ ap (λ ns. first ++ map (gone document) (own_listed ns)) (sym same)

-- ---- each mark is listed once

others-going : (names own : List (List ℕ)) (name : List ℕ) → AreOthersThan name own → AreOthersThan name (going names own)
others-going names [] name apart = tt
others-going names (other ∷ own) name apart =
    let rest = others-going names own name apart.1 in
    elim (is_among other names) as (λ b. AreOthersThan name (cond b (other ∷ going names own) (going names own)))
    [ true ↦ (apart.0, rest) | false ↦ rest ]

single-gone : (document : Document) (names own : List (List ℕ)) → IsDistinct is_same own →
    AreSingle (map (gone document) (own_listed (going names own)))
unfolding IsDistinct
single-gone document names [] distinct = tt
single-gone document names (name ∷ own) distinct =
    let rest = single-gone document names own distinct.1 in
    let apart = others-going names own name distinct.0 in
    let keys = own_listed (going names own) in
    elim (is_among name names) as (λ b. AreSingle (map (gone document) (own_listed (cond b (name ∷ going names own)
    (going names own))))) [
      | true ↦ (
        All-map (λ (mark : MarkChange). mark.key ≢ insert_key name) (gone document) (current_key name ∷ keys)
            (All-cons (λ (o : MarkKey). o ≢ insert_key name) (current_key name) keys (apart-current name name)
            (insert-apart name (going names own) apart)),
        (
          All-map (λ (mark : MarkChange). mark.key ≢ current_key name) (gone document) keys
              (current-apart name (going names own) apart),
          rest,
        ),
      )
      | false ↦ rest
    ]

-- ---- widgets that are found, before and after

abbrev left_of : List (List ℕ) → List Widget → List Widget
left_of names widgets = filter (is_kept names) widgets

-- one that goes isn't found after it
found-none : (get : Widget → Place) (names : List (List ℕ)) (name : List ℕ) (widgets : List Widget) →
    is_among name names ≡ true → own_of get name (left_of names widgets) ≡ None
found-none get names name [] goes = refl
found-none get names name (widget ∷ widgets) goes =
    let rest = found-none get names name widgets goes in
    elim (is_among widget.name names) as (λ b. is_among widget.name names ≡ b →
    own_of get name (cond (not b) (widget ∷ left_of names widgets) (left_of names widgets)) ≡ None) [
      | true ↦ λ _. rest
      | false ↦ λ stays. elim (is_same widget.name name) as (λ b. is_same widget.name name ≡ b →
          option_map get (if b then Some widget
          else find (λ (w : Widget). is_same w.name name) (left_of names widgets)) ≡ None) [
            | true ↦ λ same. absurd (true≢false (sym goes
                ∙ ap (λ n. is_among n names) (sym (words-are widget.name name same)) ∙ stays))
            | false ↦ λ _. rest
          ] refl
    ] refl

-- any other is
found-same : (get : Widget → Place) (names : List (List ℕ)) (name : List ℕ) (widgets : List Widget) →
    is_among name names ≡ false → own_of get name (left_of names widgets) ≡ own_of get name widgets
found-same get names name [] stays = refl
found-same get names name (widget ∷ widgets) stays =
    let rest = found-same get names name widgets stays in
    let at : Bool → List Widget → Option Place = λ b ws. option_map get (if b then Some widget
    else find (λ (w : Widget). is_same w.name name) ws) in
    elim (is_among widget.name names) as (λ b. is_among widget.name names ≡ b →
    own_of get name (cond (not b) (widget ∷ left_of names widgets) (left_of names widgets))
    ≡ at (is_same widget.name name) widgets) [
      | true ↦ λ goes. elim (is_same widget.name name) as (λ b. is_same widget.name name ≡ b →
          own_of get name (left_of names widgets) ≡ at b widgets) [
            | true ↦ λ same. absurd (true≢false (sym goes
                ∙ ap (λ n. is_among n names) (words-are widget.name name same) ∙ stays))
            | false ↦ λ _. rest
          ] refl
      | false ↦ λ _. elim (is_same widget.name name) as (λ b. at b (left_of names widgets) ≡ at b widgets)
          [ true ↦ refl | false ↦ rest ]
    ] refl

abbrev names_in : List Widget → List (List ℕ)
names_in widgets = map (λ (widget : Widget). widget.name) widgets

-- one that goes and isn't listed isn't there
found-unlisted : (get : Widget → Place) (key : List ℕ → MarkKey) (names : List (List ℕ)) (name : List ℕ)
    (widgets : List Widget) → is_among name names ≡ true
    → ((other : List ℕ) (keys : List MarkKey) → AreApartFrom (key name) (insert_key other ∷ current_key other ∷ keys) →
    key other ≢ key name)
    → AreApartFrom (key name) (own_listed (going names (names_in widgets))) → own_of get name widgets ≡ None
found-unlisted get key names name [] goes first apart = refl
found-unlisted get key names name (widget ∷ widgets) goes first apart =
    let others = own_listed (going names (names_in widgets)) in
    let P : MarkKey → Type 0 = λ (o : MarkKey). o ≢ key name in
    let tail : AreApartFrom (key name) others =
    elim (is_among widget.name names) as (λ b. AreApartFrom (key name) (own_listed (cond b
    (widget.name ∷ going names (names_in widgets)) (going names (names_in widgets)))) → AreApartFrom (key name) others) [
      | true ↦ λ all. All-tail P (current_key widget.name) others
          (All-tail P (insert_key widget.name) (current_key widget.name ∷ others) all)
      | false ↦ λ all. all
    ] apart in
    elim (is_same widget.name name) as (λ b. is_same widget.name name ≡ b →
    option_map get (if b then Some widget else find (λ (w : Widget). is_same w.name name) widgets) ≡ None) [
      | true ↦ λ same.
          let named : widget.name ≡ name = words-are widget.name name same in
          let listed : is_among widget.name names ≡ true = ap (λ n. is_among n names) named ∙ goes in
          absurd (first widget.name others (subst (λ b. AreApartFrom (key name) (own_listed (cond b
          (widget.name ∷ going names (names_in widgets)) (going names (names_in widgets))))) listed apart) (ap key named))
      | false ↦ λ _. found-unlisted get key names name widgets goes first tail
    ] refl

-- one that is listed is there
abbrev IsThere : (Widget → Place) → List Widget → List ℕ → Type 0
IsThere get widgets name = own_of get name widgets ≢ None

there-first : (get : Widget → Place) (widget : Widget) (widgets : List Widget) → IsThere get (widget ∷ widgets) widget.name
there-first get widget widgets none =
    none-some (get widget) (sym none ∙ ap (λ b. option_map get (if b then Some widget
    else find (λ (w : Widget). is_same w.name widget.name) widgets)) (same-word widget.name))

there-later : (get : Widget → Place) (widget : Widget) (widgets : List Widget) (name : List ℕ) →
    IsThere get widgets name → IsThere get (widget ∷ widgets) name
there-later get widget widgets name there =
    elim (is_same widget.name name) as (λ b. option_map get (if b then Some widget
    else find (λ (w : Widget). is_same w.name name) widgets) ≢ None) [
      | true ↦ λ none. none-some (get widget) (sym none)
      | false ↦ there
    ]

all-later : (get : Widget → Place) (widget : Widget) (widgets : List Widget) (names : List (List ℕ)) →
    AllByRecursion (IsThere get widgets) names → AllByRecursion (IsThere get (widget ∷ widgets)) names
all-later get widget widgets [] all = tt
all-later get widget widgets (name ∷ names) all =
    (there-later get widget widgets name all.0, all-later get widget widgets names all.1)

all-there : (get : Widget → Place) (names : List (List ℕ)) (widgets : List Widget) →
    AllByRecursion (IsThere get widgets) (going names (names_in widgets))
all-there get names [] = tt
all-there get names (widget ∷ widgets) =
    let later = all-later get widget widgets (going names (names_in widgets)) (all-there get names widgets) in
    elim (is_among widget.name names) as (λ b. AllByRecursion (IsThere get (widget ∷ widgets))
    (cond b (widget.name ∷ going names (names_in widgets)) (going names (names_in widgets))))
    [ true ↦ (there-first get widget widgets, later) | false ↦ later ]

all-going : (names own : List (List ℕ)) →
    AllByRecursion (λ name. is_among name names ≡ true) (going names own)
all-going names [] = tt
all-going names (name ∷ own) =
    let rest = all-going names own in
    elim (is_among name names) as (λ b. is_among name names ≡ b →
    AllByRecursion (λ name. is_among name names ≡ true) (cond b (name ∷ going names own) (going names own)))
    [ true ↦ λ is. (is, rest) | false ↦ λ _. rest ] refl

-- ---- what a document loses with widgets

carried-none : (document : Document) (key : MarkKey) → mark_carried [] document key ≡ mark_at document key
carried-none document key =
    elim (mark_at document key) as (λ o. option_map (carried_all []) o ≡ o) [ None ↦ refl | Some place ↦ refl ]

module _ (names : List (List ℕ)) (document : Document) where
  gone-change : (key : MarkKey) → mark_at (without_widgets names document) key ≡ None → mark_at document key ≢ None →
      IsMarkChange [] document (without_widgets names document) (gone document key)
  gone-change key none there = record {
    before = refl;
    after = sym none;
    differs = λ same. there (sym (carried-none document key) ∙ sym same ∙ none);
  }

  all-gone : (own : List (List ℕ)) → AllByRecursion (λ name. is_among name names ≡ true) own
      → AllByRecursion (IsThere (λ (w : Widget). w.insert) document.widgets) own
      → AllByRecursion (IsThere (λ (w : Widget). w.current) document.widgets) own
      → All (IsMarkChange [] document (without_widgets names document)) (map (gone document) (own_listed own))
  all-gone [] goes inserts currents = All-nil (IsMarkChange [] document (without_widgets names document))
  all-gone (name ∷ own) goes inserts currents =
      let P : MarkChange → Type 0 = IsMarkChange [] document (without_widgets names document) in
      let rest = all-gone own goes.1 inserts.1 currents.1 in
      let others = map (gone document) (own_listed own) in
      All-cons P (gone document (insert_key name)) (gone document (current_key name) ∷ others)
      (gone-change (insert_key name) (found-none (λ (w : Widget). w.insert) names name document.widgets goes.0)
      inserts.0)
      (All-cons P (gone document (current_key name)) others
      (gone-change (current_key name) (found-none (λ (w : Widget). w.current) names name document.widgets goes.0)
      currents.0) rest)

  -- a mark that isn't listed is where it was
  kept-mark : (get : Widget → Place) (key : List ℕ → MarkKey) (name : List ℕ)
      → ((other : List ℕ) (keys : List MarkKey) → AreApartFrom (key name) (insert_key other ∷ current_key other ∷ keys) →
      key other ≢ key name)
      → AreApartFrom (key name) (own_listed (going names (window_names document)))
      → own_of get name (left_of names document.widgets) ≡ own_of get name document.widgets
  kept-mark get key name first apart =
      elim (is_among name names) as (λ b. is_among name names ≡ b →
      own_of get name (left_of names document.widgets) ≡ own_of get name document.widgets) [
        | true ↦ λ goes. found-none get names name document.widgets goes
            ∙ sym (found-unlisted get key names name document.widgets goes first apart)
        | false ↦ λ stays. found-same get names name document.widgets stays
      ] refl

  kept-others : (key : MarkKey) → AreApartFrom key (own_listed (going names (window_names document))) →
      mark_at (without_widgets names document) key ≡ mark_at document key
  kept-others =
      by-kind (λ key. AreApartFrom key (own_listed (going names (window_names document)))
      → mark_at (without_widgets names document) key ≡ mark_at document key)
      (λ name. kept-mark (λ (w : Widget). w.insert) insert_key name (λ other keys all.
      All-head (λ (o : MarkKey). o ≢ insert_key name) (insert_key other) (current_key other ∷ keys) all))
      (λ name. kept-mark (λ (w : Widget). w.current) current_key name (λ other keys all.
      All-head (λ (o : MarkKey). o ≢ current_key name) (current_key other) keys
      (All-tail (λ (o : MarkKey). o ≢ current_key name) (insert_key other) (current_key other ∷ keys) all)))
      (λ name _. refl)

  -- the marks of the widgets of some names are those that a document loses with these
  pub dropped-tells : (limits : LimitTable) → IsWellFormedDocument limits document →
      TellsMarks [] document (without_widgets names document) (marks_dropped names document)
  dropped-tells limits formed = record {
    each = all-gone (going names (window_names document)) (all-going names (window_names document))
        (all-there (λ (w : Widget). w.insert) names document.widgets)
        (all-there (λ (w : Widget). w.current) names document.widgets);
    single = single-gone document names (window_names document) formed.widget_names;
    others = λ key others. kept-others key
        (all-mapped (λ (mark : MarkChange). mark.key ≢ key) (gone document)
        (own_listed (going names (window_names document))) others)
        ∙ sym (carried-none document key);
  }
