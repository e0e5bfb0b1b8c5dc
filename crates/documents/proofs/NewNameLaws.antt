-- The names of the widgets that a document has after a command.
use Rattle.documents.proofs.Common.{◌≡◌, ℕ, ◌<◌, ◌||◌, Bool, true, false, List, [], ◌∷◌, ◌++◌, length, refl, sym, ap}
use Rattle.documents.proofs.Common.{◌∙◌, arith, ◌⊎◌, inl, inr, length-append, length-map, map-append, bytes_eq-Decides}
use Rattle.documents.proofs.Common.{LimitTable, Settings, is_among, is_same, Document, Widget, is_window_name}
use Rattle.documents.proofs.Common.{window_names, new_widget, with_peer}
use Rattle.documents.proofs.CarriedLaws.{carried-quiet, carried-tagged, carried-marked, IsCarried}
use Rattle.documents.proofs.NamesKeptLaws.{names-edited, widget-changed, HasNamesOf}
use mathlib.Core.Bool.{or_assoc}

pub among-append : (name : List ℕ) (names others : List (List ℕ)) →
    is_among name (names ++ others) ≡ (is_among name names || is_among name others)
among-append name [] others = refl
among-append name (first ∷ names) others =
    ap (λ b. is_same name first || b) (among-append name names others)
    ∙ sym (or_assoc (is_same name first) (is_among name names) (is_among name others))

-- each widget is one from before, or a window with a name that none had, and there are no fewer
pub record AreNamed (windows : List (List ℕ)) (old new : Document) : Type 0 where
  pub known : (name : List ℕ) → is_among name (window_names new) ≡ true
      → (is_among name (window_names old) ≡ true) ⊎ ((is_window_name name ≡ true) × (is_among name windows ≡ false))
  pub some : 0 < length old.widgets → 0 < length new.widgets

pub named-same : (windows : List (List ℕ)) (old new : Document) → HasNamesOf old new → AreNamed windows old new
named-same windows old new same = record {
  known = λ name there. inl (ap (is_among name) (sym same) ∙ there);
  some = λ some.
      let count = ap length same in
      let olds = length-map old.widgets (λ (widget : Widget). widget.name) in
      let news = length-map new.widgets (λ (widget : Widget). widget.name) in
      omega (arith, some, count, olds, news);
}

pub named-carried : (limits : LimitTable) (windows : List (List ℕ)) (document : Document) (widget : Widget)
    → IsCarried limits document widget (AreNamed windows document)
named-carried limits windows document widget =
    let P : Document → Type 0 = AreNamed windows document in
    let kept : (new : Document) → HasNamesOf document new → P new = named-same windows document in
    let edited = names-edited limits document widget in
    record {
      quiet = carried-quiet P limits document widget (kept document refl) (λ tags. kept _ refl) (λ modified. kept _ refl)
          (kept _ refl);
      tagged = carried-tagged P limits document widget (kept document refl) (λ tags cells _. kept _ refl);
      marked = carried-marked P limits document widget (kept document refl)
          (λ place. kept _ (widget-changed document widget (λ (other : Widget). record other { insert = place })
          (λ other. refl)))
          (λ place. kept _ (widget-changed document widget (λ (other : Widget). record other { current = place })
          (λ other. refl)))
          (λ marks. kept _ refl);
      edited = record {
        inserted = λ place pairs busy. kept _ (edited.inserted place pairs busy);
        replaced = λ from to pairs busy ordered. kept _ (edited.replaced from to pairs busy ordered);
        deleted = λ places busy within. kept _ (edited.deleted places busy within);
        grouped = λ back. kept _ (edited.grouped back);
      };
    }

-- ---- one widget more

either : (b c : Bool) → (b || (c || false)) ≡ true → (b ≡ true) ⊎ (c ≡ true)
either true c is = inl refl
either false true is = inr refl
either false false is = absurd (let h : false ≡ true = is in cc)

pub named-peer : (windows : List (List ℕ)) (document : Document) (name : List ℕ) (settings : Settings) →
    is_window_name name ≡ true
    → is_among name windows ≡ false
    → AreNamed windows document (with_peer name settings document)
named-peer windows document name settings is new =
    let widget = new_widget document name settings in
    let names : window_names (with_peer name settings document) ≡ window_names document ++ name ∷ [] =
    map-append (λ (w : Widget). w.name) document.widgets (widget ∷ []) in
    record {
      known = λ other there.
          elim (either (is_among other (window_names document)) (is_same other name)
          (sym (among-append other (window_names document) (name ∷ []))
          ∙ ap (is_among other) (sym names) ∙ there)) [
            | inl was ↦ inl was
            | inr same ↦
                let be : other ≡ name = (bytes_eq-Decides other name).0 same in
                inr (ap is_window_name be ∙ is, ap (λ n. is_among n windows) be ∙ new)
          ];
      some = λ some. omega (arith, length-append document.widgets (widget ∷ []));
    }
