-- What a change of one document makes of a world.
use Rattle.peers.proofs.Common.{◌≡◌, ◌≢◌, ℕ, suc, ◌<◌, true, false, cond, List, [], ◌∷◌, length, slice_set, option_map}
use Rattle.peers.proofs.Common.{Option, Some, None, refl, sym, ap, subst, ◌∙◌, arith, IsDistinct, length-map}
use Rattle.peers.proofs.Common.{LimitTable, is_among, is_same, Answer, Fault, Memory, Document, Widget, Change, Does}
use Rattle.peers.proofs.Common.{refused, shape_fault, reading, Shape, ShapeFault, arguments_of, switches_of, texts_of}
use Rattle.peers.proofs.Common.{command, done, shaped, IsWellFormedDocument, window_names, changed, ap₂, Outcome}
use Rattle.peers.proofs.Common.{request_step, widget_of, words_of, on_found, on_home, on_widget, refuses, seat_step}
use Rattle.peers.proofs.Common.{IsAt, IsWellFormed, World, widget_at, all_windows, document_at, home, windows_of, Ok}
use Rattle.peers.proofs.Common.{Err, Result, IfErr, IsErrAnd, MatchResult}
use Rattle.peers.specs.declared.requests.Request.{Request}
use Rattle.peers.proofs.DoneLaws.{calling}
use Rattle.peers.proofs.MakesLaws.{changed-refuses}
use Rattle.peers.proofs.WindowLaws.{same-windows}
use Rattle.peers.proofs.WorldLaws.{all-at, all-changed, set-same, with_all}

-- ---- where a widget is found

pub home-is : (name : List ℕ) (documents : List Document) (place : ℕ) → home name documents ≡ Some place
    → (place < length documents) × (is_among name (window_names (document_at documents place)) ≡ true)
home-is name [] place found = absurd (let none : None ≡ Some place = found in cc)
home-is name (document ∷ documents) place found =
    elim (is_among name (window_names document)) as (λ b. is_among name (window_names document) ≡ b
    → cond b (Some 0) (option_map suc (home name documents)) ≡ Some place
    → (place < length (document ∷ documents))
    × (is_among name (window_names (document_at (document ∷ documents) place)) ≡ true)) [
      | true ↦ λ among here.
          let first : 0 ≡ place = let same : Some 0 ≡ Some place = here in cc in
          subst (λ at. (at < length (document ∷ documents))
          × (is_among name (window_names (document_at (document ∷ documents) at)) ≡ true)) first (
            omega arith,
            among,
          )
      | false ↦ λ _ there. later (home name documents) refl there (home-is name documents)
    ] refl found
  where
    later : (other : Option ℕ) → home name documents ≡ other → option_map suc other ≡ Some place
        → ((at : ℕ) → home name documents ≡ Some at → (at < length documents)
        × (is_among name (window_names (document_at documents at)) ≡ true))
        → (place < length (document ∷ documents))
        × (is_among name (window_names (document_at (document ∷ documents) place)) ≡ true)
    later None is there further = absurd (let none : None ≡ Some place = there in cc)
    later (Some at) is there further =
        let next : suc at ≡ place = let same : Some (suc at) ≡ Some place = there in cc in
        let rest = further at is in
        subst (λ at. (at < length (document ∷ documents))
        × (is_among name (window_names (document_at (document ∷ documents) at)) ≡ true)) next
        (omega (arith, rest.0), rest.1)

-- a command of the widget of a name is that of the widget at its seat
pub at-step : (world : World) (name : List ℕ) (words : List (List ℕ)) {place seat : ℕ} →
    IsAt name world.documents place seat → on_widget world name words ≡ seat_step world place seat words
at-step world name words {place} {seat} at =
    ap (on_home world name words) at.found
    ∙ ap (on_found world place (document_at world.documents place) words) at.named

-- a request that words of a shape make, of the widget of a name, does what the words do
pub request-step : (world : World) (name : List ℕ) (words : List (List ℕ)) (shape : Shape) (request : Request) {place : ℕ}
    → IsAt name world.documents place request.caller.seat → reading words ≡ Ok shape
    → request.caller.limits.now ≡ world.limits → texts_of request.switches.now ≡ switches_of shape words →
    request.position ≡ shape.arguments → words_of request ≡ arguments_of shape words
    → request_step world place shape.command request ≡ on_widget world name words
request-step world name words shape request {place} at read limits switches position arguments =
    let document = document_at world.documents place in let windows = all_windows world in
    let widget = widget_of document request in
    let made : LimitTable → List (List ℕ) → ℕ → List (List ℕ) → Outcome = λ limits switches position arguments.
    changed world place (done shape.command document (calling limits windows widget switches position arguments)) in
    ap (λ limits. made limits (texts_of request.switches.now) request.position (words_of request)) limits
    ∙ ap (λ switches. made world.limits switches request.position (words_of request)) switches
    ∙ ap₂ (made world.limits (switches_of shape words)) position arguments
    ∙ ap (λ found. changed world place (shaped world.limits windows document widget words found)) (sym read)
    ∙ sym (at-step world name words at)

-- words that are no command
pub bad-command : (limits : LimitTable) (windows : List (List ℕ)) (document : Document) (widget : Widget)
    (words : List (List ℕ)) (fault : ShapeFault)
    → reading words ≡ Err fault → command limits windows document widget words ≡ refused document (shape_fault fault)
bad-command limits windows document widget words fault is = ap (shaped limits windows document widget words) is

-- the shape of words, and its fault, by what is made of them
pub shape-kept : (found : Result Shape ShapeFault) (result : Result Shape Fault) (shape : Shape) →
    MatchResult found (λ x. result ≡ Ok x) (λ e. IsErrAnd result (λ made. made ≡ shape_fault e))
    → result ≡ Ok shape → found ≡ Ok shape
shape-kept (Ok x) result shape cases is =
    let same : x ≡ shape = let both : Ok x ≡ Ok shape = sym cases ∙ is in cc in
    ap Ok same
shape-kept (Err e) result shape cases is = absurd (subst (λ r. IsErrAnd r (λ made. made ≡ shape_fault e)) is cases)

pub shape-fault : (found : Result Shape ShapeFault) (result : Result Shape Fault) (fault : Fault) →
    MatchResult found (λ x. result ≡ Ok x) (λ e. IsErrAnd result (λ made. made ≡ shape_fault e))
    → result ≡ Err fault → (e : ShapeFault) × (found ≡ Err e) × (fault ≡ shape_fault e)
shape-fault (Ok x) result fault cases is = absurd (let h : Ok x ≡ Err fault = sym cases ∙ is in cc)
shape-fault (Err e) result fault cases is =
    (e, refl, subst (λ r. IsErrAnd r (λ made. made ≡ shape_fault e)) is cases)

-- words that are no command, of the widget of a name
pub refused-at : (world : World) (name : List ℕ) (words : List (List ℕ)) {place seat : ℕ} (fault : ShapeFault) →
    IsAt name world.documents place seat → reading words ≡ Err fault
    → on_widget world name words ≡ refuses world (shape_fault fault)
refused-at world name words {place} {seat} fault at is =
    let document = document_at world.documents place in
    at-step world name words at
    ∙ ap (changed world place) (bad-command world.limits (all_windows world) document (widget_at document seat) words
    fault is)
    ∙ changed-refuses world place (shape_fault fault)

-- ---- a command of one document

module _ (documents : List Document) (place : ℕ) {limits : LimitTable} {new : Document} {result : Result Answer Fault}
    {change : Change} (does : Does limits (document_at documents place) new result change) where
  pub does-world : result ≢ Err Memory → with_all limits (slice_set documents place new)
      ≡ (changed (with_all limits documents) place change).world
  does-world not = ap (λ document. with_all limits (slice_set documents place document)) (does.document not)

  pub does-refuse : IfErr result (λ _. with_all limits (slice_set documents place new) ≡ with_all limits documents)
  does-refuse = refuse result does.refused
    where
      refuse : (found : Result Answer Fault) → IfErr found (λ _. new ≡ document_at documents place)
          → IfErr found (λ _. with_all limits (slice_set documents place new) ≡ with_all limits documents)
      refuse (Ok answer) same = tt
      refuse (Err fault) same = ap (with_all limits) (ap (slice_set documents place) same ∙ set-same documents place)

  does-windows : windows_of (slice_set documents place new) ≡ windows_of documents
  does-windows = same-windows documents place new does.windows

  pub does-form : IsWellFormed (with_all limits documents) → place < length documents →
      IsWellFormed (with_all limits (slice_set documents place new))
  does-form formed within =
      let old = document_at documents place in
      let shown = all-at (λ (d : Document). 0 < length d.widgets) documents place formed.shown within in
      let few = ap length does.windows in
      let here = length-map new.widgets (λ (widget : Widget). widget.name) in
      let there = length-map old.widgets (λ (widget : Widget). widget.name) in
      record {
        limits = formed.limits;
        shown = all-changed (λ (d : Document). 0 < length d.widgets) documents place new formed.shown
            (omega (arith, shown, few, here, there));
        documents = all-changed (IsWellFormedDocument limits) documents place new formed.documents
            (does.well_formed (all-at (IsWellFormedDocument limits) documents place formed.documents within));
        widget_names = subst (IsDistinct is_same) (sym does-windows) formed.widget_names;
        widget_count = let count = ap length does-windows in omega (arith, count, formed.widget_count);
      }
