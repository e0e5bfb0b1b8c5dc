-- Where the widget of a name is, and a list of where all are.
use Rattle.peers.proofs.Common.{◌≡◌, ℕ, suc, ◌+◌, ◌<◌, true, false, List, [], ◌∷◌, ◌++◌, length, map, take, get_or}
use Rattle.peers.proofs.Common.{option_map, is_some, Option, Some, None, if◌then◌else◌, refl, sym, ap, ap₂, ◌∙◌, subst}
use Rattle.peers.proofs.Common.{append_assoc, append-nil, arith, ◌||◌, map-append, length-take-le, take_more, take-map}
use Rattle.peers.proofs.Common.{AllByRecursion, IfSome, String, chars, string_bytes, among-append, is_among, Document}
use Rattle.peers.proofs.Common.{Widget, no_widget, widget_at, bare_document, window_names, Homes, home_kept, homes_at}
use Rattle.peers.proofs.Common.{homes_from, homes_of, IsAt, document_at, home, windows_of}
use Rattle.peers.proofs.WorldLaws.{all-added, read-is}

-- ---- among documents

-- no widget of a document has the name
abbrev pub IsWithout : List ℕ → Document → Type 0
IsWithout name document = is_among name (window_names document) ≡ false

pub without-next : (name : List ℕ) (documents : List Document) (place : ℕ) (document : Document) →
    place < length documents → document ≡ get_or documents place document → IsWithout name document
    → AllByRecursion (IsWithout name) (take place documents)
    → AllByRecursion (IsWithout name) (take (place + 1) documents)
without-next name documents place document within is none all =
    subst (AllByRecursion (IsWithout name)) (sym (take_more documents place bare_document within))
    (all-added (IsWithout name) (take place documents) (document_at documents place) all
    (subst (IsWithout name) (read-is documents place document within is) none))

pub home-none : (name : List ℕ) (documents : List Document) → AllByRecursion (IsWithout name) documents →
    home name documents ≡ None
home-none name [] all = refl
home-none name (document ∷ documents) all =
    ap (λ b. if b then Some 0 else option_map suc (home name documents)) all.0
    ∙ ap (option_map suc) (home-none name documents all.1)

home-among : (name : List ℕ) (documents : List Document) →
    is_some (home name documents) ≡ is_among name (windows_of documents)
home-among name [] = refl
home-among name (document ∷ documents) =
    elim (is_among name (window_names document)) as (λ b.
    is_some (if b then Some 0 else option_map suc (home name documents)) ≡ (b || is_among name (windows_of documents))) [
      | false ↦ onward (home name documents) ∙ home-among name documents
      | true ↦ refl
    ] ∙ sym (among-append name (window_names document) (windows_of documents))
  where
    onward : (found : Option ℕ) → is_some (option_map suc found) ≡ is_some found
    onward None = refl
    onward (Some place) = refl

-- a name is found where a widget has it
pub find-among : (name : List ℕ) (documents : List Document) (found : Option (ℕ × ℕ)) →
    (found ≡ None → home name documents ≡ None) → IfSome found (λ at. IsAt name documents at.0 at.1)
    → is_some found ≡ is_among name (windows_of documents)
find-among name documents None none some = sym (ap is_some (none refl)) ∙ home-among name documents
find-among name documents (Some at) none some = sym (ap is_some some.found) ∙ home-among name documents

-- ---- a list of all widgets

-- the names of a document's first widgets, with the next one
names-next : (document : Document) (seat : ℕ) → seat < length document.widgets
    → take (seat + 1) (window_names document)
    ≡ take seat (window_names document) ++ (widget_at document seat).name ∷ []
names-next document seat within =
    let name_of : Widget → List ℕ = λ widget. widget.name in
    take-map name_of (seat + 1) document.widgets
    ∙ ap (map name_of) (take_more document.widgets seat no_widget within)
    ∙ map-append name_of (take seat document.widgets) (widget_at document seat ∷ [])
    ∙ ap (λ names. names ++ (widget_at document seat).name ∷ []) (sym (take-map name_of seat document.widgets))

-- a list with the first widgets of a document, and one with the next one
pub homes-next : {Z : Type 0} (entries new : List (String Z × ℕ)) (name : String Z) (place seat : ℕ)
    (document : Document) (front : Homes) → seat < length document.widgets
    → chars (string_bytes name) ≡ (widget_at document seat).name → new ≡ entries ++ (name, place) ∷ []
    → map home_kept entries ≡ front ++ homes_at place (take seat (window_names document))
    → map home_kept new ≡ front ++ homes_at place (take (seat + 1) (window_names document))
homes-next entries new name place seat document front within spelled made before =
    let names = take seat (window_names document) in let last = (widget_at document seat).name in
    ap (map home_kept) made ∙ map-append home_kept entries ((name, place) ∷ [])
    ∙ ap₂ (λ homes text. homes ++ (text, place) ∷ []) before spelled
    ∙ append_assoc front (homes_at place names) ((last, place) ∷ [])
    ∙ ap (λ homes. front ++ homes) (sym (map-append (λ text. (text, place)) names (last ∷ []))
    ∙ ap (homes_at place) (sym (names-next document seat within)))

homes-added : (place : ℕ) (documents : List Document) (new : Document)
    → homes_from place (map window_names (documents ++ new ∷ []))
    ≡ homes_from place (map window_names documents) ++ homes_at (place + length documents) (window_names new)
homes-added place [] new =
    append-nil (homes_at place (window_names new))
    ∙ (let same : place ≡ place + 0 = omega arith in ap (λ at. homes_at at (window_names new)) same)
homes-added place (document ∷ documents) new =
    let own = homes_at place (window_names document) in
    let others = homes_from (suc place) (map window_names documents) in
    ap (λ homes. own ++ homes) (homes-added (suc place) documents new)
    ∙ sym (append_assoc own others (homes_at (suc place + length documents) (window_names new)))
    ∙ (let same : suc place + length documents ≡ place + suc (length documents) = omega arith in
    ap (λ at. (own ++ others) ++ homes_at at (window_names new)) same)

-- the widgets of the first documents, with those of the next one
pub homes-more : (documents : List Document) (place : ℕ) (document : Document) (homes new : Homes) →
    place < length documents → document ≡ get_or documents place document → homes ≡ homes_of (take place documents)
    → new ≡ homes ++ homes_at place (window_names document) → new ≡ homes_of (take (place + 1) documents)
homes-more documents place document homes new within is before made =
    let front = take place documents in let next = document_at documents place in
    let here : place ≡ 0 + length front = omega (arith, length-take-le place documents (omega (arith, within))) in
    made ∙ ap₂ (λ hs (d : Document). hs ++ homes_at place (window_names d)) before
    (read-is documents place document within is)
    ∙ ap (λ at. homes_of front ++ homes_at at (window_names next)) here ∙ sym (homes-added 0 front next)
    ∙ ap homes_of (sym (take_more documents place bare_document within))
