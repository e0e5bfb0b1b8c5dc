-- The names of all widgets, as widgets come and go.
use Rattle.peers.proofs.Common.{◌≡◌, ℕ, zero, suc, ◌+◌, ◌<◌, ◌≤◌, Bool, true, false, cond, List, [], ◌∷◌, ◌++◌, length}
use Rattle.peers.proofs.Common.{map, take, filter, flat_map, slice_set, refl, sym, ap, ap₂, ◌∙◌, append_assoc}
use Rattle.peers.proofs.Common.{append-nil, arith, length-append, take_more, filter-append, flat_map-append}
use Rattle.peers.proofs.Common.{AllByRecursion, is_among, is_same, or_parts, subst, bytes_eq-turned, Document}
use Rattle.peers.proofs.Common.{bare_document, window_names, document_at, windows_of}
use Rattle.std.specs.List.{IsDistinct}

-- ---- a name more

-- a list with one name more, among the others
pub record HasMore (name : List ℕ) (old new : List (List ℕ)) : Type 0 where
  pub front : List (List ℕ)
  pub behind : List (List ℕ)
  pub was : old ≡ front ++ behind
  pub is : new ≡ front ++ name ∷ behind

all-more : (Good : List ℕ → Type 0) (front behind : List (List ℕ)) (name : List ℕ) →
    AllByRecursion Good (front ++ behind) → Good name → AllByRecursion Good (front ++ name ∷ behind)
all-more Good [] behind name all good = (good, all)
all-more Good (first ∷ front) behind name all good = (all.0, all-more Good front behind name all.1 good)

apart : (name : List ℕ) (names : List (List ℕ)) → is_among name names ≡ false →
    AllByRecursion (λ other. is_same name other ≡ false) names
apart name [] none = tt
apart name (first ∷ names) none =
    let parts = or_parts (is_same name first) (is_among name names) none in (parts.0, apart name names parts.1)

distinct-between : (front behind : List (List ℕ)) (name : List ℕ) → IsDistinct is_same (front ++ behind) →
    is_among name (front ++ behind) ≡ false → IsDistinct is_same (front ++ name ∷ behind)
unfolding IsDistinct
distinct-between [] behind name distinct none = (apart name behind none, distinct)
distinct-between (first ∷ front) behind name distinct none =
    let parts = or_parts (is_same name first) (is_among name (front ++ behind)) none in (
      all-more (λ other. is_same first other ≡ false) front behind name distinct.0
          (bytes_eq-turned first name ∙ parts.0),
      distinct-between front behind name distinct.1 parts.1,
    )

module _ {name : List ℕ} {old new : List (List ℕ)} (more : HasMore name old new) where
  pub distinct-more : IsDistinct is_same old → is_among name old ≡ false → IsDistinct is_same new
  distinct-more distinct none =
      subst (IsDistinct is_same) (sym more.is) (distinct-between more.front more.behind name
      (subst (IsDistinct is_same) more.was distinct) (ap (is_among name) (sym more.was) ∙ none))

  pub count-more : length new ≡ length old + 1
  count-more =
      omega (
        arith,
        ap length more.was,
        ap length more.is,
        length-append more.front more.behind,
        length-append more.front (name ∷ more.behind),
      )

-- a document more, of one widget
pub added-windows : (documents : List Document) (new : Document) (name : List ℕ) → window_names new ≡ name ∷ [] →
    HasMore name (windows_of documents) (windows_of (documents ++ new ∷ []))
added-windows documents new name is = record {
  front = windows_of documents;
  behind = [];
  was = sym (append-nil (windows_of documents));
  is = flat_map-append window_names documents (new ∷ []) ∙ ap (λ names. windows_of documents ++ (names ++ [])) is;
}

-- a widget more of the document at a place
pub peer-windows : (documents : List Document) (place : ℕ) (new : Document) (name : List ℕ) → place < length documents
    → window_names new ≡ window_names (document_at documents place) ++ name ∷ []
    → HasMore name (windows_of documents) (windows_of (slice_set documents place new))
peer-windows [] place new name within is = absurd (omega (arith, within))
peer-windows (document ∷ documents) zero new name within is = record {
  front = window_names document;
  behind = windows_of documents;
  was = refl;
  is = ap (λ names. names ++ windows_of documents) is
      ∙ append_assoc (window_names document) (name ∷ []) (windows_of documents);
}
peer-windows (document ∷ documents) (suc place) new name within is =
    let own = window_names document in
    let rest = peer-windows documents place new name (omega (arith, within)) is in
    record {
      front = own ++ rest.front;
      behind = rest.behind;
      was = ap (λ names. own ++ names) rest.was ∙ sym (append_assoc own rest.front rest.behind);
      is = ap (λ names. own ++ names) rest.is ∙ sym (append_assoc own rest.front (name ∷ rest.behind));
    }

-- a document that keeps its widgets
pub same-windows : (documents : List Document) (place : ℕ) (new : Document) →
    window_names new ≡ window_names (document_at documents place)
    → windows_of (slice_set documents place new) ≡ windows_of documents
same-windows [] place new same = refl
same-windows (document ∷ documents) zero new same = ap (λ names. names ++ windows_of documents) same
same-windows (document ∷ documents) (suc place) new same =
    ap (λ names. window_names document ++ names) (same-windows documents place new same)

-- ---- how many they are

-- the widgets of the first documents are no more than all
pub front-windows : (count : ℕ) (documents : List Document) →
    length (windows_of (take count documents)) ≤ length (windows_of documents)
front-windows zero documents = omega arith
front-windows (suc count) [] = omega arith
front-windows (suc count) (document ∷ documents) =
    omega (
      arith,
      front-windows count documents,
      length-append (window_names document) (windows_of (take count documents)),
      length-append (window_names document) (windows_of documents),
    )

pub next-windows : (count : ℕ) (documents : List Document) → count < length documents
    → length (windows_of (take (count + 1) documents))
    ≡ length (windows_of (take count documents)) + length (window_names (document_at documents count))
next-windows count documents within =
    let front = take count documents in let next = document_at documents count in
    ap (λ ds. length (windows_of ds)) (take_more documents count bare_document within)
    ∙ ap length (flat_map-append window_names front (next ∷ []))
    ∙ length-append (windows_of front) (window_names next ++ [])
    ∙ ap (λ names. length (windows_of front) + length names) (append-nil (window_names next))

-- ---- widgets that go

pub all-kept : {A : Type 0} (Good : A → Type 0) (keeps : A → Bool) (xs : List A) → AllByRecursion Good xs →
    AllByRecursion Good (filter keeps xs)
all-kept Good keeps [] all = tt
all-kept Good keeps (x ∷ xs) all =
    elim (keeps x) as (λ b. AllByRecursion Good (cond b (x ∷ filter keeps xs) (filter keeps xs))) [
      | false ↦ all-kept Good keeps xs all.1
      | true ↦ (all.0, all-kept Good keeps xs all.1)
    ]

pub distinct-kept : (keeps : List ℕ → Bool) (names : List (List ℕ)) → IsDistinct is_same names →
    IsDistinct is_same (filter keeps names)
unfolding IsDistinct
distinct-kept keeps [] distinct = tt
distinct-kept keeps (first ∷ names) distinct =
    elim (keeps first) as (λ b. IsDistinct is_same (cond b (first ∷ filter keeps names) (filter keeps names))) [
      | false ↦ distinct-kept keeps names distinct.1
      | true ↦ (
        all-kept (λ other. is_same first other ≡ false) keeps names distinct.0,
        distinct-kept keeps names distinct.1,
      )
    ]

-- documents that are left, each with the widgets that are kept
pub names-left : {D : Type 0} (names : D → List (List ℕ)) (thin : D → D) (has : D → Bool) (keeps : List ℕ → Bool)
    → ((d : D) → names (thin d) ≡ filter keeps (names d)) → ((d : D) → has d ≡ false → names d ≡ [])
    → (ds : List D) → flat_map names (filter has (map thin ds)) ≡ filter keeps (flat_map names ds)
names-left names thin has keeps left none [] = refl
names-left names thin has keeps left none (d ∷ ds) =
    let rest = names-left names thin has keeps left none ds in
    elim (has (thin d)) as (λ b. has (thin d) ≡ b →
    flat_map names (cond b (thin d ∷ filter has (map thin ds)) (filter has (map thin ds)))
    ≡ filter keeps (names d ++ flat_map names ds)) [
      | false ↦ λ gone. rest ∙ ap (λ xs. xs ++ filter keeps (flat_map names ds)) (sym (none (thin d) gone) ∙ left d)
          ∙ sym (filter-append keeps (names d) (flat_map names ds))
      | true ↦ λ stays. ap₂ (λ xs ys. xs ++ ys) (left d) rest ∙ sym (filter-append keeps (names d) (flat_map names ds))
    ] refl

-- what is filtered twice
pub filter-twice : {A : Type 0} (keeps : A → Bool) (xs : List A) → filter keeps (filter keeps xs) ≡ filter keeps xs
filter-twice keeps [] = refl
filter-twice keeps (x ∷ xs) =
    elim (keeps x) as (λ b. keeps x ≡ b → filter keeps (cond b (x ∷ filter keeps xs) (filter keeps xs))
    ≡ cond b (x ∷ filter keeps xs) (filter keeps xs)) [
      | false ↦ λ gone. filter-twice keeps xs
      | true ↦ λ kept. ap (λ b. cond b (x ∷ filter keeps (filter keeps xs)) (filter keeps (filter keeps xs))) kept
          ∙ ap (λ ys. x ∷ ys) (filter-twice keeps xs)
    ] refl

-- those that are changed are those that stay
pub filter-changed : {A : Type 0} (keeps has : A → Bool) (one other : A → A) →
    ((x : A) → keeps (one x) ≡ has (other x)) → ((x : A) → has (other x) ≡ true → one x ≡ other x)
    → (xs : List A) → filter keeps (map one xs) ≡ filter has (map other xs)
filter-changed keeps has one other same alike [] = refl
filter-changed keeps has one other same alike (x ∷ xs) =
    let rest = filter-changed keeps has one other same alike xs in
    ap (λ b. cond b (one x ∷ filter keeps (map one xs)) (filter keeps (map one xs))) (same x)
    ∙ elim (has (other x)) as (λ b. has (other x) ≡ b →
    cond b (one x ∷ filter keeps (map one xs)) (filter keeps (map one xs))
    ≡ cond b (other x ∷ filter has (map other xs)) (filter has (map other xs))) [
      | false ↦ λ _. rest
      | true ↦ λ stays. ap₂ (λ y ys. y ∷ ys) (alike x stays) rest
    ] refl
