-- Which marks a command may displace: lists of marks, and what is set of a document's marks.
use Rattle.documents.proofs.Common.{◌≡◌, ◌≢◌, ℕ, ◌≤◌, Bool, true, false, List, [], ◌∷◌, ◌++◌, Option, None, Some}
use Rattle.documents.proofs.Common.{length, map, find, refl, sym, ap, ◌∙◌, nat_le, option_map, if◌then◌else◌, All}
use Rattle.documents.proofs.Common.{AllByRecursion, All-cons, All-nil, All-head, All-tail, All-append, IfSome}
use Rattle.documents.proofs.Common.{option_or, find-append, none-some, false_from_ne_true, LimitTable, Place, Empty}
use Rattle.documents.proofs.Common.{TooManyMarks, Settings, is_same, literal, Document, SharedMark, Widget, place_named}
use Rattle.documents.proofs.Common.{set_found, with_current, with_insert, with_mark, with_shared, answered, refused}
use Rattle.documents.proofs.Common.{IsPlaced, IsWellFormedDocument, new_widget, with_peer, shared_key, AreOthers}
use Rattle.documents.proofs.Common.{AreWatched, HasMarksBut, mark_at, mark_key, mark_keys, own_keys, watched}
use Rattle.documents.proofs.Common.{MarkChange, MarkKey, MarkKind, Current, Shared, flat_map, same-word, words-are}
use Rattle.documents.proofs.Common.{true≢false, window_names, slice_index_or, All-map}
use Rattle.documents.specs.declared.mark_lists.MarkKind.TheVariants.{Insert}
use Rattle.documents.proofs.MarksToldLaws.{made_mark, made-other, shared-other, sought}
use Rattle.std.specs.List.{IsDistinct}

-- ---- keys

abbrev pub insert_key : List ℕ → MarkKey
insert_key name = record { kind = Insert; name = name }

abbrev pub current_key : List ℕ → MarkKey
current_key name = record { kind = Current; name = name }

-- what holds of each kind of key holds of each key
pub by-kind : (P : MarkKey → Type 0) → ((name : List ℕ) → P (insert_key name)) →
    ((name : List ℕ) → P (current_key name)) → ((name : List ℕ) → P (shared_key name)) → (key : MarkKey) → P key
by-kind P inserts currents shares key = by key.kind key.name
  where
    by : (kind : MarkKind) (name : List ℕ) → P (record { kind = kind; name = name })
    by Insert name = inserts name
    by Current name = currents name
    by Shared name = shares name

pub apart-kinds : (a b : List ℕ) → insert_key a ≢ current_key b
apart-kinds a b same = (let kinds : Insert ≡ Current = ap (λ (key : MarkKey). key.kind) same in absurd (cc))

pub apart-current : (a b : List ℕ) → current_key a ≢ insert_key b
apart-current a b same = apart-kinds b a (sym same)

apart-shared : (a b : List ℕ) → shared_key a ≢ insert_key b
apart-shared a b same = (let kinds : Shared ≡ Insert = ap (λ (key : MarkKey). key.kind) same in absurd (cc))

apart-others : (a b : List ℕ) → shared_key a ≢ current_key b
apart-others a b same = (let kinds : Shared ≡ Current = ap (λ (key : MarkKey). key.kind) same in absurd (cc))

-- names are of one word where their keys are
other-name : (key : List ℕ → MarkKey) (a b : List ℕ) → key a ≢ key b → is_same a b ≡ false
other-name key a b apart = false_from_ne_true (is_same a b) (λ same. apart (ap key (words-are a b same)))

-- ---- keys of a list

abbrev pub AreApartFrom : MarkKey → List MarkKey → Type 0
AreApartFrom key keys = All (λ (other : MarkKey). other ≢ key) keys

abbrev AreApartKeys : List MarkKey → Type 0
AreApartKeys [] = Unit {0}
AreApartKeys (key ∷ keys) = AreApartFrom key keys × AreApartKeys keys

-- what holds of what is made of each element
pub all-mapped : {A B : Type 0} (P : B → Type 0) (f : A → B) (xs : List A) → All P (map f xs) →
    All (λ (x : A). P (f x)) xs
all-mapped P f [] all = All-nil (λ x. P (f x))
all-mapped P f (x ∷ xs) all =
    All-cons (λ x. P (f x)) x xs (All-head P (f x) (map f xs) all) (all-mapped P f xs (All-tail P (f x) (map f xs) all))

watched-keys : (document : Document) (keys : List MarkKey) → AreApartKeys keys →
    AreWatched document (map (watched document) keys)
watched-keys document [] apart = record {
  each = All-nil (λ (mark : MarkChange). mark ≡ watched document mark.key);
  single = tt;
}
watched-keys document (key ∷ keys) apart =
    let rest = watched-keys document keys apart.1 in
    record {
      each = All-cons (λ (mark : MarkChange). mark ≡ watched document mark.key) (watched document key)
          (map (watched document) keys) refl rest.each;
      single = (All-map (λ (mark : MarkChange). mark.key ≢ key) (watched document) keys apart.0, rest.single);
    }

-- ---- lists of a few marks

pub none-watched : (document : Document) → AreWatched document []
none-watched document = watched-keys document [] tt

pub one-watched : (document : Document) (key : MarkKey) → AreWatched document (watched document key ∷ [])
one-watched document key = watched-keys document (key ∷ []) (All-nil (λ (other : MarkKey). other ≢ key), tt)

pub own-watched : (document : Document) (name : List ℕ) →
    AreWatched document (map (watched document) (own_keys name))
own-watched document name = watched-keys document (own_keys name) (
  All-cons (λ (other : MarkKey). other ≢ insert_key name) (current_key name) [] (apart-current name name)
      (All-nil (λ (other : MarkKey). other ≢ insert_key name)),
  (All-nil (λ (other : MarkKey). other ≢ current_key name), tt),
)

-- ---- the list of all marks

abbrev pub own_listed : List (List ℕ) → List MarkKey
own_listed names = flat_map own_keys names

abbrev keys_of_marks : List SharedMark → List MarkKey
keys_of_marks marks = map (λ (mark : SharedMark). shared_key mark.name) marks

pub all-front : {A : Type 0} (P : A → Type 0) (xs ys : List A) → All P (xs ++ ys) → All P xs
all-front P [] ys all = All-nil P
all-front P (x ∷ xs) ys all =
    All-cons P x xs (All-head P x (xs ++ ys) all) (all-front P xs ys (All-tail P x (xs ++ ys) all))

pub all-back : {A : Type 0} (P : A → Type 0) (xs ys : List A) → All P (xs ++ ys) → All P ys
all-back P [] ys all = all
all-back P (x ∷ xs) ys all = all-back P xs ys (All-tail P x (xs ++ ys) all)

abbrev pub AreOthersThan : List ℕ → List (List ℕ) → Type 0
AreOthersThan name names = AllByRecursion (λ (other : List ℕ). is_same name other ≡ false) names

-- a key of one name is none of other names
same-key : (key : List ℕ → MarkKey) (name other : List ℕ) → ((n : List ℕ) → (key n).name ≡ n)
    → is_same name other ≡ false → key other ≢ key name
same-key key name other named differs same =
    let names : other ≡ name = sym (named other) ∙ ap (λ (k : MarkKey). k.name) same ∙ named name in
    absurd (true≢false (sym (ap (is_same name) names ∙ same-word name) ∙ differs))

own-apart : (key : List ℕ → MarkKey) (name : List ℕ) (names : List (List ℕ)) →
    ((other : List ℕ) → is_same name other ≡ false → insert_key other ≢ key name)
    → ((other : List ℕ) → is_same name other ≡ false → current_key other ≢ key name)
    → AreOthersThan name names → AreApartFrom (key name) (own_listed names)
own-apart key name [] inserts currents apart = All-nil (λ (other : MarkKey). other ≢ key name)
own-apart key name (other ∷ names) inserts currents apart =
    let P : MarkKey → Type 0 = λ (o : MarkKey). o ≢ key name in
    All-cons P (insert_key other) (current_key other ∷ own_listed names) (inserts other apart.0)
    (All-cons P (current_key other) (own_listed names) (currents other apart.0)
    (own-apart key name names inserts currents apart.1))

pub insert-apart : (name : List ℕ) (names : List (List ℕ)) → AreOthersThan name names →
    AreApartFrom (insert_key name) (own_listed names)
insert-apart name names =
    own-apart insert_key name names (λ other. same-key insert_key name other (λ n. refl))
    (λ other _. apart-current other name)

pub current-apart : (name : List ℕ) (names : List (List ℕ)) → AreOthersThan name names →
    AreApartFrom (current_key name) (own_listed names)
current-apart name names =
    own-apart current_key name names (λ other _. apart-kinds other name)
    (λ other. same-key current_key name other (λ n. refl))

own-apart-marks : (key : MarkKey) (marks : List SharedMark) → ((name : List ℕ) → shared_key name ≢ key) →
    AreApartFrom key (keys_of_marks marks)
own-apart-marks key marks apart =
    All-map (λ (other : MarkKey). other ≢ key) (λ (mark : SharedMark). shared_key mark.name) marks
    (λ at mark within. apart (slice_index_or marks at mark).name)

marks-apart-from : (name : List ℕ) (marks : List SharedMark) →
    AreOthersThan name (map (λ (mark : SharedMark). mark.name) marks) →
    AreApartFrom (shared_key name) (keys_of_marks marks)
marks-apart-from name [] apart = All-nil (λ (other : MarkKey). other ≢ shared_key name)
marks-apart-from name (mark ∷ marks) apart =
    All-cons (λ (other : MarkKey). other ≢ shared_key name) (shared_key mark.name) (keys_of_marks marks)
    (same-key shared_key name mark.name (λ n. refl) apart.0) (marks-apart-from name marks apart.1)

marks-apart : (marks : List SharedMark) → IsDistinct is_same (map (λ (mark : SharedMark). mark.name) marks) →
    AreApartKeys (keys_of_marks marks)
unfolding IsDistinct
marks-apart [] apart = tt
marks-apart (mark ∷ marks) apart = (marks-apart-from mark.name marks apart.0, marks-apart marks apart.1)

all-apart : (names : List (List ℕ)) (marks : List SharedMark) → IsDistinct is_same names →
    IsDistinct is_same (map (λ (mark : SharedMark). mark.name) marks)
    → AreApartKeys (own_listed names ++ keys_of_marks marks)
unfolding IsDistinct
all-apart [] marks distinct shared = marks-apart marks shared
all-apart (name ∷ names) marks distinct shared = (
  All-cons (λ (other : MarkKey). other ≢ insert_key name) (current_key name) (own_listed names ++ keys_of_marks marks)
      (apart-current name name)
      (All-append (λ (other : MarkKey). other ≢ insert_key name) (own_listed names) (keys_of_marks marks)
      (insert-apart name names distinct.0)
      (own-apart-marks (insert_key name) marks (λ other. apart-shared other name))),
  (
    All-append (λ (other : MarkKey). other ≢ current_key name) (own_listed names) (keys_of_marks marks)
        (current-apart name names distinct.0)
        (own-apart-marks (current_key name) marks (λ other. apart-others other name)),
    all-apart names marks distinct.1 shared,
  ),
)

pub listed-watched : (limits : LimitTable) (document : Document) → IsWellFormedDocument limits document →
    AreWatched document (map (watched document) (mark_keys document))
listed-watched limits document formed =
    watched-keys document (mark_keys document)
    (all-apart (window_names document) document.marks formed.widget_names formed.mark_names)

-- a mark that isn't in the list of all isn't there
abbrev IsOwnOther : MarkKey → List ℕ → Type 0
IsOwnOther key name = (insert_key name ≢ key) × (current_key name ≢ key)

own-others : (key : MarkKey) (names : List (List ℕ)) → AreApartFrom key (own_listed names) →
    AllByRecursion (IsOwnOther key) names
own-others key [] apart = tt
own-others key (name ∷ names) apart =
    let P : MarkKey → Type 0 = λ (other : MarkKey). other ≢ key in
    let rest = All-tail P (insert_key name) (current_key name ∷ own_listed names) apart in (
      (
        All-head P (insert_key name) (current_key name ∷ own_listed names) apart,
        All-head P (current_key name) (own_listed names) rest,
      ),
      own-others key names (All-tail P (current_key name) (own_listed names) rest),
    )

no-widget : (name : List ℕ) (key : MarkKey) → ((other : List ℕ) → IsOwnOther key other → is_same other name ≡ false) →
    (widgets : List Widget) → AllByRecursion (IsOwnOther key) (map (λ (widget : Widget). widget.name) widgets)
    → find (λ (widget : Widget). is_same widget.name name) widgets ≡ None
no-widget name key differs [] apart = refl
no-widget name key differs (widget ∷ widgets) apart =
    ap (λ b. if b then Some widget else find (λ (w : Widget). is_same w.name name) widgets)
    (differs widget.name apart.0) ∙ no-widget name key differs widgets apart.1

no-mark : (name : List ℕ) (marks : List SharedMark) → AreApartFrom (shared_key name) (keys_of_marks marks) →
    sought name marks ≡ None
no-mark name [] apart = refl
no-mark name (mark ∷ marks) apart =
    let P : MarkKey → Type 0 = λ (other : MarkKey). other ≢ shared_key name in
    ap (λ b. option_map (λ (m : SharedMark). m.place) (if b then Some mark
    else find (λ (m : SharedMark). is_same name m.name) marks))
    (other-name shared_key name mark.name (λ same. All-head P (shared_key mark.name) (keys_of_marks marks) apart
    (sym same)))
    ∙ no-mark name marks (All-tail P (shared_key mark.name) (keys_of_marks marks) apart)

pub listed-all : (document : Document) (key : MarkKey) →
    AreOthers key (map (watched document) (mark_keys document)) → mark_at document key ≡ None
listed-all document key others =
    by-kind (λ key. AreApartFrom key (mark_keys document) → mark_at document key ≡ None)
    (λ name apart. ap (option_map (λ (widget : Widget). widget.insert)) (no-widget name (insert_key name)
    (λ other both. other-name insert_key other name both.0) document.widgets (front (insert_key name) apart)))
    (λ name apart. ap (option_map (λ (widget : Widget). widget.current)) (no-widget name (current_key name)
    (λ other both. other-name current_key other name both.1) document.widgets (front (current_key name) apart)))
    (λ name apart. no-mark name document.marks
    (all-back (λ (other : MarkKey). other ≢ shared_key name) (own_listed (window_names document))
    (keys_of_marks document.marks) apart))
    key (all-mapped (λ (mark : MarkChange). mark.key ≢ key) (watched document) (mark_keys document) others)
  where
    front : (key : MarkKey) → AreApartFrom key (mark_keys document) →
        AllByRecursion (IsOwnOther key) (window_names document)
    front key apart = own-others key (window_names document) (all-front (λ (other : MarkKey). other ≢ key)
        (own_listed (window_names document)) (keys_of_marks document.marks) apart)

-- ---- marks that are put

abbrev pub changed_in : Widget → (Widget → Widget) → List Widget → List Widget
changed_in widget change widgets =
    map (λ (other : Widget). if is_same widget.name other.name then change other else other) widgets

abbrev pub own_of : (Widget → Place) → List ℕ → List Widget → Option Place
own_of get name widgets = option_map get (find (λ (widget : Widget). is_same widget.name name) widgets)

-- a mark of a widget by another name, and one that the change leaves
own-other : (get : Widget → Place) (name : List ℕ) (widget : Widget) (change : Widget → Widget)
    (widgets : List Widget) → ((other : Widget) → (change other).name ≡ other.name)
    → is_same widget.name name ≡ false → own_of get name (changed_in widget change widgets) ≡ own_of get name widgets
own-other get name widget change [] keeps apart = refl
own-other get name widget change (first ∷ widgets) keeps apart =
    let rest = own-other get name widget change widgets keeps apart in
    let at : Widget → List Widget → Option Place = λ (w : Widget) (ws : List Widget).
    option_map get (if is_same w.name name then Some w else find (λ (o : Widget). is_same o.name name) ws) in
    elim (is_same widget.name first.name) as (λ b. is_same widget.name first.name ≡ b →
    at (if b then change first else first) (changed_in widget change widgets) ≡ at first widgets) [
      | true ↦ λ is.
          let no : is_same first.name name ≡ false =
          ap (λ n. is_same n name) (sym (words-are widget.name first.name is)) ∙ apart in
          ap (λ b. option_map get (if b then Some (change first)
          else find (λ (o : Widget). is_same o.name name) (changed_in widget change widgets)))
          (ap (λ n. is_same n name) (keeps first) ∙ no)
          ∙ rest
          ∙ sym (ap (λ b. option_map get (if b then Some first
          else find (λ (o : Widget). is_same o.name name) widgets)) no)
      | false ↦ λ _. elim (is_same first.name name) as (λ b.
          option_map get (if b then Some first
          else find (λ (o : Widget). is_same o.name name) (changed_in widget change widgets))
          ≡ option_map get (if b then Some first else find (λ (o : Widget). is_same o.name name) widgets))
          [ true ↦ refl | false ↦ rest ]
    ] refl

pub own-kept : (get : Widget → Place) (name : List ℕ) (widget : Widget) (change : Widget → Widget)
    (widgets : List Widget) → ((other : Widget) → (change other).name ≡ other.name)
    → ((other : Widget) → get (change other) ≡ get other)
    → own_of get name (changed_in widget change widgets) ≡ own_of get name widgets
own-kept get name widget change [] keeps stays = refl
own-kept get name widget change (first ∷ widgets) keeps stays =
    let rest = own-kept get name widget change widgets keeps stays in
    let at : Widget → List Widget → Option Place = λ (w : Widget) (ws : List Widget).
    option_map get (if is_same w.name name then Some w else find (λ (o : Widget). is_same o.name name) ws) in
    let alike : (other : Widget) → other.name ≡ first.name → get other ≡ get first →
    at other (changed_in widget change widgets) ≡ at first widgets = λ other named placed.
    ap (λ n. option_map get (if is_same n name then Some other
    else find (λ (o : Widget). is_same o.name name) (changed_in widget change widgets))) named
    ∙ elim (is_same first.name name) as (λ b. option_map get (if b then Some other
    else find (λ (o : Widget). is_same o.name name) (changed_in widget change widgets))
    ≡ option_map get (if b then Some first else find (λ (o : Widget). is_same o.name name) widgets))
    [ true ↦ ap Some placed | false ↦ rest ] in
    elim (is_same widget.name first.name) as (λ b.
    at (if b then change first else first) (changed_in widget change widgets) ≡ at first widgets)
    [ true ↦ alike (change first) (keeps first) (stays first) | false ↦ alike first refl refl ]

-- the one key of a list of one
pub one-other : (document : Document) (key other : MarkKey) → AreOthers other (watched document key ∷ []) → key ≢ other
one-other document key other others =
    All-head (λ (mark : MarkChange). mark.key ≢ other) (watched document key) [] others

pub insert-put : (document : Document) (widget : Widget) (place : Place) →
    HasMarksBut (watched document (insert_key widget.name) ∷ []) document (with_insert document widget place)
insert-put document widget place key others =
    let change : Widget → Widget = λ (other : Widget). record other { insert = place } in
    by-kind (λ key. insert_key widget.name ≢ key →
    mark_at (with_insert document widget place) key ≡ mark_at document key)
    (λ name apart. own-other (λ (w : Widget). w.insert) name widget change document.widgets (λ other. refl)
    (other-name insert_key widget.name name apart))
    (λ name _. own-kept (λ (w : Widget). w.current) name widget change document.widgets (λ other. refl)
    (λ other. refl))
    (λ name _. refl)
    key (one-other document (insert_key widget.name) key others)

current-put : (document : Document) (widget : Widget) (place : Place) →
    HasMarksBut (watched document (current_key widget.name) ∷ []) document (with_current document widget place)
current-put document widget place key others =
    let change : Widget → Widget = λ (other : Widget). record other { current = place } in
    by-kind (λ key. current_key widget.name ≢ key →
    mark_at (with_current document widget place) key ≡ mark_at document key)
    (λ name _. own-kept (λ (w : Widget). w.insert) name widget change document.widgets (λ other. refl)
    (λ other. refl))
    (λ name apart. own-other (λ (w : Widget). w.current) name widget change document.widgets (λ other. refl)
    (other-name current_key widget.name name apart))
    (λ name _. refl)
    key (one-other document (current_key widget.name) key others)

turned-name : (name word : List ℕ) → shared_key name ≢ shared_key word → is_same word name ≡ false
turned-name name word apart = other-name shared_key word name (λ same. apart (sym same))

shared-put : (document : Document) (name : List ℕ) (place : Place) →
    HasMarksBut (watched document (shared_key name) ∷ []) document (with_shared document name place)
shared-put document name place key others =
    by-kind (λ key. shared_key name ≢ key → mark_at (with_shared document name place) key ≡ mark_at document key)
    (λ word _. refl) (λ word _. refl)
    (λ word apart. shared-other word name place document.marks (turned-name name word apart))
    key (one-other document (shared_key name) key others)

pub marks-put : (document : Document) (widget : Widget) (name : List ℕ) (place : Place) →
    HasMarksBut (watched document (mark_key widget name) ∷ []) document (with_mark document widget name place)
marks-put document widget name place = by (is_same name (literal "insert")) (is_same name (literal "current"))
  where
    by : (b c : Bool) → HasMarksBut (watched document (if b then insert_key widget.name
        else (if c then current_key widget.name else shared_key name)) ∷ []) document
        (if b then with_insert document widget place
        else (if c then with_current document widget place else with_shared document name place))
    by true c = insert-put document widget place
    by false true = current-put document widget place
    by false false = shared-put document name place

-- ---- marks that are made

made-put : (document : Document) (name : List ℕ) (offset : ℕ) →
    HasMarksBut (watched document (shared_key name) ∷ []) document
    (record document { marks = document.marks ++ made_mark name offset ∷ [] })
made-put document name offset key others =
    by-kind (λ key. shared_key name ≢ key →
    mark_at (record document { marks = document.marks ++ made_mark name offset ∷ [] }) key ≡ mark_at document key)
    (λ word _. refl) (λ word _. refl)
    (λ word apart. made-other word name offset document.marks (turned-name name word apart))
    key (one-other document (shared_key name) key others)

-- a name of no mark is none of a widget's own
shared-named : (document : Document) (widget : Widget) (name : List ℕ) → place_named document widget name ≡ None →
    mark_key widget name ≡ shared_key name
shared-named document widget name = by (is_same name (literal "insert")) (is_same name (literal "current"))
  where
    by : (b c : Bool) → (if b then Some widget.insert
        else (if c then Some widget.current else sought name document.marks)) ≡ None
        → (if b then insert_key widget.name else (if c then current_key widget.name else shared_key name))
        ≡ shared_key name
    by true c none = absurd (none-some widget.insert (sym none))
    by false true none = absurd (none-some widget.current (sym none))
    by false false none = refl

marks-new : (limits : LimitTable) (document : Document) (widget : Widget) (name : List ℕ) (offset : ℕ) →
    mark_key widget name ≡ shared_key name
    → HasMarksBut (watched document (mark_key widget name) ∷ []) document
    (set_found limits document widget name offset None).document
marks-new limits document widget name offset is key others =
    let apart : shared_key name ≢ key = λ same. one-other document (mark_key widget name) key others (is ∙ same) in
    let listed : AreOthers key (watched document (shared_key name) ∷ []) =
    All-cons (λ (mark : MarkChange). mark.key ≢ key) (watched document (shared_key name)) [] apart
    (All-nil (λ (mark : MarkChange). mark.key ≢ key)) in
    elim (nat_le limits.marks (length document.marks)) as (λ b. mark_at (if b
    then refused document TooManyMarks
    else answered (record document { marks = document.marks ++ made_mark name offset ∷ [] }) Empty).document key
    ≡ mark_at document key) [ true ↦ refl | false ↦ made-put document name offset key listed ]

pub marks-made : (limits : LimitTable) (document : Document) (widget : Widget) (name : List ℕ) (offset : ℕ)
    (old : Option Place) → place_named document widget name ≡ old →
    HasMarksBut (watched document (mark_key widget name) ∷ []) document
    (set_found limits document widget name offset old).document
marks-made limits document widget name offset None is =
    marks-new limits document widget name offset (shared-named document widget name is)
marks-made limits document widget name offset (Some old) is =
    marks-put document widget name (record old { offset = offset })

-- ---- one widget more

peer-other : (get : Widget → Place) (name : List ℕ) (peer : Widget) (widgets : List Widget) →
    is_same peer.name name ≡ false → own_of get name (widgets ++ peer ∷ []) ≡ own_of get name widgets
peer-other get name peer widgets other =
    let test : Widget → Bool = λ (widget : Widget). is_same widget.name name in
    ap (option_map get) (find-append test widgets (peer ∷ [])
    ∙ ap (λ b. option_or (find test widgets) (if b then Some peer else None)) other
    ∙ elim (find test widgets) as (λ found. option_or found None ≡ found) [ None ↦ refl | Some widget ↦ refl ])

pub marks-peered : (document : Document) (name : List ℕ) (settings : Settings) →
    HasMarksBut (map (watched document) (own_keys name)) document (with_peer name settings document)
marks-peered document name settings key others =
    let P : MarkChange → Type 0 = λ (mark : MarkChange). mark.key ≢ key in
    let peer = new_widget document name settings in
    by-kind (λ key. insert_key name ≢ key → current_key name ≢ key →
    mark_at (with_peer name settings document) key ≡ mark_at document key)
    (λ word inserts _. peer-other (λ (w : Widget). w.insert) word peer document.widgets
    (other-name insert_key name word inserts))
    (λ word _ currents. peer-other (λ (w : Widget). w.current) word peer document.widgets
    (other-name current_key name word currents))
    (λ word _ _. refl)
    key
    (All-head P (watched document (insert_key name)) (watched document (current_key name) ∷ []) others)
    (All-head P (watched document (current_key name)) []
    (All-tail P (watched document (insert_key name)) (watched document (current_key name) ∷ []) others))

-- ---- marks are in the text

own-stands : (most : ℕ) (get : Widget → Place) (name : List ℕ) (widgets : List Widget) →
    AllByRecursion (λ (widget : Widget). (get widget).offset ≤ most) widgets
    → IfSome (own_of get name widgets) (λ place. place.offset ≤ most)
own-stands most get name [] each = tt
own-stands most get name (widget ∷ widgets) each =
    elim (is_same widget.name name) as (λ b. IfSome (option_map get (if b then Some widget
    else find (λ (w : Widget). is_same w.name name) widgets)) (λ place. place.offset ≤ most))
    [ true ↦ each.0 | false ↦ own-stands most get name widgets each.1 ]

sought-stands : (most : ℕ) (name : List ℕ) (marks : List SharedMark) →
    AllByRecursion (λ (mark : SharedMark). mark.place.offset ≤ most) marks
    → IfSome (sought name marks) (λ place. place.offset ≤ most)
sought-stands most name [] each = tt
sought-stands most name (mark ∷ marks) each =
    elim (is_same name mark.name) as (λ b. IfSome (option_map (λ (m : SharedMark). m.place) (if b then Some mark
    else find (λ (m : SharedMark). is_same name m.name) marks)) (λ place. place.offset ≤ most))
    [ true ↦ each.0 | false ↦ sought-stands most name marks each.1 ]

inserts-stand : (document : Document) (widgets : List Widget) → AllByRecursion (IsPlaced document) widgets →
    AllByRecursion (λ (widget : Widget). widget.insert.offset ≤ length document.cells) widgets
inserts-stand document [] each = tt
inserts-stand document (widget ∷ widgets) each = (each.0.insert, inserts-stand document widgets each.1)

currents-stand : (document : Document) (widgets : List Widget) → AllByRecursion (IsPlaced document) widgets →
    AllByRecursion (λ (widget : Widget). widget.current.offset ≤ length document.cells) widgets
currents-stand document [] each = tt
currents-stand document (widget ∷ widgets) each = (each.0.current, currents-stand document widgets each.1)

pub marks-stand : (limits : LimitTable) (document : Document) → IsWellFormedDocument limits document →
    (key : MarkKey) → IfSome (mark_at document key) (λ place. place.offset ≤ length document.cells)
marks-stand limits document formed =
    let most = length document.cells in
    by-kind (λ key. IfSome (mark_at document key) (λ place. place.offset ≤ most))
    (λ name. own-stands most (λ (w : Widget). w.insert) name document.widgets
    (inserts-stand document document.widgets formed.widgets))
    (λ name. own-stands most (λ (w : Widget). w.current) name document.widgets
    (currents-stand document document.widgets formed.widgets))
    (λ name. sought-stands most name document.marks formed.marks)
