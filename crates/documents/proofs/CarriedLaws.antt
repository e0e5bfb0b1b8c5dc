-- What holds of a document before a command, and after each edit that a command may make, holds after the command.
use Rattle.documents.proofs.Common.{Modified, separated, AllByRecursion, ◌++◌, ◌∙◌, ◌∷◌, ap, arith, map, nat_le}
use Rattle.documents.proofs.Common.{with_name, spans_of, is_same, literal, TooManyMarks, SharedMark, with_current}
use Rattle.documents.proofs.Common.{with_insert, with_shared, key_of, spans_shown, view_start, Span, KeyedCell}
use Rattle.documents.proofs.Common.{characters, with_key, with_tag, without_tags, Key, changed-same, map-changed}
use Rattle.documents.proofs.Common.{changed, Right, set_to, edit_group, ◌≡◌, ℕ, ◌+◌, ◌≤◌, Bool, true, false, List}
use Rattle.documents.proofs.Common.{Option, Some, None, Ok, Err, length, refl, nat_lt, if◌then◌else◌, All, ltb-false}
use Rattle.documents.proofs.Common.{Gravity, Place, LimitTable, Empty, Fault, NoSuchTag, TooManyTags, TextTooLong, Pair}
use Rattle.documents.proofs.Common.{is_among, delete_places, replace_span, Document, Widget, edit_separator}
use Rattle.documents.proofs.Common.{modified_set, mark_unset, place_named, set_found, with_mark, Change, answered}
use Rattle.documents.proofs.Common.{refused, change_with, unless_idle, add_spans, known_or, remove_spans, reordered}
use Rattle.documents.proofs.Common.{tag_delete, insert_at, insertion_offset, within_limits, is_idle, shown, view_end}
use Rattle.documents.proofs.Common.{[], Result}

-- ---- what may follow, or not

pub carried-with : {A : Type 0} (P : Document → Type 0) (document : Document) (value : Result A Fault) (next : A →
    Change) → P document
    → ((given : A) → value ≡ Ok given → P (next given).document) → P (change_with document value next).document
carried-with P document (Err fault) next same goes = same
carried-with P document (Ok given) next same goes = goes given refl

pub carried-active : (P : Document → Type 0) (document : Document) (widget : Widget) (change : Change) → P document
    → (is_idle document widget ≡ false → P change.document) → P (unless_idle widget document change).document
carried-active P document widget change same next =
    elim (is_idle document widget) as (λ b. is_idle document widget ≡ b →
    P (if b then answered document Empty else change).document) [
      | true ↦ λ _. same
      | false ↦ λ busy. next busy
    ] refl

pub within-either : (P : Change → Type 0) (limits : LimitTable) (document : Document) (tags chars : ℕ) (change : Change)
    → ((fault : Fault) → P (refused document fault)) → (chars ≤ limits.chars → P change)
    → P (within_limits limits document tags chars change)
within-either P limits document tags chars change left next =
    elim (nat_lt (limits.tags + 1) tags) as
    (λ b. P (if b then refused document TooManyTags else if nat_lt limits.chars chars then refused document TextTooLong
    else change)) [
      | true ↦ left TooManyTags
      | false ↦ elim (nat_lt limits.chars chars) as (λ b. nat_lt limits.chars chars ≡ b →
          P (if b then refused document TextTooLong else change)) [
            | true ↦ λ _. left TextTooLong
            | false ↦ λ few. next (ltb-false limits.chars chars few)
          ] refl
    ]

pub carried-limited : (P : Document → Type 0) (limits : LimitTable) (document : Document) (tags chars : ℕ)
    (change : Change) → P document
    → (chars ≤ limits.chars → P change.document) → P (within_limits limits document tags chars change).document
carried-limited P limits document tags chars change same next =
    within-either (λ (change : Change). P change.document) limits document tags chars change (λ _. same) next

known-carried : (P : Document → Type 0) (document : Document) (position : ℕ) (name : List ℕ) (change : Change) → P document →
    P change.document
    → P (known_or document position name change).document
known-carried P document position name change same next =
    elim (is_among name document.tags) as (λ b. P (if b then change else refused document (NoSuchTag position)).document) [
      | true ↦ next
      | false ↦ same
    ]

-- tags in another order
pub carried-reordered : (P : Document → Type 0) (document : Document) (position : ℕ)
    (order : List (List ℕ) → List ℕ → Option (List ℕ) → List (List ℕ)) (words : List ℕ × Option (List ℕ))
    → P document → ((tags : List (List ℕ)) → P (record document { tags = tags })) →
    P (reordered document position order words).document
carried-reordered P document position order (name, None) same next =
    known-carried P document position name (answered (record document { tags = order document.tags name None }) Empty) same
    (next (order document.tags name None))
carried-reordered P document position order (name, Some other) same next =
    let change : Change = answered (record document { tags = order document.tags name (Some other) }) Empty in
    known-carried P document position name (known_or document (position + 1) other change) same
    (known-carried P document (position + 1) other change same (next (order document.tags name (Some other))))

-- ---- edits

-- It holds of a document, and after each edit of a widget that leaves the characters, their tags and each mark as they
-- are.
pub record IsQuiet (limits : LimitTable) (document : Document) (widget : Widget) (P : Document →
    Type 0) : Type 0 where
  pub same : P document
  pub ordered : (position : ℕ) (order : List (List ℕ) → List ℕ → Option (List ℕ) →
      List (List ℕ)) (words : List ℕ × Option (List ℕ))
      → P (reordered document position order words).document
  pub modified : (flag : Bool) → P (modified_set document flag).document
  pub separated : P (edit_separator document).document

-- It holds after each edit of a widget that puts tags on characters or takes them off.
pub record IsTagged (limits : LimitTable) (document : Document) (widget : Widget) (P : Document →
    Type 0) : Type 0 where
  pub added : (name places : List ℕ) → P (add_spans limits document widget name places).document
  pub removed : (name places : List ℕ) → P (remove_spans document widget name places).document
  pub untagged : (names : List (List ℕ)) → P (tag_delete document names).document

-- It holds after each edit of a widget that sets marks, turns their gravity or takes them out.
pub record IsMarked (limits : LimitTable) (document : Document) (widget : Widget) (P : Document →
    Type 0) : Type 0 where
  pub turned : (name : List ℕ) (old : Place) (gravity : Gravity) → place_named document widget name ≡ Some old
      → P (with_mark document widget name (record old { gravity = gravity }))
  pub set : (name : List ℕ) (offset : ℕ) (found : Option Place) →
      P (set_found limits document widget name offset found).document
  pub unset : (names : List (List ℕ)) → P (mark_unset document names).document

-- It holds after each edit of a widget that changes the characters.
pub record IsTextEdited (limits : LimitTable) (document : Document) (widget : Widget) (P : Document →
    Type 0) : Type 0 where
  pub inserted : (place : ℕ) (pairs : List Pair) → is_idle document widget ≡ false
      → P (insert_at limits document widget (insertion_offset document widget place) pairs).document
  pub replaced : (from to : ℕ) (pairs : List Pair) → is_idle document widget ≡ false → from ≤ to
      → P (replace_span limits document widget (insertion_offset document widget from)
      (insertion_offset document widget to) pairs).document
  pub deleted : (places : List ℕ) → is_idle document widget ≡ false
      → (view_end document widget ≤ length document.cells →
      All (λ place. place ≤ length (shown document widget)) places)
      → P (delete_places document widget places).document
  pub grouped : (back : Bool) → P (edit_group back document widget).document

-- It holds of a document, and after each edit of a widget that a command may make.
pub record IsCarried (limits : LimitTable) (document : Document) (widget : Widget) (P : Document →
    Type 0) : Type 0 where
  pub quiet : IsQuiet limits document widget P
  pub tagged : IsTagged limits document widget P
  pub marked : IsMarked limits document widget P
  pub edited : IsTextEdited limits document widget P

-- ---- by what is made of a document, whatever the words of the edit

-- its tags in another order, its count, and its history
pub carried-quiet : (P : Document → Type 0) (limits : LimitTable) (document : Document) (widget : Widget) → P document
    → ((tags : List (List ℕ)) → P (record document { tags = tags }))
    → ((modified : Modified) → P (record document { modified = modified }))
    → P (record document { history = separated document.history }) → IsQuiet limits document widget P
carried-quiet P limits document widget same tags modified history = record {
  same = same;
  ordered = λ position order words. carried-reordered P document position order words same tags;
  modified = λ flag. modified (set_to flag document.modified);
  separated = elim document.undo as
      (λ b. P (if b then record document { history = separated document.history } else document))
      [ true ↦ history | false ↦ same ];
}

text-tagged : (key : Key) (on : Bool) (spans : List Span) (cells : List KeyedCell) →
    AllByRecursion (λ (span : Span). span.from ≤ span.to) spans
    → characters (with_tag key on spans cells) ≡ characters cells
text-tagged key on [] cells ordered = refl
text-tagged key on (span ∷ spans) cells ordered =
    text-tagged key on spans (changed (with_key key on) span.from span.to cells) ordered.1
    ∙ map-changed (λ (cell : KeyedCell). cell.character) (with_key key on) (λ c. c) (λ cell. refl) span.from span.to
    cells
    ∙ changed-same span.from span.to (characters cells) ordered.0

text-without : (names : List (List ℕ)) (cells : List KeyedCell) →
    characters (map (without_tags names) cells) ≡ characters cells
text-without names [] = refl
text-without names (cell ∷ cells) = ap (λ text. cell.character ∷ text) (text-without names cells)

ordered-spans : (start len : ℕ) (places : List ℕ) →
    AllByRecursion (λ (span : Span). span.from ≤ span.to) (spans_of start len places)
ordered-spans start len [] = tt
ordered-spans start len (from ∷ []) = (omega arith, tt)
ordered-spans start len (from ∷ to ∷ places) = (omega arith, ordered-spans start len places)

-- its tags, which change no characters
pub carried-tagged : (P : Document → Type 0) (limits : LimitTable) (document : Document) (widget : Widget) → P document
    → ((tags : List (List ℕ)) (cells : List KeyedCell) → characters cells ≡ characters document.cells
    → P (record document { tags = tags; cells = cells })) → IsTagged limits document widget P
carried-tagged P limits document widget same tagged = record {
  added = λ name places.
      let tags = with_name document.tags name in
      let cells = with_tag (key_of widget name) true (spans_shown document widget places) document.cells in
      elim (nat_lt (limits.tags + 1) (length tags)) as (λ b. P (if b then refused document TooManyTags
      else answered (record document { tags = tags; cells = cells }) Empty).document)
      [ true ↦ same | false ↦ tagged tags cells (kept name true places) ];
  removed = λ name places.
      let cells = with_tag (key_of widget name) false (spans_shown document widget places) document.cells in
      elim (is_among name document.tags) as (λ b. P (if b then record document { cells = cells } else document))
      [ true ↦ tagged document.tags cells (kept name false places) | false ↦ same ];
  untagged = λ names. tagged _ (map (without_tags names) document.cells) (text-without names document.cells);
}
  where
    kept : (name : List ℕ) (on : Bool) (places : List ℕ) →
        characters (with_tag (key_of widget name) on (spans_shown document widget places) document.cells)
        ≡ characters document.cells
    kept name on places =
        text-tagged (key_of widget name) on (spans_shown document widget places) document.cells
        (ordered-spans (view_start widget) (length (shown document widget)) places)

-- its marks
pub carried-marked : (P : Document → Type 0) (limits : LimitTable) (document : Document) (widget : Widget) → P document
    → ((place : Place) → P (with_insert document widget place))
    → ((place : Place) → P (with_current document widget place))
    → ((marks : List SharedMark) → P (record document { marks = marks })) → IsMarked limits document widget P
carried-marked P limits document widget same insert current shared = record {
  turned = λ name old gravity _. put name (record old { gravity = gravity });
  set = set;
  unset = λ names. shared _;
}
  where
    put : (name : List ℕ) (place : Place) → P (with_mark document widget name place)
    put name place =
        elim (is_same name (literal "insert")) as (λ b. P (if b then with_insert document widget place
        else (if is_same name (literal "current") then with_current document widget place
        else with_shared document name place))) [
          | true ↦ insert place
          | false ↦ elim (is_same name (literal "current")) as (λ b.
              P (if b then with_current document widget place else with_shared document name place))
              [ true ↦ current place | false ↦ shared _ ]
        ]

    set : (name : List ℕ) (offset : ℕ) (found : Option Place)
        → P (set_found limits document widget name offset found).document
    set name offset (Some old) = put name (record old { offset = offset })
    set name offset None =
        let marks = document.marks
        ++ record { name = name; place = record { offset = offset; gravity = Right } } ∷ [] in
        elim (nat_le limits.marks (length document.marks)) as (λ b. P (if b then refused document TooManyMarks
        else answered (record document { marks = marks }) Empty).document)
        [ true ↦ same | false ↦ shared marks ]
