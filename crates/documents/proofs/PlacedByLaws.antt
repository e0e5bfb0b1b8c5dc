-- Where edits of the text put the marks of a document: what is put in moves them, and what is taken out draws them.
use Rattle.documents.proofs.Common.{◌≡◌, ◌≢◌, ℕ, ◌+◌, ◌-◌, ◌==◌, ◌&&◌, ◌||◌, ◌≤◌, Bool, true, false, inl, inr, List, []}
use Rattle.documents.proofs.Common.{◌∷◌, Option, None, Some, map, find, length, refl, sym, ap, ◌∙◌, arith, subst}
use Rattle.documents.proofs.Common.{nat_lt, option_map, if◌then◌else◌, true≢false, cases_lt, lt-ltb, le-ltb, eq-eqb}
use Rattle.documents.proofs.Common.{length-map, length-append, slice_range, All-cons, All-nil, Place, Action, EditKind}
use Rattle.documents.proofs.Common.{Span, clipped, drawn, goes_behind, moved, is_same, Pair, total, delete_spans}
use Rattle.documents.proofs.Common.{deleted_runs, in_spans, replaced, with_clipped, Document, KeyedCell, KeyedText}
use Rattle.documents.proofs.Common.{SharedMark, Widget, characters, keys_between, keys_or, widget_drawn, widget_moved}
use Rattle.documents.proofs.Common.{with_action, with_bare, with_cells, with_text, with_texts, without_cells}
use Rattle.documents.proofs.Common.{without_span, without_spans, joined_text, keyed_text, tags_with, view_end, mark_at}
use Rattle.documents.proofs.Common.{watched, MarkChange, MarkKey, eqb-true, is_right}
use Rattle.documents.proofs.CarriedByLaws.{drawn-none, drawn_all, moved-none}
use Rattle.documents.proofs.CarriedMarksLaws.{option-same, option-through}
use Rattle.documents.proofs.MarkReportLaws.{by-kind, insert-put, insert_key, own_of}
use Rattle.documents.proofs.MarksToldLaws.{sought}
use Rattle.documents.proofs.StillMarksLaws.{marks-alike}
use Rattle.undo_stack.specs.declared.actions.EditKind.TheVariants as kind

-- ---- a mark before two insertions, the second of them right behind the first

-- what goes behind a place goes on with what is put in there, and what doesn't stays
behind-on : (at j offset : ℕ) (right : Bool) → (nat_lt at offset || (offset == at && right)) ≡ true
    → (nat_lt (at + j) (offset + j) || (offset + j == at + j && right)) ≡ true
behind-on at j offset right is = elim (cases_lt at offset) [
  | inl above ↦ ap (λ b. b || (offset + j == at + j && right)) (lt-ltb (at + j) (offset + j) (omega (arith, above)))
  | inr below ↦
      ap (λ b. b || (offset + j == at + j && right)) (le-ltb (at + j) (offset + j) (omega (arith, below)))
      ∙ at_place (ap (λ b. b || (offset == at && right)) (sym (le-ltb at offset below)) ∙ is)
]
  where
    at_place : (offset == at && right) ≡ true → (offset + j == at + j && right) ≡ true
    at_place both = elim (offset == at) as (λ b. offset == at ≡ b → (b && right) ≡ true
        → (offset + j == at + j && right) ≡ true) [
          | true ↦ λ same is.
              let here : offset ≡ at = eqb-true offset at same in
              ap (λ b. b && right) (eq-eqb (offset + j) (at + j) (ap (λ n. n + j) here)) ∙ is
          | false ↦ λ _ is. absurd (true≢false (sym is))
        ] refl both

behind-not : (at j offset : ℕ) (right : Bool) → (nat_lt at offset || (offset == at && right)) ≡ false
    → (nat_lt (at + j) offset || (offset == at + j && right)) ≡ false
behind-not at j offset right isn't = elim (cases_lt at offset) [
  | inl above ↦ absurd (true≢false (ap (λ b. b || (offset == at && right)) (sym (lt-ltb at offset above)) ∙ isn't))
  | inr below ↦
      ap (λ b. b || (offset == at + j && right)) (le-ltb (at + j) offset (omega (arith, below)))
      ∙ at_place below (ap (λ b. b || (offset == at && right)) (sym (le-ltb at offset below)) ∙ isn't)
]
  where
    at_place : offset ≤ at → (offset == at && right) ≡ false → (offset == at + j && right) ≡ false
    at_place below neither = elim (offset == at + j) as (λ b. offset == at + j ≡ b → (b && right) ≡ false) [
      | true ↦ λ same.
          let there : offset ≡ at + j = eqb-true offset (at + j) same in
          ap (λ b. b && right) (sym (eq-eqb offset at (omega (arith, there, below)))) ∙ neither
      | false ↦ λ _. refl
    ] refl

pub moved-twice : (at j k : ℕ) (place : Place) → moved (at + j) k (moved at j place) ≡ moved at (j + k) place
moved-twice at j k place =
    let right = is_right place.gravity in
    elim (goes_behind at place) as (λ b. goes_behind at place ≡ b
    → moved (at + j) k (if b then record place { offset = place.offset + j } else place)
    ≡ (if b then record place { offset = place.offset + (j + k) } else place)) [
      | true ↦ λ behind.
          let on : Place = record place { offset = place.offset + j } in
          let far : place.offset + j + k ≡ place.offset + (j + k) = omega arith in
          ap (λ b. if b then record on { offset = place.offset + j + k } else on)
          (behind-on at j place.offset right behind)
          ∙ (λ i. record place { offset = far i })
      | false ↦ λ before.
          ap (λ b. if b then record place { offset = place.offset + k } else place)
          (behind-not at j place.offset right before)
    ] refl

-- ---- marks that go along

-- every mark of a document is where a function takes that of another document
abbrev pub TakesEach : (Place → Place) → Document → Document → Type 0
TakesEach goes old new = (key : MarkKey) → mark_at new key ≡ option_map goes (mark_at old key)

-- widgets that keep their names
own-along : (get : Widget → Place) (change : Widget → Widget) (goes : Place → Place) (name : List ℕ)
    (widgets : List Widget) → ((widget : Widget) → (change widget).name ≡ widget.name)
    → ((widget : Widget) → get (change widget) ≡ goes (get widget))
    → own_of get name (map change widgets) ≡ option_map goes (own_of get name widgets)
own-along get change goes name [] keeps takes = refl
own-along get change goes name (widget ∷ widgets) keeps takes =
    ap (λ n. option_map get (if is_same n name then Some (change widget)
    else find (λ (w : Widget). is_same w.name name) (map change widgets))) (keeps widget)
    ∙ elim (is_same widget.name name) as (λ b. option_map get (if b then Some (change widget)
    else find (λ (w : Widget). is_same w.name name) (map change widgets))
    ≡ option_map goes (option_map get (if b then Some widget
    else find (λ (w : Widget). is_same w.name name) widgets))) [
      | true ↦ ap Some (takes widget)
      | false ↦ own-along get change goes name widgets keeps takes
    ]

shared-along : (goes : Place → Place) (name : List ℕ) (marks : List SharedMark)
    → sought name (map (λ (mark : SharedMark). record mark { place = goes mark.place }) marks)
    ≡ option_map goes (sought name marks)
shared-along goes name [] = refl
shared-along goes name (mark ∷ marks) =
    let changed = map (λ (mark : SharedMark). record mark { place = goes mark.place }) marks in
    elim (is_same name mark.name) as (λ b. option_map (λ (m : SharedMark). m.place)
    (if b then Some (record mark { place = goes mark.place })
    else find (λ (m : SharedMark). is_same name m.name) changed)
    ≡ option_map goes (option_map (λ (m : SharedMark). m.place) (if b then Some mark
    else find (λ (m : SharedMark). is_same name m.name) marks))) [
      | true ↦ refl
      | false ↦ shared-along goes name marks
    ]

-- cells are put in, or taken out
pub cells-put : (at : ℕ) (cells : List KeyedCell) (document : Document)
    → TakesEach (moved at (length cells)) document (with_cells at cells document)
cells-put at cells document =
    let goes : Place → Place = moved at (length cells) in
    let change : Widget → Widget = widget_moved at (length cells) in
    by-kind (λ key. mark_at (with_cells at cells document) key ≡ option_map goes (mark_at document key))
    (λ name. own-along (λ (w : Widget). w.insert) change goes name document.widgets (λ w. refl) (λ w. refl))
    (λ name. own-along (λ (w : Widget). w.current) change goes name document.widgets (λ w. refl) (λ w. refl))
    (λ name. shared-along goes name document.marks)

pub cells-out : (from to : ℕ) (document : Document) → TakesEach (drawn from to) document (without_cells from to document)
cells-out from to document =
    let goes : Place → Place = drawn from to in
    let change : Widget → Widget = widget_drawn (characters document.cells) from to in
    by-kind (λ key. mark_at (without_cells from to document) key ≡ option_map goes (mark_at document key))
    (λ name. own-along (λ (w : Widget). w.insert) change goes name document.widgets (λ w. refl) (λ w. refl))
    (λ name. own-along (λ (w : Widget). w.current) change goes name document.widgets (λ w. refl) (λ w. refl))
    (λ name. shared-along goes name document.marks)

-- a document with the same marks and widgets
pub each-alike : (goes : Place → Place) (old between new : Document) → new.widgets ≡ between.widgets
    → new.marks ≡ between.marks → TakesEach goes old between → TakesEach goes old new
each-alike goes old between new widgets marks takes key =
    marks-alike between new widgets marks key (All-nil (λ (mark : MarkChange). mark.key ≢ key)) ∙ takes key

each-from : (goes : Place → Place) (old between new : Document) → between.widgets ≡ old.widgets
    → between.marks ≡ old.marks → TakesEach goes between new → TakesEach goes old new
each-from goes old between new widgets marks takes key =
    takes key ∙ ap (option_map goes)
    (marks-alike old between widgets marks key (All-nil (λ (mark : MarkChange). mark.key ≢ key)))

pub option-alike : (f g : Place → Place) → ((place : Place) → f place ≡ g place) → (found : Option Place)
    → option_map f found ≡ option_map g found
option-alike f g same None = refl
option-alike f g same (Some place) = ap Some (same place)

each-as : (f g : Place → Place) (old new : Document) → ((place : Place) → f place ≡ g place) → TakesEach f old new
    → TakesEach g old new
each-as f g old new same takes key = takes key ∙ option-alike f g same (mark_at old key)

each-still : (goes : Place → Place) (document : Document) → ((place : Place) → goes place ≡ place)
    → TakesEach goes document document
each-still goes document same key =
    sym (option-alike goes (λ (place : Place). place) same (mark_at document key) ∙ option-same (mark_at document key))

each-through : (f g : Place → Place) (old between new : Document) → TakesEach f old between
    → TakesEach g between new → TakesEach (λ (place : Place). g (f place)) old new
each-through f g old between new first second key =
    second key ∙ ap (option_map g) (first key) ∙ sym (option-through f g (mark_at old key))

-- ---- texts that are put in, and spans that are taken out

text-puts : (kind : EditKind) (at : ℕ) (text : KeyedText) (document : Document)
    → TakesEach (moved at (length text.text)) document (with_text kind at text document)
text-puts kind at text document =
    let cell : ℕ → KeyedCell = λ character. record {
      character = character;
      keys = keys_or text.keys (keys_between document.cells at);
    } in
    let action : Action = record { inserts = true; at = at; text = text.text } in
    let made : Document = with_cells at (map cell text.text) document in
    let goes : Place → Place = moved at (length text.text) in
    elim (length text.text == 0) as (λ b. length text.text == 0 ≡ b
    → TakesEach goes document (if b then document else with_action kind action made)) [
      | true ↦ λ none. each-still goes document (λ place.
          ap (λ n. moved at n place) (eqb-true (length text.text) 0 none) ∙ moved-none at place)
      | false ↦ λ _. each-alike goes document made (with_action kind action made) refl refl
          (subst (λ n. TakesEach (moved at n) document made) (length-map text.text cell)
          (cells-put at (map cell text.text) document))
    ] refl

texts-put : (kind : EditKind) (widget : Widget) (at : ℕ) (pairs : List Pair) (document : Document)
    → TakesEach (moved at (length (joined_text pairs))) document
    (with_texts kind at (map (keyed_text widget) pairs) document)
texts-put kind widget at [] document = each-still (moved at 0) document (moved-none at)
texts-put kind widget at (pair ∷ pairs) document =
    let count = length pair.text in
    let between : Document = with_text kind at (keyed_text widget pair) document in
    let new : Document = with_texts kind (at + count) (map (keyed_text widget) pairs) between in
    let rest = length (joined_text pairs) in
    let all : length (joined_text (pair ∷ pairs)) ≡ count + rest = length-append pair.text (joined_text pairs) in
    each-as (λ (place : Place). moved (at + count) rest (moved at count place))
    (moved at (length (joined_text (pair ∷ pairs)))) document new
    (λ place. moved-twice at count rest place ∙ ap (λ n. moved at n place) (sym all))
    (each-through (moved at count) (moved (at + count) rest) document between new
    (text-puts kind at (keyed_text widget pair) document) (texts-put kind widget (at + count) pairs between))

span-draws : (kind : EditKind) (from to : ℕ) (document : Document)
    → TakesEach (drawn from to) document (without_span kind from to document)
span-draws kind from to document =
    let action : Action = record {
      inserts = false;
      at = from;
      text = slice_range (characters document.cells) from to;
    } in
    let made : Document = without_cells from to document in
    elim (from == to) as (λ b. from == to ≡ b
    → TakesEach (drawn from to) document (if b then document else with_action kind action made)) [
      | true ↦ λ none. each-still (drawn from to) document (λ place.
          ap (λ n. drawn from n place) (sym (eqb-true from to none)) ∙ drawn-none from place)
      | false ↦ λ _. each-alike (drawn from to) document made (with_action kind action made) refl refl
          (cells-out from to document)
    ] refl

spans-draw : (kind : EditKind) (spans : List Span) (document : Document)
    → TakesEach (drawn_all spans) document (without_spans kind spans document)
spans-draw kind [] document = each-still (drawn_all []) document (λ place. refl)
spans-draw kind (span ∷ spans) document =
    let between : Document = without_span kind span.from span.to document in
    each-through (drawn span.from span.to) (drawn_all spans) document between (without_spans kind spans between)
    (span-draws kind span.from span.to document) (spans-draw kind spans between)

-- ---- edits

-- texts that are inserted, where that isn't refused
pub inserted-marks : (document : Document) (widget : Widget) (at : ℕ) (pairs : List Pair)
    → TakesEach (moved at (length (joined_text pairs))) document
    (with_texts kind.Insert at (map (keyed_text widget) pairs)
    (record document { tags = tags_with document pairs }))
inserted-marks document widget at pairs =
    let tagged : Document = record document { tags = tags_with document pairs } in
    each-from (moved at (length (joined_text pairs))) document tagged
    (with_texts kind.Insert at (map (keyed_text widget) pairs) tagged) refl refl
    (texts-put kind.Insert widget at pairs tagged)

-- spans that are deleted
pub deleted-marks : (document : Document) (widget : Widget) (spans : List Span)
    → TakesEach (drawn_all (deleted_runs document widget spans)) document
    (delete_spans document widget spans).document
deleted-marks document widget spans =
    let runs = deleted_runs document widget spans in
    let bared : Document = with_bare (view_end document widget - 1) document in
    elim (in_spans spans (view_end document widget - 1)) as (λ b. TakesEach (drawn_all runs) document
    (without_spans kind.Delete runs (if b then bared else document))) [
      | true ↦ each-from (drawn_all runs) document bared (without_spans kind.Delete runs bared) refl refl
          (spans-draw kind.Delete runs bared)
      | false ↦ spans-draw kind.Delete runs document
    ]

-- the widget's `insert` is put elsewhere, and no other mark
clipped-kept : (widget : Widget) (place : Option Place) (document : Document) (key : MarkKey)
    → insert_key widget.name ≢ key → mark_at (with_clipped widget place document) key ≡ mark_at document key
clipped-kept widget None document key other = refl
clipped-kept widget (Some place) document key other =
    let P : MarkChange → Type 0 = λ (mark : MarkChange). mark.key ≢ key in
    insert-put document widget place key
    (All-cons P (watched document (insert_key widget.name)) [] other (All-nil P))

-- texts that take the place of characters, where that isn't refused
pub replaced-marks : (document : Document) (widget : Widget) (from to : ℕ) (pairs : List Pair) (key : MarkKey)
    → insert_key widget.name ≢ key
    → mark_at (replaced document widget from to pairs) key
    ≡ option_map (λ (place : Place). moved from (length (joined_text pairs)) (drawn from to place))
    (mark_at document key)
replaced-marks document widget from to pairs key other =
    let tagged : Document = record document { tags = tags_with document pairs } in
    let without : Document = without_span kind.Replace from to tagged in
    let made : Document = with_texts kind.Replace from (map (keyed_text widget) pairs) without in
    clipped-kept widget (clipped from to (total pairs) widget.insert) made key other
    ∙ each-through (drawn from to) (moved from (length (joined_text pairs))) document without made
    (each-from (drawn from to) document tagged without refl refl (span-draws kind.Replace from to tagged))
    (texts-put kind.Replace widget from pairs without) key
