-- A document after a mark is put at a place, made or taken out.
use Rattle.documents.proofs.Common.{◌≡◌, ◌≢◌, ℕ, zero, suc, ◌+◌, ◌*◌, ◌<◌, ◌≤◌, Bool, true, false, cond, List, [], ◌∷◌}
use Rattle.documents.proofs.Common.{◌++◌, length, map, refl, sym, ap, ap₂, subst, ◌∙◌, arith, inl, inr, bytes_eq, find}
use Rattle.documents.proofs.Common.{nat_le, slice_get, is_some, unwrap_or, if◌then◌else◌, AllByRecursion, cons_option}
use Rattle.documents.proofs.Common.{nat_cmp, eq_by_cmp, or_left, or_right, nat_tests, length-map, length-append}
use Rattle.documents.proofs.Common.{map-append, none-some, same_Some, bytes_eq-Decides, Named, Contains-from_stands}
use Rattle.documents.proofs.Common.{AreMarks, Mark, SharedMarks, first_number, number_of, turned, MOST_WIDGETS, Right}
use Rattle.documents.proofs.Common.{Place, Content, Marks, MarksStand, LimitTable, Empty, TooManyMarks, new_mark}
use Rattle.documents.proofs.Common.{is_left, IsMadeMark, marks_left, numbers_named, taken, is_among, is_own, is_same}
use Rattle.documents.proofs.Common.{Document, Journal, Parts, SharedMark, Widget, document_of, mark_of, placed}
use Rattle.documents.proofs.Common.{widget_at, widget_of, AreMarked, AreSeats, HasOwnMarks, IsMarked, Stands}
use Rattle.documents.proofs.Common.{mark_unset, set_found, with_current, with_insert, with_shared, Change, answered}
use Rattle.documents.proofs.Common.{refused, filter, not, Option, None, Some, Ok, option_map, true≢false, is_named}
use Rattle.std.specs.Cmp.{nat_cmp_total, unsigned_tied}
use Rattle.mark_table.specs.SharedMarks.{numbers_of}
use Rattle.documents.proofs.ChangeLaws.{Leaves, does-changed}
use Rattle.documents.proofs.PartsLaws.{Sits, mapped-at, marks-kept}
use Rattle.documents.proofs.PlacedLaws.{AreAlike, StandsMark, found_mark, marked-alike, placed-alike}
use Rattle.std.specs.FinMap as finite

-- ---- one mark of a store

same_number : (number : ℕ) → eq_by_cmp nat_cmp number number ≡ true
same_number number = unsigned_tied number number ∙ grind (arith, nat_tests)

other_number : (other number : ℕ) → other ≢ number → eq_by_cmp nat_cmp other number ≡ false
other_number other number apart = unsigned_tied other number ∙ grind (arith, nat_tests)

pub get-put : (places : Marks) (number : ℕ) (place : Place) →
    finite.get (finite.insert places number place) number ≡ Some place
get-put places number place = finite.get-insert nat_cmp_total places number place number
    ∙ ap (λ b. cond b (Some place) (finite.get places number)) (same_number number)

pub get-put_other : (places : Marks) (number : ℕ) (place : Place) (other : ℕ) → other ≢ number →
    finite.get (finite.insert places number place) other ≡ finite.get places other
get-put_other places number place other apart =
    finite.get-insert nat_cmp_total places number place other
    ∙ ap (λ b. cond b (Some place) (finite.get places other)) (other_number other number apart)

pub get-take_other : (places : Marks) (number other : ℕ) → other ≢ number →
    finite.get (finite.remove places number) other ≡ finite.get places other
get-take_other places number other apart =
    finite.get-remove nat_cmp_total places number other
    ∙ ap (λ b. cond b None (finite.get places other)) (other_number other number apart)

abbrev pub put_in : ℕ → Place → Content → Content
put_in number place content = record content { marks = finite.insert content.marks number place }

there-put : (places : Marks) (number : ℕ) (place : Place) (other : ℕ) → is_some (finite.get places other) ≡ true →
    is_some (finite.get (finite.insert places number place) other) ≡ true
there-put places number place other there =
    ap is_some (finite.get-insert nat_cmp_total places number place other)
    ∙ elim (eq_by_cmp nat_cmp other number) as (λ b. is_some (cond b (Some place) (finite.get places other)) ≡ true) [
      | true ↦ refl
      | false ↦ there
    ]

pub stand-put : (content : Content) (number : ℕ) (place : Place) → MarksStand content →
    place.offset ≤ length content.cells → MarksStand (put_in number place content)
stand-put content number place stand within other found is =
    by (eq_by_cmp nat_cmp other number) (sym (finite.get-insert nat_cmp_total content.marks number place other) ∙ is)
  where
    by : (b : Bool) → cond b (Some place) (finite.get content.marks other) ≡ Some found →
        found.offset ≤ length content.cells
    by true same = subst (λ (p : Place). p.offset ≤ length content.cells) (same_Some place found same) within
    by false same = stand other found same

pub mark_of-put : (places : Marks) (number : ℕ) (place : Place) →
    mark_of (finite.insert places number place) number ≡ place
mark_of-put places number place = ap (λ found. unwrap_or found new_mark) (get-put places number place)

pub mark_of-put_other : (places : Marks) (number : ℕ) (place : Place) (other : ℕ) → other ≢ number →
    mark_of (finite.insert places number place) other ≡ mark_of places other
mark_of-put_other places number place other apart =
    ap (λ found. unwrap_or found new_mark) (get-put_other places number place other apart)

-- the number of a mark is one for shared marks
pub shared-number : (table : SharedMarks) (at : ℕ) (mark : Mark) → AreMarks table →
    slice_get table.marks at ≡ Some mark → first_number ≤ mark.number
shared-number table at mark are is =
    (are.numbers at mark.number (mapped-at (λ (m : Mark). m.number) table.marks at mark is)).0

-- ---- the widgets' own marks

-- two stores have the same of them
abbrev AreOwnAlike : Marks → Marks → Type 0
AreOwnAlike one other = (number : ℕ) → number < first_number → finite.get one number ≡ finite.get other number

abbrev AreLow : List Named → Type 0
AreLow seats = (at : ℕ) (seat : Named) → slice_get seats at ≡ Some seat → seat.number < MOST_WIDGETS

are-low : (seats : List Named) → AreSeats seats → AreLow seats
are-low seats seated at seat is = seated.below at seat.number (mapped-at (λ (s : Named). s.number) seats at seat is)

widgets-alike : (journal : Journal) (one other : Marks) (seats : List Named) → AreOwnAlike one other → AreLow seats →
    map (widget_of journal one) seats ≡ map (widget_of journal other) seats
widgets-alike journal one other [] alike low = refl
widgets-alike journal one other (seat ∷ seats) alike low =
    let less = low 0 seat refl in
    let insert : mark_of one (2 * seat.number)
    ≡ mark_of other (2 * seat.number) = ap (λ found. unwrap_or found new_mark)
    (alike (2 * seat.number) (omega (arith, less))) in
    let current : mark_of one (2 * seat.number + 1)
    ≡ mark_of other (2 * seat.number + 1) = ap (λ found. unwrap_or found new_mark)
    (alike (2 * seat.number + 1) (omega (arith, less))) in
    let here : widget_of journal one seat ≡ widget_of journal other seat = λ i.
    record (widget_of journal other seat) { insert = insert i; current = current i } in
    ap₂ (λ (widget : Widget) widgets. widget ∷ widgets) here
    (widgets-alike journal one other seats alike (λ at. low (suc at)))

own-alike : (one other : Marks) (seats : List Named) → AreOwnAlike one other → AreLow seats →
    AllByRecursion (HasOwnMarks other) seats → AllByRecursion (HasOwnMarks one) seats
own-alike one other [] alike low own = tt
own-alike one other (seat ∷ seats) alike low own =
    let less = low 0 seat refl in (
      record {
        insert = ap is_some (alike (2 * seat.number) (omega (arith, less))) ∙ own.0.insert;
        current = ap is_some (alike (2 * seat.number + 1) (omega (arith, less))) ∙ own.0.current;
      },
      own-alike one other seats alike (λ at. low (suc at)) own.1,
    )

pub own-put : (places : Marks) (number : ℕ) (place : Place) (seats : List Named) →
    AllByRecursion (HasOwnMarks places) seats → AllByRecursion (HasOwnMarks (finite.insert places number place)) seats
own-put places number place [] own = tt
own-put places number place (seat ∷ seats) own = (
  record {
    insert = there-put places number place (2 * seat.number) own.0.insert;
    current = there-put places number place (2 * seat.number + 1) own.0.current;
  },
  own-put places number place seats own.1,
)

-- ---- what all of these leave

-- the parts with other marks
abbrev pub remarked : Parts → SharedMarks → Marks → Parts
remarked parts table places = record parts { marks = table; content = record parts.content { marks = places } }

pub leaves-remarked : (limits : LimitTable) (old : Parts) (table : SharedMarks) (places : Marks) (document : Document)
    (change : Change) → Stands old document → AreMarked table places
    → MarksStand (record old.content { marks = places }) → AllByRecursion (HasOwnMarks places) old.seats.entries →
    (length old.marks.marks ≤ limits.marks → length table.marks ≤ limits.marks)
    → change ≡ answered (document_of (remarked old table places)) Empty →
    Leaves limits (remarked old table places) document (Ok Empty) change
leaves-remarked limits old table places document change stands marked stand own few is =
    let kept = stands.sound.kept in
    does-changed stands (record {
      sound = record {
        kept = record {
          seats = kept.seats;
          slots = kept.slots;
          named = kept.named;
          text = kept.text;
          short = kept.short;
          marks = stand;
          own = own;
          known = kept.known;
          tags = kept.tags;
          roomy = kept.roomy;
        };
        marked = marked;
        orderly = stands.sound.orderly;
        views = record { anchored = stands.sound.views.anchored; seated = stands.sound.views.seated };
      };
      is = is;
      fits = λ fits. fits;
      tags = λ few. few;
      marks = few;
      seats = refl;
    })

-- ---- a mark of a widget's own

-- of these seats that of a name has a slot, and no other one
pub record HasSlot (name : List ℕ) (slot : ℕ) (seat : Named) : Type 0 where
  pub same : is_same name seat.name ≡ true → seat.number ≡ slot
  pub other : is_same name seat.name ≡ false → seat.number ≢ slot

abbrev pub HaveSlot : List ℕ → ℕ → List Named → Type 0
HaveSlot name slot seats = (at : ℕ) (seat : Named) → slice_get seats at ≡ Some seat → HasSlot name slot seat

have-slot : (seats : List Named) (place : ℕ) (one : Named) → AreSeats seats → slice_get seats place ≡ Some one →
    HaveSlot one.name one.number seats
have-slot seats place one seated stands at seat is = record {
  same = λ same.
      let name : one.name ≡ seat.name = (bytes_eq-Decides one.name seat.name).0 same in
      let there = seated.names_apart at place seat.name (mapped-at (λ (s : Named). s.name) seats at seat is)
      (mapped-at (λ (s : Named). s.name) seats place one stands ∙ ap Some name) in
      ap (λ (s : Named). s.number) (same_Some seat one (sym is ∙ ap (slice_get seats) there ∙ stands));
  other = λ other number.
      let there = seated.numbers_apart at place seat.number (mapped-at (λ (s : Named). s.number) seats at seat is)
      (mapped-at (λ (s : Named). s.number) seats place one stands ∙ ap Some (sym number)) in
      let name : seat.name ≡ one.name = ap (λ (s : Named). s.name)
      (same_Some seat one (sym is ∙ ap (slice_get seats) there ∙ stands)) in
      true≢false (sym ((bytes_eq-Decides one.name seat.name).1 (sym name)) ∙ other);
}

-- the widget of a slot changes alone
pub widgets-put : (after journal : Journal) (put places : Marks) (name : List ℕ) (slot : ℕ) (change : Widget →
    Widget) (seats : List Named) → HaveSlot name slot seats
    → ((seat : Named) → seat.number ≡ slot → widget_of after put seat ≡ change (widget_of journal places seat))
    → ((seat : Named) → seat.number ≢ slot → widget_of after put seat ≡ widget_of journal places seat)
    → map (widget_of after put) seats ≡ map (λ (other : Widget). if is_same name other.name then change other
    else other) (map (widget_of journal places) seats)
widgets-put after journal put places name slot change [] have one others = refl
widgets-put after journal put places name slot change (seat ∷ seats) have one others =
    let this = have 0 seat refl in
    let old : Widget = widget_of journal places seat in
    let here : widget_of after put seat ≡ (if is_same name seat.name then change old else old) =
    elim (is_same name seat.name) as (λ b. is_same name seat.name ≡ b →
    widget_of after put seat ≡ (if b then change old else old)) [
      | true ↦ λ same. one seat (this.same same)
      | false ↦ λ other. others seat (this.other other)
    ] refl in
    ap₂ (λ (widget : Widget) widgets. widget ∷ widgets) here
    (widgets-put after journal put places name slot change seats (λ at. have (suc at)) one others)

pub shared-alike : (table : SharedMarks) (places : Marks) (number : ℕ) (place : Place) → AreMarks table →
    number < first_number → AreAlike (finite.insert places number place) places table.marks
shared-alike table places number place are own at mark is =
    let shared = shared-number table at mark are is in
    get-put_other places number place mark.number (λ same. omega (arith, shared, own, same))

leaves-own : (limits : LimitTable) (old : Parts) (document : Document) (number : ℕ) (place : Place) (change : Change) →
    Stands old document → number < first_number → place.offset ≤ length old.content.cells
    → change ≡ answered (document_of (remarked old old.marks (finite.insert old.content.marks number place))) Empty
    → Leaves limits (remarked old old.marks (finite.insert old.content.marks number place)) document (Ok Empty) change
leaves-own limits old document number place change stands low within is =
    let marked = stands.sound.marked in
    let put = finite.insert old.content.marks number place in
    leaves-remarked limits old old.marks put document change stands
    (record {
      marks = marked.marks;
      roomy = marked.roomy;
      each = marked-alike put old.content.marks old.marks.marks
          (shared-alike old.marks old.content.marks number place marked.marks low) marked.each;
    })
    (stand-put old.content number place stands.sound.kept.marks within)
    (own-put old.content.marks number place old.seats.entries stands.sound.kept.own) (λ few. few) is

pub slot-there : (parts : Parts) (document : Document) (place slot : ℕ) → Stands parts document →
    (sits : Sits parts document place slot) → HaveSlot sits.seat.name slot parts.seats.entries
slot-there parts document place slot stands sits = subst (λ n. HaveSlot sits.seat.name n parts.seats.entries)
    sits.number (have-slot parts.seats.entries place sits.seat stands.sound.kept.seats sits.stands)

-- a document where one widget changes
abbrev turned_at : (Widget → Widget) → Document → Widget → Document
turned_at turn document widget = record document {
  widgets = map (λ (other : Widget). if is_same widget.name other.name then turn other else other) document.widgets;
}

-- one of the two marks is put, which turns its widget alone
leaves-turned_at : (limits : LimitTable) (old : Parts) (document : Document) (place slot number : ℕ) (target : Place)
    (changed : Content) (turn : Widget → Widget) → Stands old document → Sits old document place slot
    → number < first_number → target.offset ≤ length old.content.cells → changed ≡ put_in number target old.content
    → ((seat : Named) → seat.number ≡ slot
    → widget_of old.journal (finite.insert old.content.marks number target) seat
    ≡ turn (widget_of old.journal old.content.marks seat))
    → ((seat : Named) → seat.number ≢ slot
    → widget_of old.journal (finite.insert old.content.marks number target) seat
    ≡ widget_of old.journal old.content.marks seat)
    → Leaves limits (record old { content = changed }) document (Ok Empty)
    (answered (turned_at turn document (widget_at document place)) Empty)
leaves-turned_at limits old document place slot number target changed turn stands sits low within is one others =
    let places = old.content.marks in
    let put = finite.insert places number target in
    let change : Change = answered (turned_at turn document (widget_at document place)) Empty in
    let lone : Document = document_of old in
    let widgets = widgets-put old.journal old.journal put places sits.seat.name slot turn old.seats.entries
    (slot-there old document place slot stands sits) one others in
    let shared = placed-alike put places old.marks.marks
    (shared-alike old.marks places number target stands.sound.marked.marks low) in
    let made : document_of (remarked old old.marks put) ≡ turned_at turn lone (widget_of old.journal places sits.seat) =
    λ i. record lone { widgets = widgets i; marks = shared i } in
    let whole = made ∙ ap₂ (λ (d : Document) (w : Widget). turned_at turn d w) stands.is (sym sits.widget) in
    subst (λ (c : Content). Leaves limits (record old { content = c }) document (Ok Empty) change) (sym is)
    (leaves-own limits old document number target change stands low within
    (ap (λ (d : Document). answered d Empty) (sym whole)))

pub leaves-insert : (limits : LimitTable) (old : Parts) (document : Document) (place slot : ℕ) (target : Place)
    (changed : Content) → Stands old document → Sits old document place slot
    → target.offset ≤ length old.content.cells → changed ≡ put_in (2 * slot) target old.content
    → Leaves limits (record old { content = changed }) document (Ok Empty)
    (answered (with_insert document (widget_at document place) target) Empty)
leaves-insert limits old document place slot target changed stands sits within is =
    let places = old.content.marks in
    let put = finite.insert places (2 * slot) target in
    let less = sits.below in
    let current = λ (seat : Named). mark_of-put_other places (2 * slot) target (2 * seat.number + 1) (λ one.
    omega (arith, one)) in
    leaves-turned_at limits old document place slot (2 * slot) target changed
    (λ (widget : Widget). record widget { insert = target }) stands sits (omega (arith, less)) within is
    (λ seat same.
    let insert : mark_of put (2 * seat.number) ≡ target = ap (λ n. mark_of put (2 * n)) same
    ∙ mark_of-put places (2 * slot) target in
    λ i. record (widget_of old.journal places seat) { insert = insert i; current = current seat i })
    (λ seat other.
    let insert = mark_of-put_other places (2 * slot) target (2 * seat.number) (λ one. other (omega (arith, one))) in
    λ i. record (widget_of old.journal places seat) { insert = insert i; current = current seat i })

pub leaves-current : (limits : LimitTable) (old : Parts) (document : Document) (place slot : ℕ) (target : Place)
    (changed : Content) → Stands old document → Sits old document place slot
    → target.offset ≤ length old.content.cells → changed ≡ put_in (2 * slot + 1) target old.content
    → Leaves limits (record old { content = changed }) document (Ok Empty)
    (answered (with_current document (widget_at document place) target) Empty)
leaves-current limits old document place slot target changed stands sits within is =
    let places = old.content.marks in
    let put = finite.insert places (2 * slot + 1) target in
    let less = sits.below in
    let insert = λ (seat : Named). mark_of-put_other places (2 * slot + 1) target (2 * seat.number) (λ one.
    omega (arith, one)) in
    leaves-turned_at limits old document place slot (2 * slot + 1) target changed
    (λ (widget : Widget). record widget { current = target }) stands sits (omega (arith, less)) within is
    (λ seat same.
    let current : mark_of put (2 * seat.number + 1) ≡ target = ap (λ n. mark_of put (2 * n + 1)) same
    ∙ mark_of-put places (2 * slot + 1) target in
    λ i. record (widget_of old.journal places seat) { insert = insert seat i; current = current i })
    (λ seat other.
    let current = mark_of-put_other places (2 * slot + 1) target (2 * seat.number + 1) (λ one.
    other (omega (arith, one))) in
    λ i. record (widget_of old.journal places seat) { insert = insert seat i; current = current i })

-- where none is found, none is changed
pub map-other : {A : Type 0} (test : A → Bool) (turn : A → A) (xs : List A) → find test xs ≡ None →
    map (λ (x : A). if test x then turn x else x) xs ≡ xs
map-other test turn [] none = refl
map-other test turn (x ∷ xs) none =
    elim (test x) as (λ b. test x ≡ b → (if b then turn x else x) ∷ map (λ y. if test y then turn y else y) xs
    ≡ x ∷ xs) [
      | true ↦ λ same. absurd (none-some x (sym none ∙ ap (λ b. cond b (Some x) (find test xs)) same))
      | false ↦ λ other. ap (λ ys. x ∷ ys)
          (map-other test turn xs (sym (ap (λ b. cond b (Some x) (find test xs)) other) ∙ none))
    ] refl

-- of these marks those of a name have a number, and no others
pub record HasNumber (word : List ℕ) (number : ℕ) (mark : Mark) : Type 0 where
  pub same : is_named word mark ≡ true → mark.number ≡ number
  pub other : is_named word mark ≡ false → mark.number ≢ number

abbrev HaveNumber : List ℕ → ℕ → List Mark → Type 0
HaveNumber word number marks = (at : ℕ) (mark : Mark) → slice_get marks at ≡ Some mark → HasNumber word number mark

-- by a mark that stands there
have-number : (places : Marks) (word : List ℕ) (table : SharedMarks) → AreMarks table →
    (there : StandsMark places word table.marks 0) → HaveNumber word there.mark.number table.marks
have-number places word table are there at mark is = record {
  same = λ same.
      let name : word ≡ mark.name = (bytes_eq-Decides word mark.name).0 same in
      let one = are.names_apart at there.place mark.name (mapped-at (λ (m : Mark). m.name) table.marks at mark is)
      (mapped-at (λ (m : Mark). m.name) table.marks there.place there.mark there.listed
      ∙ ap Some (sym there.named ∙ name)) in
      ap (λ (m : Mark). m.number) (same_Some mark there.mark (sym is ∙ ap (slice_get table.marks) one ∙ there.listed));
  other = λ other number.
      let one = are.numbers_apart at there.place mark.number (mapped-at (λ (m : Mark). m.number) table.marks at mark is)
      (there.numbered ∙ ap Some (sym number)) in
      let name : mark.name ≡ word = ap (λ (m : Mark). m.name)
      (same_Some mark there.mark (sym is ∙ ap (slice_get table.marks) one ∙ there.listed)) ∙ sym there.named in
      true≢false (sym ((bytes_eq-Decides word mark.name).1 (sym name)) ∙ other);
}

placed-turned : (places : Marks) (word : List ℕ) (number : ℕ) (place : Place) (marks : List Mark) →
    HaveNumber word number marks
    → placed (finite.insert places number place) (turned word place.gravity marks)
    ≡ map (λ (mark : SharedMark). if is_same word mark.name then record mark { place = place }
    else mark) (placed places marks)
placed-turned places word number place [] have = refl
placed-turned places word number place (mark ∷ marks) have =
    let rest = placed-turned places word number place marks (λ at. have (suc at)) in
    let this = have 0 mark refl in
    ap₂ (λ (first : SharedMark) others. first ∷ others)
    (one (is_named word mark) this.same this.other refl) rest
  where
    one : (b : Bool) → (is_named word mark ≡ true → mark.number ≡ number) →
        (is_named word mark ≡ false → mark.number ≢ number) → is_named word mark ≡ b
        → ◌≡◌ {A = SharedMark} (record {
          name = (if b then record mark { gravity = place.gravity } else mark).name;
          place = mark_of (finite.insert places number place) (if b then record mark { gravity = place.gravity }
              else mark).number;
        })
        (if b then record { name = mark.name; place = place }
        else record { name = mark.name; place = mark_of places mark.number })
    one true same other is = ap (λ p. record { name = mark.name; place = p })
        (ap (mark_of (finite.insert places number place)) (same is) ∙ mark_of-put places number place)
    one false same other is =
        ap (λ p. record { name = mark.name; place = p }) (mark_of-put_other places number place mark.number (other is))

marked-turned : (places : Marks) (word : List ℕ) (number : ℕ) (place : Place) (marks : List Mark) →
    HaveNumber word number marks → AllByRecursion (IsMarked places) marks
    → AllByRecursion (IsMarked (finite.insert places number place)) (turned word place.gravity marks)
marked-turned places word number place [] have each = tt
marked-turned places word number place (mark ∷ marks) have each = (
  elim (is_named word mark) as (λ b. is_named word mark ≡ b →
      IsMarked (finite.insert places number place) (if b then record mark { gravity = place.gravity } else mark)) [
        | true ↦ λ same. record {
          stands = ap (λ n. option_map (λ (p : Place). p.gravity) (finite.get (finite.insert places number place) n))
              ((have 0 mark refl).same same)
              ∙ ap (option_map (λ (p : Place). p.gravity)) (get-put places number place);
          shared = each.0.shared;
        }
        | false ↦ λ other. record {
          stands = ap (option_map (λ (p : Place). p.gravity))
              (get-put_other places number place mark.number ((have 0 mark refl).other other)) ∙ each.0.stands;
          shared = each.0.shared;
        }
      ] refl,
  marked-turned places word number place marks (λ at. have (suc at)) each.1,
)

pub leaves-turned : (limits : LimitTable) (old : Parts) (new : SharedMarks) (changed : Content) (document : Document)
    (word : List ℕ) (number : ℕ) (place : Place) → Stands old document
    → place.offset ≤ length old.content.cells → number_of word old.marks.marks ≡ Some number → AreMarks new →
    new ≡ record old.marks { marks = turned word place.gravity old.marks.marks }
    → changed ≡ put_in number place old.content
    → Leaves limits (record old { marks = new; content = changed }) document (Ok Empty)
    (answered (with_shared document word place) Empty)
leaves-turned limits old new changed document word number place stands within known sound table is =
    let places = old.content.marks in
    let marks = old.marks.marks in
    let marked = stands.sound.marked in
    let change : Change = answered (with_shared document word place) Empty in
    elim (found_mark places word marks 0 marked.each) [
      | inl none ↦ absurd (none-some number (sym none.0 ∙ known))
      | inr there ↦
          let one : there.mark.number ≡ number = same_Some there.mark.number number (sym there.number ∙ known) in
          let have : HaveNumber word number marks = subst (λ n. HaveNumber word n marks) one
          (have-number places word old.marks marked.marks there) in
          let put = finite.insert places number place in
          let made_table : SharedMarks = record old.marks { marks = turned word place.gravity marks } in
          let apart = shared-number old.marks there.place there.mark marked.marks there.listed in
          let own : AreOwnAlike put places = λ other low.
          get-put_other places number place other (λ same. omega (arith, same, one, apart, low)) in
          let lone : Document = document_of old in
          let widgets = widgets-alike old.journal put places old.seats.entries own
          (are-low old.seats.entries stands.sound.kept.seats) in
          let shared : placed put (turned word place.gravity marks)
          ≡ (with_shared lone word place).marks = placed-turned places word number place marks have in
          let made : document_of (remarked old made_table put)
          ≡ with_shared lone word place = λ i. record lone { widgets = widgets i; marks = shared i } in
          let whole = made ∙ ap (λ (d : Document). with_shared d word place) stands.is in
          let count : length (turned word place.gravity marks) ≡ length marks = length-map marks _ in
          let left = leaves-remarked limits old made_table put document change stands
          (record {
            marks = subst AreMarks table sound;
            roomy = marked.roomy;
            each = marked-turned places word number place marks have marked.each;
          })
          (stand-put old.content number place stands.sound.kept.marks within)
          (own-put places number place old.seats.entries stands.sound.kept.own)
          (λ few. omega (arith, count, few)) (ap (λ (d : Document). answered d Empty) (sym whole)) in
          subst (λ (p : Parts). Leaves limits p document (Ok Empty) change) (λ i.
          record old { marks = sym table i; content = sym is i }) left
    ]

-- a mark that keeps its gravity leaves the table as it is
turned-same : (places : Marks) (word : List ℕ) (number : ℕ) (place : Place) (marks : List Mark) →
    HaveNumber word number marks → AllByRecursion (IsMarked places) marks
    → finite.get places number ≡ Some place → turned word place.gravity marks ≡ marks
turned-same places word number place [] have each stored = refl
turned-same places word number place (mark ∷ marks) have each stored =
    ap₂ (λ (first : Mark) others. first ∷ others)
    (elim (is_named word mark) as (λ b. is_named word mark ≡ b →
    (if b then record mark { gravity = place.gravity } else mark) ≡ mark) [
      | true ↦ λ same.
          let one = ap (λ n. option_map (λ (p : Place). p.gravity) (finite.get places n)) ((have 0 mark refl).same same) in
          let kept = same_Some place.gravity mark.gravity (sym (ap (option_map (λ (p : Place). p.gravity)) stored)
          ∙ sym one ∙ each.0.stands) in
          λ i. record mark { gravity = kept i }
      | false ↦ λ _. refl
    ] refl)
    (turned-same places word number place marks (λ at. have (suc at)) each.1 stored)

pub turned-kept : {old : Parts} {document : Document} (word : List ℕ) (number : ℕ) (found : Place) →
    Stands old document → number_of word old.marks.marks ≡ Some number
    → finite.get old.content.marks number ≡ Some found → turned word found.gravity old.marks.marks ≡ old.marks.marks
turned-kept {old} {document} word number found stands known stored =
    let marks = old.marks.marks in
    let marked = stands.sound.marked in
    elim (found_mark old.content.marks word marks 0 marked.each) [
      | inl none ↦ absurd (none-some number (sym none.0 ∙ known))
      | inr there ↦ turned-same old.content.marks word number found marks
          (subst (λ n. HaveNumber word n marks) (same_Some there.mark.number number (sym there.number ∙ known))
          (have-number old.content.marks word old.marks marked.marks there)) marked.each stored
    ]

each-append : (P : Mark → Type 0) (marks : List Mark) (mark : Mark) → AllByRecursion P marks → P mark →
    AllByRecursion P (marks ++ mark ∷ [])
each-append P [] mark each this = (this, tt)
each-append P (other ∷ marks) mark each this = (each.0, each-append P marks mark each.1 this)

few_enough : (limit count : ℕ) → count < limit → nat_le limit count ≡ false
few_enough limit count less = grind (arith, nat_tests)

pub leaves-made : (limits : LimitTable) (old : Parts) (new : SharedMarks) (changed : Content) (document : Document)
    (widget : Widget) (word : List ℕ) (offset : ℕ) → Stands old document
    → offset ≤ length old.content.cells → is_own word ≡ false → length old.marks.marks < limits.marks →
    IsMadeMark word offset old.marks new old.content changed
    → Leaves limits (record old { marks = new; content = changed }) document (Ok Empty)
    (set_found limits document widget word offset None)
leaves-made limits old new changed document widget word offset stands within shared few made =
    let places = old.content.marks in
    let marks = old.marks.marks in
    let marked = stands.sound.marked in
    let place : Place = record { offset = offset; gravity = Right } in
    let number = made.number in
    let mark : Mark = record { name = word; number = number; gravity = Right } in
    let made_table : SharedMarks = record old.marks { marks = marks ++ mark ∷ [] } in
    let put = finite.insert places number place in
    let alike : AreAlike put places marks = λ at other is.
    get-put_other places number place other.number (λ same.
    made.fresh.free (Contains-from_stands (numbers_of marks) number
    (at, mapped-at (λ (m : Mark). m.number) marks at other is ∙ ap Some same))) in
    let this : IsMarked put mark = record {
      stands = ap (option_map (λ (p : Place). p.gravity))
          (get-put places number place);
      shared = shared;
    } in
    let least = made.fresh.shared in
    let own : AreOwnAlike put places = λ other low.
    get-put_other places number place other (λ same. omega (arith, same, least, low)) in
    let lone : Document = document_of old in
    let widgets = widgets-alike old.journal put places old.seats.entries own
    (are-low old.seats.entries stands.sound.kept.seats) in
    let all : placed put (marks ++ mark ∷ []) ≡ lone.marks ++ record { name = word; place = place } ∷ [] =
    map-append (λ (m : Mark). record { name = m.name; place = mark_of put m.number }) marks (mark ∷ [])
    ∙ ap₂ (λ (ms : List SharedMark) (p : Place). ms ++ record { name = word; place = p } ∷ [])
    (placed-alike put places marks alike) (mark_of-put places number place) in
    let with_new : Document → Document = λ document.
    record document { marks = document.marks ++ record { name = word; place = place } ∷ [] } in
    let made_is : document_of (remarked old made_table put)
    ≡ with_new lone = λ i. record lone { widgets = widgets i; marks = all i } in
    let whole = made_is ∙ ap with_new stands.is in
    let long = marks-kept old document stands.is in
    let count : length (marks ++ mark ∷ []) ≡ length marks + 1 = length-append marks (mark ∷ []) in
    let room : nat_le limits.marks (length document.marks)
    ≡ false = few_enough limits.marks (length document.marks) (omega (arith, long, few)) in
    let change : set_found limits document widget word offset None
    ≡ answered (document_of (remarked old made_table put)) Empty =
    ap (λ b. if b then refused document TooManyMarks else answered (with_new document) Empty) room
    ∙ ap (λ (d : Document). answered d Empty) (sym whole) in
    let left = leaves-remarked limits old made_table put document (set_found limits document widget word offset None)
    stands
    (record {
      marks = subst AreMarks made.table made.sound;
      roomy = marked.roomy;
      each = each-append (IsMarked put) marks mark (marked-alike put places marks alike marked.each) this;
    })
    (stand-put old.content number place stands.sound.kept.marks within)
    (own-put places number place old.seats.entries stands.sound.kept.own)
    (λ _. omega (arith, count, few)) change in
    subst (λ (p : Parts). Leaves limits p document (Ok Empty) (set_found limits document widget word offset None)) (λ i.
    record old { marks = sym made.table i; content = sym made.store i }) left

abbrev IsIn : List ℕ → ℕ → Type 0
IsIn numbers number = (at : ℕ) × (slice_get numbers at ≡ Some number)

get-taken : (numbers : List ℕ) (places : Marks) (other : ℕ) → ¬ (IsIn numbers other) →
    finite.get (taken numbers places) other ≡ finite.get places other
get-taken [] places other free = refl
get-taken (number ∷ numbers) places other free =
    get-taken numbers (finite.remove places number) other (λ is. free (suc is.0, is.1))
    ∙ get-take_other places number other (λ same. free (0, ap Some (sym same)))

-- what stands among the numbers of marks of some names is the number of one
in-named : (places : Marks) (table : SharedMarks) (names : List (List ℕ)) (number : ℕ) →
    AllByRecursion (IsMarked places) table.marks → IsIn (numbers_named table.marks names) number
    → (word : List ℕ) × (is_among word names ≡ true) × (number_of word table.marks ≡ Some number)
in-named places table [] number each is = absurd (none-some number is.1)
in-named places table (name ∷ names) number each is =
    by (number_of name table.marks) refl (in-named places table names number each) is
  where
    by : (o : Option ℕ) → number_of name table.marks ≡ o
        → (IsIn (numbers_named table.marks names) number → (word : List ℕ) × (is_among word names ≡ true)
        × (number_of word table.marks ≡ Some number))
        → IsIn (cons_option o (numbers_named table.marks names)) number →
        (word : List ℕ) × (is_among word (name ∷ names) ≡ true) × (number_of word table.marks ≡ Some number)
    by None known later there = (let found = later there in
        (found.0, or_right (bytes_eq found.0 name) (is_among found.0 names) found.1, found.2))
    by (Some one) known later (zero, first) =
        (name, or_left (bytes_eq name name) (is_among name names) ((bytes_eq-Decides name name).1 refl), known ∙ first)
    by (Some one) known later (suc at, more) = (let found = later (at, more) in
        (found.0, or_right (bytes_eq found.0 name) (is_among found.0 names) found.1, found.2))

-- a mark that isn't named keeps its place
left-alike : (places : Marks) (table : SharedMarks) (names : List (List ℕ)) → AreMarks table →
    AllByRecursion (IsMarked places) table.marks → (at : ℕ) (mark : Mark) → slice_get table.marks at ≡ Some mark
    → is_left names mark.name ≡ true → finite.get (taken (numbers_named table.marks names) places) mark.number
    ≡ finite.get places mark.number
left-alike places table names are each at mark is left =
    get-taken (numbers_named table.marks names) places mark.number (λ in_them.
    let found = in-named places table names mark.number each in_them in
    elim (found_mark places found.0 table.marks 0 each) [
      | inl none ↦ absurd (none-some mark.number (sym none.0 ∙ found.2))
      | inr there ↦
          let number : there.mark.number ≡ mark.number = same_Some there.mark.number mark.number (sym there.number
          ∙ found.2) in
          let have = have-number places found.0 table are there at mark is in
          elim (is_named found.0 mark) as (λ b. is_named found.0 mark ≡ b → ⊥) [
            | true ↦ λ same.
                let name : mark.name ≡ found.0 = sym ((bytes_eq-Decides found.0 mark.name).0 same) in
                true≢false (sym left ∙ ap (λ word. not (is_among word names)) name ∙ ap not found.1)
            | false ↦ λ other. have.other other (sym number)
          ] refl
    ])

placed-left : (one places : Marks) (names : List (List ℕ)) (marks : List Mark)
    → ((at : ℕ) (mark : Mark) → slice_get marks at ≡ Some mark → is_left names mark.name ≡ true →
    finite.get one mark.number ≡ finite.get places mark.number)
    → placed one (marks_left names marks) ≡ filter (λ (mark : SharedMark). is_left names mark.name)
    (placed places marks)
placed-left one places names [] alike = refl
placed-left one places names (mark ∷ marks) alike =
    let rest = placed-left one places names marks (λ at. alike (suc at)) in
    elim (is_left names mark.name) as (λ b. is_left names mark.name ≡ b →
    placed one (cond b (mark ∷ marks_left names marks) (marks_left names marks))
    ≡ cond b (record { name = mark.name; place = mark_of places mark.number }
    ∷ filter (λ (m : SharedMark). is_left names m.name) (placed places marks))
    (filter (λ (m : SharedMark). is_left names m.name) (placed places marks))) [
      | true ↦ λ left. ap₂ (λ found others. record { name = mark.name; place = unwrap_or found new_mark } ∷ others)
          (alike 0 mark refl left) rest
      | false ↦ λ _. rest
    ] refl

marked-left : (one places : Marks) (names : List (List ℕ)) (marks : List Mark)
    → ((at : ℕ) (mark : Mark) → slice_get marks at ≡ Some mark → is_left names mark.name ≡ true →
    finite.get one mark.number ≡ finite.get places mark.number)
    → AllByRecursion (IsMarked places) marks → AllByRecursion (IsMarked one) (marks_left names marks)
marked-left one places names [] alike each = tt
marked-left one places names (mark ∷ marks) alike each =
    let rest = marked-left one places names marks (λ at. alike (suc at)) each.1 in
    elim (is_left names mark.name) as (λ b. is_left names mark.name ≡ b →
    AllByRecursion (IsMarked one) (cond b (mark ∷ marks_left names marks) (marks_left names marks))) [
      | true ↦ λ left. (
        record {
          stands = ap (option_map (λ (place : Place). place.gravity)) (alike 0 mark refl left) ∙ each.0.stands;
          shared = each.0.shared;
        },
        rest,
      )
      | false ↦ λ _. rest
    ] refl

shorter : (names : List (List ℕ)) (marks : List Mark) → length (marks_left names marks) ≤ length marks
shorter names [] = omega arith
shorter names (mark ∷ marks) =
    let rest = shorter names marks in
    elim (is_left names mark.name) as (λ b. length (cond b (mark ∷ marks_left names marks) (marks_left names marks))
    ≤ length (mark ∷ marks)) [
      | true ↦ omega (arith, rest)
      | false ↦ omega (arith, rest)
    ]

pub stand-taken : (numbers : List ℕ) (content : Content) → MarksStand content →
    MarksStand (record content { marks = taken numbers content.marks })
stand-taken [] content stand = stand
stand-taken (number ∷ numbers) content stand =
    stand-taken numbers (record content { marks = finite.remove content.marks number }) (λ other found is.
    by other found (eq_by_cmp nat_cmp other number) (sym (finite.get-remove nat_cmp_total content.marks number other)
    ∙ is))
  where
    by : (other : ℕ) (found : Place) (b : Bool) → cond b None (finite.get content.marks other) ≡ Some found →
        found.offset ≤ length content.cells
    by other found true never = absurd (none-some found never)
    by other found false same = stand other found same

pub leaves-unset : {old : Parts} {new : SharedMarks} {changed : Content} {document : Document} {numbers : List ℕ}
    (limits : LimitTable) (names : List (List ℕ)) → Stands old document → (AreMarks old.marks → AreMarks new)
    → new ≡ record old.marks { marks = marks_left names old.marks.marks } →
    numbers ≡ numbers_named old.marks.marks names → changed
    ≡ record old.content { marks = taken numbers old.content.marks }
    → Leaves limits (record old { marks = new; content = changed }) document (Ok Empty) (mark_unset document names)
leaves-unset {old} {new} {changed} {document} {numbers} limits names stands sound table gone store =
    let marked = stands.sound.marked in
    let marks = old.marks.marks in
    let places = taken (numbers_named marks names) old.content.marks in
    let made_table : SharedMarks = record old.marks { marks = marks_left names marks } in
    let is : changed ≡ record old.content { marks = places } = store
    ∙ ap (λ ns. record old.content { marks = taken ns old.content.marks }) gone in
    let alike = left-alike old.content.marks old.marks names marked.marks marked.each in
    let own : AreOwnAlike places old.content.marks = λ number less.
    get-taken (numbers_named marks names) old.content.marks number (λ in_them.
    let found = in-named old.content.marks old.marks names number marked.each in_them in
    elim (found_mark old.content.marks found.0 marks 0 marked.each) [
      | inl none ↦ none-some number (sym none.0 ∙ found.2)
      | inr there ↦
          let one : there.mark.number ≡ number = same_Some there.mark.number number (sym there.number ∙ found.2) in
          let shared = shared-number old.marks there.place there.mark marked.marks there.listed in
          omega (arith, one, shared, less)
    ]) in
    let low = are-low old.seats.entries stands.sound.kept.seats in
    let lone : Document = document_of old in
    let widgets = widgets-alike old.journal places old.content.marks old.seats.entries own low in
    let left : placed places (marks_left names marks)
    ≡ filter (λ (mark : SharedMark). is_left names mark.name) lone.marks = placed-left places old.content.marks
    names marks alike in
    let with_left : Document → Document = λ document.
    record document { marks = filter (λ (mark : SharedMark). is_left names mark.name) document.marks } in
    let made : document_of (remarked old made_table places)
    ≡ with_left lone = λ i. record lone { widgets = widgets i; marks = left i } in
    let whole = made ∙ ap with_left stands.is in
    let count = shorter names marks in
    let done = leaves-remarked limits old made_table places document (mark_unset document names) stands
    (record {
      marks = subst AreMarks table (sound marked.marks);
      roomy = marked.roomy;
      each = marked-left places old.content.marks names marks alike marked.each;
    })
    (stand-taken (numbers_named marks names) old.content stands.sound.kept.marks)
    (own-alike places old.content.marks old.seats.entries own low stands.sound.kept.own)
    (λ few. omega (arith, count, few)) (ap (λ (d : Document). answered d Empty) (sym whole)) in
    subst (λ (p : Parts). Leaves limits p document (Ok Empty) (mark_unset document names)) (λ i.
    record old { marks = sym table i; content = sym is i }) done
