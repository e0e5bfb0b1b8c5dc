-- The marks that a widget can use in their order: by their places in its view, and by those in the text.
use Rattle.documents.proofs.Common.{◌≡◌, ◌≢◌, ℕ, ◌+◌, ◌-◌, ◌*◌, ◌<◌, ◌≤◌, min, max, Bool, true, false, List, [], ◌∷◌}
use Rattle.documents.proofs.Common.{◌++◌, map, refl, sym, ap, ap₂, ◌∙◌, arith, subst, true≢false, eq-eqb, nat_le}
use Rattle.documents.proofs.Common.{is_some, unwrap_or, if◌then◌else◌, AllByRecursion, false≢true, nat_tests}
use Rattle.documents.proofs.Common.{map-append, Shown, usable, Mark, MOST_CHARS, Place, Marks, Anchors, new_mark}
use Rattle.documents.proofs.Common.{Document, Parts, SharedMark, Widget, mark_of, placed, whole, widget_at, IsMarked}
use Rattle.documents.proofs.Common.{Stands, shared_from, shown_at, usable_marks, origin_in, slice_get, eqb-true, get_or}
use Rattle.documents.proofs.Common.{length, Option, None, Some, ◌&&◌, ◌==◌, WidgetMark, shifted, AreBelow}
use Rattle.mark_table.specs.declared.order.MarkView.{MarkView}
use Rattle.mark_table.specs.declared.order.Origin.{Origin}
use Rattle.mark_table.specs.SharedMarks.{numbers_of}
use Rattle.documents.proofs.MeaningLaws.{current-is, insert-is}
use Rattle.documents.proofs.PartsLaws.{Sits, sits}
use Rattle.documents.proofs.PlacedLaws.{marked-there}
use Rattle.documents.proofs.ViewLaws.{end-is, end_in, ordered-is, start-is, start_in, within-is}
use Rattle.std.specs.FinMap as finite
use Rattle.mark_table.specs.Order as order
use Rattle.name_list.specs.Names as names
use Rattle.text_index.specs.Views as view

-- ---- the marks that are usable

module _ (start end : ℕ) (ordered : start ≤ end) (slot : ℕ) where
  abbrev bounds : MarkView
  bounds = record { widget = record { 0 = slot }; start = start; end = end }

  own-places : (offset : ℕ) → (if start == end then start else max start (min offset (end - 1)))
      ≡ min (offset - start) (end - start - 1) + start
  own-places offset = elim (start == end) as (λ b. (start == end) ≡ b →
      (if b then start else max start (min offset (end - 1))) ≡ min (offset - start) (end - start - 1) + start) [
        | true ↦ λ same. let h : start ≡ end = eqb-true start end same in omega (arith, h)
        | false ↦ λ other. let h : start ≢ end = λ is. true≢false (sym (eq-eqb start end is) ∙ other) in
            omega (arith, h, ordered)
      ] refl

  own-shown : (rank : ℕ) (found : Option Place) → is_some found ≡ true →
      order.own_mark bounds rank found ≡ map (shifted start)
      (shown_at rank (Some (view.own_place start end (unwrap_or found new_mark))))
  own-shown rank None there = absurd (false≢true there)
  own-shown rank (Some place) there = ap (λ (p : ℕ). record { place = p; rank = rank } ∷ []) (own-places place.offset)

  shared-one : (rank : ℕ) (found : Option Place) → is_some found ≡ true →
      order.shared_mark bounds rank found ≡ map (shifted start)
      (shown_at rank (view.shared_place start end (unwrap_or found new_mark)))
  shared-one rank None there = absurd (false≢true there)
  shared-one rank (Some place) there =
      elim (nat_le start place.offset) as (λ b. nat_le start place.offset ≡ b
      → ◌≡◌ {A = List Shown} (if b && nat_le place.offset end then record { place = place.offset; rank = rank } ∷ []
      else [])
      (map (shifted start) (shown_at rank (if b && nat_le place.offset end then Some (place.offset - start)
      else None)))) [
        | true ↦ λ after.
            let h : start ≤ place.offset = grind (arith, nat_tests) in
            by (let e : place.offset ≡ place.offset - start + start = omega (arith, h) in e) (nat_le place.offset end)
        | false ↦ λ _. refl
      ] refl
    where
      by : place.offset ≡ place.offset - start + start → (b : Bool)
          → ◌≡◌ {A = List Shown} (if b then record { place = place.offset; rank = rank } ∷ []
          else []) (map (shifted start) (shown_at rank (if b then Some (place.offset - start) else None)))
      by same true = ap (λ (p : ℕ). record { place = p; rank = rank } ∷ []) same
      by same false = refl

  shared-shown : (places : Marks) (rank : ℕ) (marks : List Mark) → AllByRecursion (IsMarked places) marks
      → order.shared_marks bounds places rank (numbers_of marks)
      ≡ map (shifted start) (shared_from start end rank (placed places marks))
  shared-shown places rank [] each = refl
  shared-shown places rank (mark ∷ marks) each =
      ap₂ (λ (some others : List Shown). some ++ others)
      (shared-one rank (finite.get places mark.number) (marked-there places mark each.0))
      (shared-shown places (rank + 1) marks each.1)
      ∙ sym (map-append (shifted start) (shown_at rank (view.shared_place start end (mark_of places mark.number)))
      (shared_from start end (rank + 1) (placed places marks)))

  -- none stands behind the end
  abbrev IsIn : Shown → Type 0
  IsIn mark = mark.place + start ≤ end

  both-in : (xs ys : List Shown) → AllByRecursion IsIn xs → AllByRecursion IsIn ys → AllByRecursion IsIn (xs ++ ys)
  both-in [] ys in_xs in_ys = in_ys
  both-in (x ∷ xs) ys in_xs in_ys = (in_xs.0, both-in xs ys in_xs.1 in_ys)

  own-in : (rank : ℕ) (place : Place) → AllByRecursion IsIn (shown_at rank (Some (view.own_place start end place)))
  own-in rank place =
      (let h : min (place.offset - start) (end - start - 1) + start ≤ end = omega (arith, ordered) in h, tt)

  one-in : (rank : ℕ) (place : Place) → AllByRecursion IsIn (shown_at rank (view.shared_place start end place))
  one-in rank place =
      elim (nat_le start place.offset) as (λ b. nat_le start place.offset ≡ b →
      AllByRecursion IsIn (shown_at rank (if b && nat_le place.offset end then Some (place.offset - start)
      else None))) [
        | true ↦ λ after. elim (nat_le place.offset end) as (λ b. nat_le place.offset end ≡ b →
            AllByRecursion IsIn (shown_at rank (if b then Some (place.offset - start) else None))) [
              | true ↦ λ before.
                  let low : start ≤ place.offset = grind (arith, nat_tests) in
                  let high : place.offset ≤ end = grind (arith, nat_tests) in
                  (let h : place.offset - start + start ≤ end = omega (arith, low, high) in h, tt)
              | false ↦ λ _. tt
            ] refl
        | false ↦ λ _. tt
      ] refl

  shared-in : (rank : ℕ) (marks : List SharedMark) → AllByRecursion IsIn (shared_from start end rank marks)
  shared-in rank [] = tt
  shared-in rank (mark ∷ marks) = both-in (shown_at rank (view.shared_place start end mark.place))
      (shared_from start end (rank + 1) marks) (one-in rank mark.place) (shared-in (rank + 1) marks)

-- the marks of a widget's own and the shared ones, between two bounds
abbrev listed : ℕ → ℕ → Place → Place → List SharedMark → List Shown
listed start end insert current marks =
    shown_at 0 (Some (view.own_place start end insert))
    ++ (shown_at 1 (Some (view.own_place start end current)) ++ shared_from start end 2 marks)

module _ (parts : Parts) (document : Document) (place slot : ℕ) (stands : Stands parts document)
    (sits : Sits parts document place slot) where
  abbrev widget : Widget
  widget = widget_at document place

  abbrev start : ℕ
  start = start_in parts slot

  abbrev end : ℕ
  end = end_in parts slot

  abbrev places : Marks
  places = parts.content.marks

  abbrev shared : List SharedMark
  shared = placed places parts.marks.marks

  listed-is : listed start end (mark_of places (2 * slot)) (mark_of places (2 * slot + 1)) shared
      ≡ usable_marks document widget
  listed-is =
      sym (λ i. listed (start-is parts document place slot stands sits i)
      (end-is parts document place slot stands sits i) (insert-is parts document place slot stands sits i)
      (current-is parts document place slot stands sits i) (sym stands.is i).marks)

  pub usable-is : usable (record { widget = record { 0 = slot }; start = start; end = end }) places
      (numbers_of parts.marks.marks) ≡ map (shifted start) (usable_marks document widget)
  usable-is =
      let ordered = ordered-is parts document place slot stands sits in
      let first = shown_at 0 (Some (view.own_place start end (mark_of places (2 * slot)))) in
      let second = shown_at 1 (Some (view.own_place start end (mark_of places (2 * slot + 1)))) in
      let others = shared_from start end 2 shared in
      ap₂ (λ (some others : List Shown). some ++ others)
      (own-shown start end ordered slot 0 (finite.get places (2 * slot)) sits.insert)
      (ap₂ (λ (some others : List Shown). some ++ others)
      (own-shown start end ordered slot 1 (finite.get places (2 * slot + 1)) sits.current)
      (shared-shown start end ordered slot places 2 parts.marks.marks stands.sound.marked.each))
      ∙ sym (map-append (shifted start) first (second ++ others)
      ∙ ap (λ marks. map (shifted start) first ++ marks) (map-append (shifted start) second others))
      ∙ ap (map (shifted start)) listed-is

  pub usable-below : (most : ℕ) → MOST_CHARS < most → AreBelow most start (usable_marks document widget)
  usable-below most room =
      let ordered = ordered-is parts document place slot stands sits in
      let within = within-is parts document place slot stands sits in
      let short = stands.sound.kept.short in
      let insert = mark_of places (2 * slot) in
      let current = mark_of places (2 * slot + 1) in
      let inside = both-in start end ordered slot (shown_at 0 (Some (view.own_place start end insert)))
      (shown_at 1 (Some (view.own_place start end current)) ++ shared_from start end 2 shared)
      (own-in start end ordered slot 0 insert)
      (both-in start end ordered slot (shown_at 1 (Some (view.own_place start end current)))
      (shared_from start end 2 shared) (own-in start end ordered slot 1 current)
      (shared-in start end ordered slot 2 shared)) in
      subst (AreBelow most start) listed-is (lower (listed start end insert current shared) inside
      (omega (arith, within, short, room)))
    where
      lower : (marks : List Shown) → AllByRecursion (λ (mark : Shown). mark.place + start ≤ end) marks → end < most →
          AreBelow most start marks
      lower [] each under = tt
      lower (mark ∷ marks) each under = (omega (arith, each.0, under), lower marks each.1 under)

-- what is answered of the usable marks, from an origin: the next mark, or the previous one
pub answer-found : {parts : Parts} {document : Document} {slot long : ℕ} {anchors : List Anchors}
    {bounds : MarkView} {from : Origin} {found : Option WidgetMark} (place most : ℕ) (origin : Origin)
    (answer : Origin → List Shown → Option WidgetMark) → ((most start : ℕ) (origin : Origin) (marks : List Shown)
    → AreBelow most start marks → answer (origin_in most start origin) (map (shifted start) marks)
    ≡ answer origin marks)
    → Stands parts document → slice_get (names.numbers_of parts.seats.entries) place ≡ Some slot →
    anchors ≡ parts.journal.anchors → long ≡ length parts.content.cells
    → bounds ≡ record {
      widget = record { 0 = slot };
      start = unwrap_or (get_or anchors slot whole).start 0;
      end = unwrap_or (get_or anchors slot whole).end long;
    } → from ≡ origin_in most bounds.start origin →
    MOST_CHARS < most → found ≡ answer from (usable bounds parts.content.marks (numbers_of parts.marks.marks))
    → found ≡ answer origin (usable_marks document (widget_at document place))
answer-found {parts} {document} {slot} {bounds = bounds} place most origin answer same stands number held counts bound
    moved room is =
    let seated = sits place stands number in
    let view_is : bounds ≡ record {
      widget = record { 0 = slot };
      start = start_in parts slot;
      end = end_in parts slot;
    } = bound
    ∙ (λ i. record {
      widget = record { 0 = slot };
      start = unwrap_or (get_or (held i) slot whole).start 0;
      end = unwrap_or (get_or (held i) slot whole).end (counts i);
    }) in
    is ∙ ap (λ o. answer o (usable bounds parts.content.marks (numbers_of parts.marks.marks))) moved
    ∙ ap (λ (b : MarkView). answer (origin_in most b.start origin)
    (usable b parts.content.marks (numbers_of parts.marks.marks))) view_is
    ∙ ap (answer (origin_in most (start_in parts slot) origin)) (usable-is parts document place slot stands seated)
    ∙ same most (start_in parts slot) origin (usable_marks document (widget_at document place))
    (usable-below parts document place slot stands seated most room)
