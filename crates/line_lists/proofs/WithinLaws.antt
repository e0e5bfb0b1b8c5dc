-- An edit of one line that is made in it: the slots of a text that comes where none is toggled, what is counted, and
-- the text after it.
use Rattle.line_lists.proofs.Common.{◌≡◌, ℕ, zero, suc, ◌+◌, ◌<◌, ◌≤◌, ◌&&◌, ◌==◌, Bool, true, false, cond, List, []}
use Rattle.line_lists.proofs.Common.{◌∷◌, Option, Some, None, length, map, take, refl, sym, ap, ap₂, subst, ◌∙◌, arith}
use Rattle.line_lists.proofs.Common.{slice_get, get_or, get_or_from_slice_get, if◌then◌else◌, ◌-◌, Cell, nat_tests}
use Rattle.line_lists.proofs.Common.{length-map, nat_cmp_total, nat_cmp, is_some, option_map, Place, Marks, Slots}
use Rattle.line_lists.proofs.Common.{map_marks, get-map_marks, after, Step, StepFitsIn, LineContent, differing, parity}
use Rattle.line_lists.proofs.Common.{toggles, tags_before, tags_left_of, AreLines, Holds, IsCounted, count_of, plus}
use Rattle.line_lists.proofs.Common.{CanMark, has_mark, spliced, IsChangedBy, content_of, whole, slot_sets}
use Rattle.line_lists.proofs.Common.{slots_left_of, shared_slots, same_slots, CanEdit, line_count, ◌^◌, not, lines}
use Rattle.line_lists.proofs.Common.{SomeIff, Column, toggled_more, after_text, Insert, SetTag, TagSlot, set_slot}
use Rattle.line_lists.proofs.Common.{with_cleared, PutMark, MarkNo, IsAt, without_mark, with_mark, with_toggled}
use Rattle.line_lists.proofs.Common.{length-changed, reset, toggled_if, beq, differing-self}
use Rattle.line_lists.proofs.ClearingLaws.{length-cleared}
use Rattle.line_lists.proofs.LineChangeLaws.{change-can, change-new, column-inside, inserted-changed, tagged-changed}
use Rattle.line_lists.proofs.LineChangeLaws.{marked-changed, toggled-one}
use Rattle.line_lists.proofs.PlaceRows.{tags-at, tags-before}
use Rattle.line_lists.proofs.StepTexts.{toggled-empty}
use Rattle.line_lists.proofs.SwitchLaws.{switched_one, unswitched}
use Rattle.line_lists.proofs.WholeLaws.{length-toggled}
use Rattle.std.specs.FinMap as finite
use Rattle.std.specs.FinSet as set

-- ---- marks
few-more : (b : Bool) (n most : ℕ) → n ≤ most → cond b n (n + 1) ≤ suc most
few-more true n most few = omega (arith, few)
few-more false n most few = omega (arith, few)

few-entries : (entries : List (ℕ × Place)) → finite.len (finite.from_entries {R = nat_cmp} entries) ≤ length entries
few-entries [] = omega (arith, finite.len-empty nat_cmp Place)
few-entries (entry ∷ entries) =
    let rest = finite.from_entries {R = nat_cmp} entries in
    subst (λ n. n ≤ suc (length entries)) (sym (finite.len-insert nat_cmp_total rest entry.0 entry.1))
    (few-more (finite.contains_key rest entry.0) (finite.len rest) (length entries) (few-entries entries))

pub few-marks : (f : Place → Place) (marks : Marks) → finite.len (map_marks f marks) ≤ finite.len marks
few-marks f marks =
    let at : ℕ × Place → ℕ × Place = λ entry. (entry.0, f entry.1) in
    omega (
      arith,
      few-entries (map at (finite.entries marks)),
      length-map (finite.entries marks) at,
      finite.len-entries marks,
    )

some-mapped : (f : Place → Place) (found : Option Place) → is_some (option_map f found) ≡ is_some found
some-mapped f None = refl
some-mapped f (Some place) = refl

pub same-marked : (f : Place → Place) (marks : Marks) (number : ℕ) →
    is_some (finite.get (map_marks f marks) number) ≡ is_some (finite.get marks number)
same-marked f marks number = ap is_some (get-map_marks f marks number) ∙ some-mapped f (finite.get marks number)

-- ---- the slots on both sides of a place at which none is toggled
both-same : (b : Bool) → (b && b) ≡ b
both-same true = refl
both-same false = refl

intersection-self : (slots : Slots) → set.intersection slots slots ≡ slots
intersection-self slots =
    same_slots _ _ (λ q. set.contains-intersection nat_cmp_total slots slots q ∙ both-same (set.contains slots q))

shared-is : (offset : ℕ) (cells : List Cell) (slots : Slots) → slots_left_of offset cells ≡ slots →
    slice_get (slot_sets cells) offset ≡ Some slots → shared_slots offset cells ≡ slots
shared-is zero cells slots left here = left
shared-is (suc n) cells slots left here =
    let other : (suc n == 0) ≡ false = grind (arith, nat_tests) in
    let back : suc n - 1 ≡ n = omega arith in
    let sets = slot_sets cells in
    ap (λ (b : Bool). if b then set.empty else set.intersection (get_or sets (suc n - 1) set.empty)
    (get_or sets (suc n) set.empty)) other
    ∙ ap₂ set.intersection (ap (λ k. get_or sets k set.empty) back ∙ left)
    (get_or_from_slice_get sets (suc n) slots set.empty here)
    ∙ intersection-self slots

-- ---- what is counted
-- a sum that was made
pub sum-made : (found : Option ℕ) (bound sum made : ℕ) → SomeIff found (sum < bound) sum → found ≡ Some made →
    (sum < bound) × (made ≡ sum)
sum-made found bound sum made says is = subst (λ o. SomeIff o (sum < bound) sum) is says

pub longer-counted : (list : List LineContent) (line longer : LineContent) (more : ℕ) →
    (count_of list).lines + 1 < 2 ^ 64 → (count_of list).characters + length line.columns + more < 2 ^ 64
    → (count_of list).marks + (line_count line).marks < 2 ^ 64
    → length longer.columns ≤ length line.columns + more → finite.len longer.marks ≤ finite.len line.marks
    → IsCounted (plus (count_of list) (count_of (longer ∷ [])))
longer-counted list line longer more lines characters marks long few = record {
  lines = omega (arith, lines);
  characters = omega (arith, characters, long);
  marks = omega (arith, marks, few);
}

pub marked-counted : (list : List LineContent) (line : LineContent) (number : ℕ) (place : Place) →
    (count_of list).lines + 1 < 2 ^ 64 → (count_of list).characters + length line.columns < 2 ^ 64
    → (count_of list).marks + (line_count line).marks + 1 < 2 ^ 64
    → IsCounted (plus (count_of list) (count_of (with_mark number place line ∷ [])))
marked-counted list line number place lines characters marks =
    let len = finite.len line.marks in
    let more = subst (λ n. n ≤ suc len) (sym (finite.len-insert nat_cmp_total line.marks number place))
    (few-more (finite.contains_key line.marks number) len len (omega arith)) in
    record {
      lines = omega (arith, lines);
      characters = omega (arith, characters);
      marks = omega (arith, marks, more);
    }

-- ---- a slot that is toggled at a column where it isn't on as it is to be
pub switched-if : (was on : Bool) (slot column : ℕ) (tags : Slots) (line : LineContent) → column < length line.columns →
    was ≡ set.contains tags slot
    → record line { columns = toggled_if (not (beq was on)) slot column line.columns }
    ≡ with_toggled column (differing tags (set_slot slot on tags)) line
switched-if true true slot column tags line within is =
    toggled-empty column _ line (sym (unswitched tags slot true (sym is)))
switched-if false false slot column tags line within is =
    toggled-empty column _ line (sym (unswitched tags slot false (sym is)))
switched-if true false slot column tags line within is =
    toggled-one column (set.insert set.empty slot) line _ within refl refl
    ∙ ap (λ (s : Slots). with_toggled column s line) (switched_one tags slot false (sym is))
switched-if false true slot column tags line within is =
    toggled-one column (set.insert set.empty slot) line _ within refl refl
    ∙ ap (λ (s : Slots). with_toggled column s line) (switched_one tags slot true (sym is))

length-if : (on : Bool) (slot at : ℕ) (columns : List Column) → at < length columns →
    length (toggled_if on slot at columns) ≡ length columns
length-if true slot at columns within =
    length-changed (toggled_more (set.insert set.empty slot)) at (at + 1) columns (omega arith) (omega (arith, within))
length-if false slot at columns within = refl

pub length-reset : (slot from to : ℕ) (first last : Bool) (line : LineContent) → from ≤ to → to < length line.columns →
    length (reset slot from to first last line.columns) ≡ length line.columns
length-reset slot from to first last line ordered within =
    let bare = length-cleared slot from to line ordered (omega (arith, within)) in
    let one = length-if first slot from (with_cleared slot from to line).columns (omega (arith, ordered, within, bare)) in
    length-if last slot to (toggled_if first slot from (with_cleared slot from to line).columns)
    (omega (arith, within, bare, one)) ∙ one ∙ bare

module _ {list : List LineContent} {offset k column : ℕ} {here : LineContent} (are : AreLines list)
    (holds : Holds list offset k column) (is : slice_get list k ≡ Some here) where
  -- where nothing is toggled before the character, a text with the slots of both sides needs no toggle
  pub shared-untoggled : tags_before column here.columns ≡ parity (toggles (take column here.columns)) →
      set.empty
      ≡ differing (differing (count_of (take k list)).parity (tags_left_of (take column here.columns)))
      (shared_slots offset (content_of list).cells)
  shared-untoggled free =
      let slots = differing (count_of (take k list)).parity (tags_left_of (take column here.columns)) in
      sym (ap (differing slots) (shared-is offset (content_of list).cells slots
      (tags-before list offset k column here holds is)
      (tags-at list offset k column here holds is
      ∙ ap (λ s. Some (differing (count_of (take k list)).parity s)) free))
      ∙ differing-self slots)

  pub put-changed : (text : List ℕ) → lines text ≡ 0 →
      tags_before column here.columns ≡ parity (toggles (take column here.columns))
      → IsChangedBy (Insert offset text (shared_slots offset (content_of list).cells)) list
      (record { taken = None; index = k; line = after_text column text here })
  put-changed text free untoggled =
      let end = column + length text in
      let one = after_text column text here in
      inserted-changed are holds is {differ = set.empty} {end = end} {one = one} free refl refl
      (toggled-empty end set.empty one refl ∙ toggled-empty column set.empty (with_toggled end set.empty one) refl)
      (shared-untoggled untoggled)

  pub mark-changed : {number : MarkNo} {place : Place} → place.offset ≡ offset → offset ≤ length (whole list).columns →
      IsChangedBy (PutMark number place) list (record {
        taken = Some number;
        index = k;
        line = with_mark number.0 (record place { offset = column }) here;
      })
  mark-changed {number} {place} stands most =
      let at : IsAt list place.offset k column = record {
        behind = stands ∙ holds.behind;
        within = holds.within;
        inside = λ more. holds.inside;
      } in
      marked-changed are at is (omega (arith, stands, most)) refl

  pub reset-changed : {to end : ℕ} {slot : TagSlot} {on first last : Bool} → offset < to →
      to ≤ length (whole list).columns → end ≡ column + (to - offset) → end < length here.columns
      → first ≡ set.contains (differing (count_of (take k list)).parity (tags_left_of (take column here.columns))) slot.0
      → last ≡ set.contains (differing (count_of (take k list)).parity (tags_left_of (take end here.columns))) slot.0
      → IsChangedBy (SetTag offset to slot on) list (record {
        taken = None;
        index = k;
        line = record here {
          columns = reset slot.0 column end (not (beq first on)) (not (beq last on)) here.columns;
        };
      })
  reset-changed {to} {end} {slot} {on} {first} {last} ordered most end_is within first_is last_is =
      let inside = column-inside are holds is in
      let bare = with_cleared slot.0 column end here in
      let one : LineContent = record bare { columns = toggled_if (not (beq first on)) slot.0 column bare.columns } in
      let long = length-cleared slot.0 column end here (omega (arith, end_is)) (omega (arith, within)) in
      let tags = λ (at : ℕ). differing (count_of (take k list)).parity (tags_left_of (take at here.columns)) in
      let one_is = switched-if first on slot.0 column (tags column) bare (omega (arith, inside, long)) first_is in
      let same = ap (λ (line : LineContent). length line.columns) one_is
      ∙ length-toggled column (differing (tags column) (set_slot slot.0 on (tags column))) bare.columns in
      tagged-changed are holds is ordered most end_is within refl one_is
      (switched-if last on slot.0 end (tags end) one (omega (arith, within, long, same)) last_is) refl refl

  -- the line can be edited, and then the text is that after the step
  pub can-edit : {step : Step} {Fits : LineContent → Type 0} {edited : LineContent → LineContent} →
      IsChangedBy step list (record { taken = None; index = k; line = edited here })
      → IsCounted (plus (count_of list) (count_of (edited here ∷ []))) → Fits here
      → ((number : ℕ) → has_mark number (edited here) ≡ has_mark number here) → CanEdit list k Fits edited
  can-edit {step} {Fits} {edited} changed counted fits marks = record {
    line = here;
    is = is;
    fits = fits;
    are = (change-can (record { taken = None; index = k; line = edited here }) are changed counted).are;
    counted = counted;
    marks = marks;
  }

  -- the mark can be put into the line
  pub can-mark : {number : MarkNo} {place : Place} → place.offset ≡ offset → offset ≤ length (whole list).columns →
      IsCounted (plus (count_of list) (count_of (with_mark number.0 (record place { offset = column }) here ∷ [])))
      → CanMark list number.0 k (record place { offset = column })
  can-mark {number} {place} stands most counted =
      let new = with_mark number.0 (record place { offset = column }) here in
      let inside = column-inside are holds is in
      record {
        line = here;
        is = is;
        fits = omega (arith, inside);
        are = (change-can (record { taken = Some number; index = k; line = new }) are (mark-changed stands most)
            counted).are;
        counted = counted;
      }

pub marked-new : {number : MarkNo} {place : Place} {list new : List LineContent} {k : ℕ} {line : LineContent} →
    IsChangedBy (PutMark number place) list (record { taken = Some number; index = k; line = line })
    → place.offset ≤ length (whole list).columns → new ≡ spliced k 1 (line ∷ []) (map (without_mark number.0) list)
    → content_of new ≡ after (PutMark number place ∷ []) (content_of list)
marked-new {number = number} {k = k} {line = line} changed most is =
    ap content_of is ∙ change-new (record { taken = Some number; index = k; line = line }) changed most

pub edited-new : {step : Step} {list new : List LineContent} {k : ℕ} {line : LineContent} →
    IsChangedBy step list (record { taken = None; index = k; line = line })
    → StepFitsIn step (length (whole list).columns) → new ≡ spliced k 1 (line ∷ []) list
    → content_of new ≡ after (step ∷ []) (content_of list)
edited-new {k = k} {line = line} changed fits is =
    ap content_of is ∙ change-new (record { taken = None; index = k; line = line }) changed fits
