-- The nearest change of a tag in lines in a row: in the line of the offset, else in the nearest line where its slot is
-- toggled.
use Rattle.line_lists.proofs.Common.{◌≡◌, ℕ, suc, ◌+◌, ◌-◌, ◌<◌, ◌≤◌, Bool, true, false, List, [], ◌∷◌, Option, None}
use Rattle.line_lists.proofs.Common.{Some, length, get_or, refl, sym, ap, ap₂, subst, ◌∙◌, inl, inr, arith}
use Rattle.line_lists.proofs.Common.{length-append, IfSome, slice_get, cases_lt, slice_get-get_or}
use Rattle.line_lists.proofs.Common.{get_or_from_slice_get, next_change, previous_change, flags, Column, LineContent}
use Rattle.line_lists.proofs.Common.{next_toggle, previous_toggle, Holds, has_toggle, IsAt, content_of, whole}
use Rattle.line_lists.proofs.LineStarts.{at-before, length_at, lent, start-all, start-before, start-more, start-next}
use Rattle.line_lists.proofs.LineStarts.{start-rises, start_of, there}
use Rattle.line_lists.proofs.NearMarks.{three_ways}
use Rattle.line_lists.proofs.PlaceRows.{column-at}
use Rattle.line_lists.proofs.SearchRows.{FailFrom, FailIn, NextAt, NextIn, PreviousAt, PreviousIn, found-next}
use Rattle.line_lists.proofs.SearchRows.{found-previous, line_at, none-next, none-previous}
use Rattle.line_lists.proofs.ToggleColumns.{next-change-is, no-toggle, no_column, previous-change-is, toggles_slot}

-- ---- each offset is held
record Held (lines : List LineContent) (i j column : ℕ) : Type 0 where
  at : i ≡ start_of lines j + column
  within : j < length lines
  inner : column < length_at lines j

abbrev HeldSomewhere : List LineContent → ℕ → Type 0
HeldSomewhere lines i = (j : ℕ) × (column : ℕ) × Held lines i j column

held_behind : (line : LineContent) (lines : List LineContent) (i rest : ℕ) → i ≡ length line.columns + rest →
    HeldSomewhere lines rest → HeldSomewhere (line ∷ lines) i
held_behind line lines i rest is held = (
  suc held.0,
  held.1,
  record {
    at = omega (arith, is, held.2.at, start-more line lines held.0);
    within = omega (arith, held.2.within);
    inner = held.2.inner;
  },
)

located : (lines : List LineContent) (i : ℕ) → i < length (whole lines).columns → HeldSomewhere lines i
located [] i within = absurd (omega arith)
located (line ∷ lines) i within =
    elim (cases_lt i (length line.columns)) [
      | inl here ↦ (0, i, record { at = omega arith; within = omega arith; inner = here })
      | inr behind ↦
          let long = length-append line.columns (whole lines).columns in
          let rest : i ≡ length line.columns + (i - length line.columns) = omega arith in
          held_behind line lines i (i - length line.columns) rest
          (located lines (i - length line.columns) (omega (arith, within, long)))
    ]

holds_of : (lines : List LineContent) (i j column : ℕ) → Held lines i j column → Holds lines i j column
holds_of lines i j column held = record {
  behind = held.at;
  inside = subst (λ found. IfSome found (λ (here : LineContent). column < length here.columns))
      (sym (there lines j held.within)) held.inner;
  within = held.within;
}

-- the column of an offset
column-is : (lines : List LineContent) (i j column : ℕ) → Held lines i j column →
    get_or (whole lines).columns i no_column ≡ get_or (line_at lines j).columns column no_column
column-is lines i j column held =
    get_or_from_slice_get (whole lines).columns i (get_or (line_at lines j).columns column no_column) no_column
    (column-at lines i j column (line_at lines j) (holds_of lines i j column held) (there lines j held.within)
    ∙ slice_get-get_or (line_at lines j).columns column no_column held.inner)

module _ (lines : List LineContent) (slot : ℕ) where
  abbrev test : Column → Bool
  test = toggles_slot slot

  toggled-at : (i j column : ℕ) (b : Bool) → Held lines i j column →
      test (get_or (line_at lines j).columns column no_column) ≡ b → test (get_or (whole lines).columns i no_column) ≡ b
  toggled-at i j column b held is = ap test (column-is lines i j column held) ∙ is

  end_within : (k n : ℕ) → k < length lines → n ≤ length_at lines k →
      start_of lines k + n ≤ length (whole lines).columns
  end_within k n within small = let most : suc k ≤ length lines = omega arith in
      omega (arith, small, start-next lines k within, start-rises lines (suc k) (length lines) most, start-all lines)

  abbrev Fails : ℕ → ℕ → Type 0
  Fails j column = test (get_or (line_at lines j).columns column no_column) ≡ false

  -- it stands in a line before another and before that one's start, in it, or in one behind it and at its end or behind
  -- that
  by_line : {i j column : ℕ} → Held lines i j column → (k : ℕ) → k < length lines →
      (j < k → i < start_of lines k → Fails j column)
      → (i ≡ start_of lines k + column → column < length_at lines k → Fails k column)
      → (k < j → start_of lines k + length_at lines k ≤ i → Fails j column) → Fails j column
  by_line {j = j} {column = column} held k within before same behind =
      three_ways j k
      (λ less.
      let most : k ≤ length lines = omega (arith, within) in
      before less (omega (arith, held.at, held.inner, start-before lines j k less most)))
      (λ at. subst (λ n. Fails n column) (sym at) (same (omega (arith, held.at, ap (start_of lines) at))
      (omega (arith, held.inner, ap (length_at lines) at))))
      (λ more.
      let most : j ≤ length lines = omega (arith, held.within) in
      behind more (omega (arith, held.at, start-before lines k j more most)))

  module _ (offset k column : ℕ) (behind : offset ≡ start_of lines k + column) (within : k
      < length lines) (inner : column < length_at lines k) where
    pub change-here : (n : ℕ) → NextIn no_column test (suc column) (line_at lines k).columns n →
        next_change (flags slot (content_of lines).cells) offset ≡ start_of lines k + n
    change-here n near =
        next-change-is slot (whole lines).columns offset (start_of lines k + n) (omega (arith, behind, near.above))
        (end_within k n within (omega (arith, near.within)))
        (λ i more less.
        let held = located lines i (omega (arith, less, end_within k n within (omega (arith, near.within)))) in
        let j = held.0 in let d = held.1 in let is = held.2 in
        toggled-at i j d false is (by_line is k within
        (λ before early. absurd (omega (arith, early, behind, more)))
        (λ at inside. near.free d (omega (arith, at, more, behind)) (omega (arith, at, less)))
        (λ past late. absurd (omega (arith, late, less, near.within)))))
        (λ more. toggled-at (start_of lines k + n) k n true (record { at = refl; within = within; inner = near.within })
        near.passes)

    pub change-later : (e n : ℕ) → FailIn no_column test (line_at lines k).columns (suc column) (length_at lines k) →
        NextAt (has_toggle slot) (suc k) lines e → NextIn no_column test 0 (line_at lines e).columns n
        → next_change (flags slot (content_of lines).cells) offset ≡ start_of lines e + n
    change-later e n none line near =
        let most : e ≤ length lines = omega (arith, line.within) in
        let after : k < e = omega (arith, line.above) in
        let bound = end_within e n line.within (omega (arith, near.within)) in
        next-change-is slot (whole lines).columns offset (start_of lines e + n)
        (omega (arith, behind, inner, start-before lines k e after most)) bound
        (λ i more less.
        let held = located lines i (omega (arith, less, bound)) in
        let j = held.0 in let d = held.1 in let is = held.2 in
        toggled-at i j d false is (by_line is k within
        (λ before early. absurd (omega (arith, early, behind, more)))
        (λ at inside. none d (omega (arith, at, more, behind)) inside)
        (λ past late. by_line is e line.within
        (λ before early. no-toggle slot (line_at lines j) d (line.free j (omega (arith, past)) before) is.inner)
        (λ at inside. near.free d (omega arith) (omega (arith, at, less)))
        (λ beyond later. absurd (omega (arith, later, less, near.within))))))
        (λ more. toggled-at (start_of lines e + n) e n true
        (record { at = refl; within = line.within; inner = near.within }) near.passes)

    pub change-nowhere : FailIn no_column test (line_at lines k).columns (suc column) (length_at lines k) →
        FailFrom (has_toggle slot) lines (suc k) (length lines)
        → next_change (flags slot (content_of lines).cells) offset ≡ length (whole lines).columns
    change-nowhere none free =
        next-change-is slot (whole lines).columns offset (length (whole lines).columns)
        (omega (arith, behind, inner, end_within k (length_at lines k) within (omega arith))) (omega arith)
        (λ i more less.
        let held = located lines i less in
        let j = held.0 in let d = held.1 in let is = held.2 in
        toggled-at i j d false is (by_line is k within
        (λ before early. absurd (omega (arith, early, behind, more)))
        (λ at inside. none d (omega (arith, at, more, behind)) inside)
        (λ past late. no-toggle slot (line_at lines j) d (free j (omega (arith, past)) is.within) is.inner)))
        (λ more. absurd (omega (arith, more)))

  module _ (offset k column : ℕ) (at : IsAt lines offset k column) (last : offset ≤ length (whole lines).columns) where
    -- what is held below the offset isn't behind its line
    not_behind : (i j d : ℕ) → Held lines i j d → i < offset → k < j → offset ≤ i
    not_behind i j d held less after = let more : j < length lines = omega (arith, held.within) in
        omega (arith, at-before lines offset k column j at after more, held.at)

    pub change-back : (n : ℕ) → column ≤ length_at lines k →
        PreviousIn no_column test column (line_at lines k).columns n →
        previous_change (flags slot (content_of lines).cells) offset ≡ start_of lines k + n
    change-back n small near =
        previous-change-is slot (whole lines).columns offset (start_of lines k + n)
        (omega (arith, at.behind, near.below)) last
        (λ i more less.
        let held = located lines i (omega (arith, less, last)) in
        let j = held.0 in let d = held.1 in let is = held.2 in
        toggled-at i j d false is (by_line is k at.within
        (λ before early. absurd (omega (arith, early, more)))
        (λ here inside. near.free d (omega (arith, here, more)) (omega (arith, here, less, at.behind)))
        (λ after late. absurd (omega (arith, not_behind i j d is less after, less)))))
        (λ some. toggled-at (start_of lines k + n) k n true
        (record { at = refl; within = at.within; inner = omega (arith, small, near.below) }) near.passes)

    pub change-earlier : (e n : ℕ) → FailIn no_column test (line_at lines k).columns 0 column →
        PreviousAt (has_toggle slot) k lines e →
        PreviousIn no_column test (length_at lines e) (line_at lines e).columns n
        → previous_change (flags slot (content_of lines).cells) offset ≡ start_of lines e + n
    change-earlier e n none line near =
        let below : k ≤ length lines = omega (arith, at.within) in
        let within : e < length lines = omega (arith, at.within, line.below) in
        previous-change-is slot (whole lines).columns offset (start_of lines e + n)
        (omega (arith, at.behind, near.below, start-before lines e k line.below below)) last
        (λ i more less.
        let held = located lines i (omega (arith, less, last)) in
        let j = held.0 in let d = held.1 in let is = held.2 in
        toggled-at i j d false is (by_line is k at.within
        (λ before early. by_line is e within
        (λ beyond earlier. absurd (omega (arith, earlier, more)))
        (λ here inside. near.free d (omega (arith, here, more)) inside)
        (λ past late. no-toggle slot (line_at lines j) d (line.free j (omega (arith, past)) before) is.inner))
        (λ here inside. none d (omega arith) (omega (arith, here, less, at.behind)))
        (λ after late. absurd (omega (arith, not_behind i j d is less after, less)))))
        (λ some. toggled-at (start_of lines e + n) e n true (record { at = refl; within = within; inner = near.below })
        near.passes)

    pub change-first : 0 < offset → FailIn no_column test (line_at lines k).columns 0 column →
        FailFrom (has_toggle slot) lines 0 k → previous_change (flags slot (content_of lines).cells) offset ≡ 0
    change-first some none free =
        previous-change-is slot (whole lines).columns offset 0 some last
        (λ i more less.
        let held = located lines i (omega (arith, less, last)) in
        let j = held.0 in let d = held.1 in let is = held.2 in
        toggled-at i j d false is (by_line is k at.within
        (λ before early. no-toggle slot (line_at lines j) d (free j (omega arith) before) is.inner)
        (λ here inside. none d (omega arith) (omega (arith, here, less, at.behind)))
        (λ after late. absurd (omega (arith, not_behind i j d is less after, less)))))
        (λ positive. absurd (omega (arith, positive)))

-- ---- what a line that is lent tells
module _ (lines : List LineContent) (slot k : ℕ) (line : LineContent) (is : slice_get lines k ≡ Some line) where
  pub lent-next : (from at n : ℕ) (result : Option ℕ) → result ≡ next_toggle slot at line.columns → result ≡ Some n →
      at ≡ from → NextIn no_column (toggles_slot slot) from (line_at lines k).columns n
  lent-next from at n result value found same =
      found-next no_column (toggles_slot slot) from (line_at lines k).columns n
      (ap₂ (λ (l : LineContent) f. next_toggle slot f l.columns) (lent lines k line is) (sym same) ∙ sym value ∙ found)

  pub lent-none-next : (from at : ℕ) (result : Option ℕ) → result ≡ next_toggle slot at line.columns → result ≡ None →
      at ≡ from → FailIn no_column (toggles_slot slot) (line_at lines k).columns from (length_at lines k)
  lent-none-next from at result value none same =
      none-next no_column (toggles_slot slot) from (line_at lines k).columns
      (ap₂ (λ (l : LineContent) f. next_toggle slot f l.columns) (lent lines k line is) (sym same) ∙ sym value ∙ none)

  pub lent-previous : (to at n : ℕ) (result : Option ℕ) → to ≤ length_at lines k →
      result ≡ previous_toggle slot at line.columns → result ≡ Some n → at ≡ to →
      PreviousIn no_column (toggles_slot slot) to (line_at lines k).columns n
  lent-previous to at n result within value found same =
      found-previous no_column (toggles_slot slot) to (line_at lines k).columns within n
      (ap₂ (λ (l : LineContent) f. previous_toggle slot f l.columns) (lent lines k line is) (sym same) ∙ sym value
      ∙ found)

  pub lent-none-previous : (to at : ℕ) (result : Option ℕ) → to ≤ length_at lines k →
      result ≡ previous_toggle slot at line.columns → result ≡ None → at ≡ to →
      FailIn no_column (toggles_slot slot) (line_at lines k).columns 0 to
  lent-none-previous to at result within value none same =
      none-previous no_column (toggles_slot slot) to (line_at lines k).columns within
      (ap₂ (λ (l : LineContent) f. previous_toggle slot f l.columns) (lent lines k line is) (sym same) ∙ sym value
      ∙ none)
