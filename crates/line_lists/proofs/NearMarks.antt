-- The nearest mark of lines in a row: in the line of the offset, else in the nearest line that has one.
use Rattle.line_lists.proofs.Common.{◌≡◌, ℕ, suc, ◌+◌, ◌<◌, ◌≤◌, true, List, Option, None, Some, length, refl, sym, ap}
use Rattle.line_lists.proofs.Common.{subst, ◌∙◌, inl, inr, arith, IfSome, slice_get, cases_lt, Place, Marks, next_mark}
use Rattle.line_lists.proofs.Common.{previous_mark, next_mark-above, next_mark-least, next_mark-marked}
use Rattle.line_lists.proofs.Common.{previous_mark-below, previous_mark-greatest, previous_mark-marked, LineContent}
use Rattle.line_lists.proofs.Common.{later, AreRows, has_marks, IsAt, whole}
use Rattle.text_model.proofs.MarkOrderLaws.{IsMarked}
use Rattle.line_lists.proofs.LineStarts.{at-before, at-inside, length_at, lent, start-before, start_of}
use Rattle.line_lists.proofs.MarkPlaces.{InLine, has-none, has-some, mark-before, mark-in, mark-out, mark-within}
use Rattle.line_lists.proofs.SearchRows.{FailFrom, NextAt, PreviousAt, line_at, some_same}
use Rattle.std.specs.FinMap as finite

-- what the nearest marks are
pub record Next (at : ℕ) (marks : Marks) (n : ℕ) : Type 0 where
  pub marked : IsMarked marks n
  pub above : at ≤ n
  pub least : (number : ℕ) (place : Place) → finite.get marks number ≡ Some place → at ≤ place.offset → n ≤ place.offset

pub record Previous (at : ℕ) (marks : Marks) (n : ℕ) : Type 0 where
  pub marked : IsMarked marks n
  pub below : n < at
  pub greatest : (number : ℕ) (place : Place) → finite.get marks number ≡ Some place → place.offset < at →
      place.offset ≤ n

abbrev pub NoneNext : ℕ → Marks → Type 0
NoneNext at marks = (number : ℕ) (place : Place) → finite.get marks number ≡ Some place → place.offset < at

abbrev pub NonePrevious : ℕ → Marks → Type 0
NonePrevious at marks = (number : ℕ) (place : Place) → finite.get marks number ≡ Some place → at ≤ place.offset

pub if_some : {A : Type 0} (P : A → Type 0) (found : Option A) (x : A) → found ≡ Some x → IfSome found P → P x
if_some P found x is holds = subst (λ o. IfSome o P) is holds

pub next-of : (at : ℕ) (marks : Marks) (n : ℕ) → next_mark at marks ≡ Some n → Next at marks n
next-of at marks n is = record {
  marked = if_some (IsMarked marks) _ n is (next_mark-marked at marks);
  above = if_some (λ next. at ≤ next) _ n is (next_mark-above at marks);
  least = λ number place got above.
      let near = next_mark-least at marks number place got above in
      let same : near.0 ≡ n = some_same near.0 n (sym near.1 ∙ is) in
      omega (arith, same, near.2);
}

pub next-is : (at : ℕ) (marks : Marks) (n : ℕ) → Next at marks n → next_mark at marks ≡ Some n
next-is at marks n next =
    let mark = next.marked in
    let near = next_mark-least at marks mark.0 mark.1 mark.2 (omega (arith, next.above, mark.3)) in
    let found = next-of at marks near.0 near.1 in
    let other = found.marked in
    let least = next.least other.0 other.1 other.2 (omega (arith, found.above, other.3)) in
    near.1 ∙ ap (λ k. Some k) (let same : near.0 ≡ n = omega (arith, near.2, mark.3, other.3, least) in same)

pub none-next-of : (at : ℕ) (marks : Marks) → next_mark at marks ≡ None → NoneNext at marks
none-next-of at marks is number place got =
    elim (cases_lt place.offset at) [
      | inl less ↦ less
      | inr more ↦ let near =
          next_mark-least at marks number place got more in absurd (let no : None ≡ Some near.0 = sym is ∙ near.1 in cc)
    ]

none_next : (at : ℕ) (marks : Marks) (found : Option ℕ) → next_mark at marks ≡ found → NoneNext at marks → found ≡ None
none_next at marks None is none = refl
none_next at marks (Some n) is none =
    let next = next-of at marks n is in
    absurd (omega (arith, next.above, next.marked.3, none next.marked.0 next.marked.1 next.marked.2))

pub none-next-is : (at : ℕ) (marks : Marks) → NoneNext at marks → next_mark at marks ≡ None
none-next-is at marks none = none_next at marks (next_mark at marks) refl none

pub previous-of : (at : ℕ) (marks : Marks) (n : ℕ) → previous_mark at marks ≡ Some n → Previous at marks n
previous-of at marks n is = record {
  marked = if_some (IsMarked marks) _ n is (previous_mark-marked at marks);
  below = if_some (λ previous. previous < at) _ n is (previous_mark-below at marks);
  greatest = λ number place got below.
      let near = previous_mark-greatest at marks number place got below in
      let same : near.0 ≡ n = some_same near.0 n (sym near.1 ∙ is) in
      omega (arith, same, near.2);
}

pub previous-is : (at : ℕ) (marks : Marks) (n : ℕ) → Previous at marks n → previous_mark at marks ≡ Some n
previous-is at marks n previous =
    let mark = previous.marked in
    let near = previous_mark-greatest at marks mark.0 mark.1 mark.2 (omega (arith, previous.below, mark.3)) in
    let found = previous-of at marks near.0 near.1 in
    let other = found.marked in
    let greatest = previous.greatest other.0 other.1 other.2 (omega (arith, found.below, other.3)) in
    near.1 ∙ ap (λ k. Some k) (let same : near.0 ≡ n = omega (arith, near.2, mark.3, other.3, greatest) in same)

pub none-previous-of : (at : ℕ) (marks : Marks) → previous_mark at marks ≡ None → NonePrevious at marks
none-previous-of at marks is number place got =
    elim (cases_lt place.offset at) [
      | inl less ↦ let near = previous_mark-greatest at marks number place got less in
          absurd (let no : None ≡ Some near.0 = sym is ∙ near.1 in cc)
      | inr more ↦ more
    ]

none_previous : (at : ℕ) (marks : Marks) (found : Option ℕ) → previous_mark at marks ≡ found → NonePrevious at marks →
    found ≡ None
none_previous at marks None is none = refl
none_previous at marks (Some n) is none =
    let previous = previous-of at marks n is in
    absurd (omega (
      arith,
      previous.below,
      previous.marked.3,
      none previous.marked.0 previous.marked.1 previous.marked.2,
    ))

pub none-previous-is : (at : ℕ) (marks : Marks) → NonePrevious at marks → previous_mark at marks ≡ None
none-previous-is at marks none = none_previous at marks (previous_mark at marks) refl none

-- ---- in lines in a row
-- a number is below another, the same, or above it
pub three_ways : {A : Type 0} (j k : ℕ) → (j < k → A) → (j ≡ k → A) → (k < j → A) → A
three_ways j k less same more = elim (cases_lt j k) [
  | inl before ↦ less before
  | inr behind ↦ elim (cases_lt k j) [
    | inl above ↦ more above
    | inr below ↦ same (omega arith)
  ]
]

module _ (lines : List LineContent) (rows : AreRows lines) where
  -- a mark stands in a line before another and before that one's start, in it, or in one behind it and at its end or
  -- behind that
  pub by_line : {A : Type 0} {number i : ℕ} {place inner : Place} → InLine lines number place i inner → (k : ℕ) →
      k < length lines → (i < k → place.offset < start_of lines k → A)
      → (finite.get (line_at lines k).marks number ≡ Some inner → place.offset ≡ start_of lines k + inner.offset → A)
      → (k < i → start_of lines k + length_at lines k ≤ place.offset → A) → A
  by_line {number = number} {i = i} {inner = inner} stands k within before same behind =
      let here = ap (λ (p : Place). p.offset) stands.at in
      three_ways i k
      (λ less.
      let last : suc i < length lines = omega (arith, less, within) in
      let most : k ≤ length lines = omega (arith, within) in
      before less (omega (
        arith,
        here,
        mark-before lines i rows last number inner stands.is,
        start-before lines i k less most,
      )))
      (λ at. same (subst (λ j. finite.get (line_at lines j).marks number ≡ Some inner) at stands.is)
      (omega (arith, here, ap (start_of lines) at)))
      (λ more.
      let most : i ≤ length lines = omega (arith, stands.within) in
      behind more (omega (arith, here, start-before lines k i more most)))

  -- a mark of a line is one of the text
  marked-out : (k n : ℕ) → k < length lines → IsMarked (line_at lines k).marks n →
      IsMarked (whole lines).marks (start_of lines k + n)
  marked-out k n within mark = (
    mark.0,
    later (start_of lines k) mark.1,
    mark-out lines mark.0 (later (start_of lines k) mark.1) k mark.1 rows
        (record { within = within; is = mark.2; at = refl }),
    omega (arith, mark.3),
  )

  module _ (offset k column : ℕ) (at : IsAt lines offset k column) where
    pub next-here : (n : ℕ) → next_mark column (line_at lines k).marks ≡ Some n →
        next_mark offset (whole lines).marks ≡ Some (start_of lines k + n)
    next-here n is =
        let next = next-of column (line_at lines k).marks n is in
        let bound = mark-within lines k rows at.within next.marked.0 next.marked.1 next.marked.2 in
        next-is offset (whole lines).marks (start_of lines k + n) (record {
          marked = marked-out k n at.within next.marked;
          above = omega (arith, at.behind, next.above);
          least = λ number place got above.
              by_line (mark-in lines number place got).2 k at.within
              (λ less early. absurd (omega (arith, early, above, at.behind)))
              (λ there here.
              omega (arith, here, at.behind, next.least number _ there (omega (arith, here, above, at.behind))))
              (λ more late. omega (arith, late, bound, next.marked.3));
        })

    pub next-later : (j n : ℕ) → next_mark column (line_at lines k).marks ≡ None → NextAt has_marks (suc k) lines j →
        next_mark 0 (line_at lines j).marks ≡ Some n
        → next_mark offset (whole lines).marks ≡ Some (start_of lines j + n)
    next-later j n none near is =
        let next = next-of 0 (line_at lines j).marks n is in
        let bound = mark-within lines j rows near.within next.marked.0 next.marked.1 next.marked.2 in
        let before : k < j = omega (arith, near.above) in
        let start = at-before lines offset k column j at before near.within in
        next-is offset (whole lines).marks (start_of lines j + n) (record {
          marked = marked-out j n near.within next.marked;
          above = omega (arith, start);
          least = λ number place got above.
              let found = mark-in lines number place got in
              let i = found.0 in let stands = found.2 in
              by_line stands k at.within
              (λ less early. absurd (omega (arith, early, above, at.behind)))
              (λ there here.
              let less = none-next-of column (line_at lines k).marks none number _ there in
              absurd (omega (arith, here, at.behind, above, less)))
              (λ more late. by_line stands j near.within
              (λ less early. absurd (has-none (line_at lines i) number found.1
              (near.free i (omega (arith, more)) less) stands.is))
              (λ there here. omega (arith, here, next.least number _ there (omega arith)))
              (λ behind later. omega (arith, later, bound, next.marked.3)));
        })

    pub next-nowhere : next_mark column (line_at lines k).marks ≡ None →
        FailFrom has_marks lines (suc k) (length lines) → next_mark offset (whole lines).marks ≡ None
    next-nowhere none free =
        none-next-is offset (whole lines).marks (λ number place got.
        let found = mark-in lines number place got in
        let i = found.0 in let stands = found.2 in
        by_line stands k at.within
        (λ less early. omega (arith, early, at.behind))
        (λ there here.
        omega (arith, here, at.behind, none-next-of column (line_at lines k).marks none number _ there))
        (λ more late. absurd (has-none (line_at lines i) number found.1 (free i (omega (arith, more)) stands.within)
        stands.is)))

    -- where there is a line behind, the offset stands before its own one's end
    pub inside : (i : ℕ) → k < i → i < length lines → offset < start_of lines k + length_at lines k
    inside i more within =
        let last : suc k < length lines = omega (arith, more, within) in
        omega (arith, at.behind, at-inside lines offset k column at last)

    pub previous-here : (n : ℕ) → previous_mark column (line_at lines k).marks ≡ Some n →
        previous_mark offset (whole lines).marks ≡ Some (start_of lines k + n)
    previous-here n is =
        let previous = previous-of column (line_at lines k).marks n is in
        previous-is offset (whole lines).marks (start_of lines k + n) (record {
          marked = marked-out k n at.within previous.marked;
          below = omega (arith, at.behind, previous.below);
          greatest = λ number place got below.
              let found = mark-in lines number place got in
              by_line found.2 k at.within
              (λ less early. omega (arith, early))
              (λ there here.
              omega (arith, here, at.behind, previous.greatest number _ there (omega (arith, here, below, at.behind))))
              (λ more late. absurd (omega (arith, late, inside found.0 more found.2.within, below)));
        })

    pub previous-earlier : (j n : ℕ) → previous_mark column (line_at lines k).marks ≡ None →
        PreviousAt has_marks k lines j → previous_mark (length_at lines j) (line_at lines j).marks ≡ Some n
        → previous_mark offset (whole lines).marks ≡ Some (start_of lines j + n)
    previous-earlier j n none near is =
        let previous = previous-of (length_at lines j) (line_at lines j).marks n is in
        let last : suc j < length lines = omega (arith, near.below, at.within) in
        let within : j < length lines = omega arith in
        let most : k ≤ length lines = omega (arith, at.within) in
        previous-is offset (whole lines).marks (start_of lines j + n) (record {
          marked = marked-out j n within previous.marked;
          below = omega (arith, at.behind, previous.below, start-before lines j k near.below most);
          greatest = λ number place got below.
              let found = mark-in lines number place got in
              let i = found.0 in let stands = found.2 in
              by_line stands k at.within
              (λ less early. by_line stands j within
              (λ before earlier. omega (arith, earlier))
              (λ there here.
              omega (arith, here, previous.greatest number _ there (mark-before lines j rows last number _ there)))
              (λ behind late. absurd (has-none (line_at lines i) number found.1
              (near.free i (omega (arith, behind)) less) stands.is)))
              (λ there here.
              let more = none-previous-of column (line_at lines k).marks none number _ there in
              absurd (omega (arith, here, below, at.behind, more)))
              (λ more late. absurd (omega (arith, late, inside i more stands.within, below)));
        })

    pub previous-nowhere : previous_mark column (line_at lines k).marks ≡ None → FailFrom has_marks lines 0 k →
        previous_mark offset (whole lines).marks ≡ None
    previous-nowhere none free =
        none-previous-is offset (whole lines).marks (λ number place got.
        let found = mark-in lines number place got in
        let i = found.0 in let stands = found.2 in
        by_line stands k at.within
        (λ less early. absurd (has-none (line_at lines i) number found.1 (free i (omega arith) less) stands.is))
        (λ there here.
        omega (arith, here, at.behind, none-previous-of column (line_at lines k).marks none number _ there))
        (λ more late. omega (arith, late, inside i more stands.within)))

-- a line with marks has a nearest one from either end
pub next-some : {A : Type 0} (line : LineContent) → has_marks line ≡ true → next_mark 0 line.marks ≡ None → A
next-some line some none =
    let mark = has-some line some in
    absurd (omega (arith, none-next-of 0 line.marks none mark.0 mark.1 mark.2))

pub previous-some : {A : Type 0} (lines : List LineContent) (k : ℕ) → AreRows lines → suc k < length lines →
    has_marks (line_at lines k) ≡ true → previous_mark (length_at lines k) (line_at lines k).marks ≡ None → A
previous-some lines k rows more some none =
    let mark = has-some (line_at lines k) some in
    absurd (omega (
      arith,
      none-previous-of (length_at lines k) (line_at lines k).marks none mark.0 mark.1 mark.2,
      mark-before lines k rows more mark.0 mark.1 mark.2,
    ))

-- what a line that is lent tells
pub lent-found : (lines : List LineContent) (k : ℕ) (line : LineContent) (f : Marks →
    Option ℕ) (result found : Option ℕ) → slice_get lines k ≡ Some line → result ≡ f line.marks → result ≡ found →
    f (line_at lines k).marks ≡ found
lent-found lines k line f result found is value same =
    ap (λ (l : LineContent). f l.marks) (lent lines k line is) ∙ sym value ∙ same
