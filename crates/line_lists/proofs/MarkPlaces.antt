-- Where the marks of lines in a row stand in the text.
use Rattle.line_lists.proofs.Common.{◌≡◌, ℕ, suc, ◌+◌, ◌<◌, true, false, cond, ◌==◌, List, [], ◌∷◌, Option, None, Some}
use Rattle.line_lists.proofs.Common.{length, take, drop, refl, sym, ap, ap₂, ◌∙◌, arith, length-drop, find, eq_by_cmp}
use Rattle.line_lists.proofs.Common.{nat_cmp, is_some, option_map, nat_tests, unsigned_tied, Place, Marks, LineContent}
use Rattle.line_lists.proofs.Common.{later, get-joined_marks, or_else, AreApart, AreRows, GoesBefore, StandBefore}
use Rattle.line_lists.proofs.Common.{StandWithin, has_mark, has_marks, whole}
use Rattle.line_lists.proofs.LineStarts.{length_at, start-more, start_of, there}
use Rattle.line_lists.proofs.MarkRows.{get-row}
use Rattle.line_lists.proofs.NewlineRows.{row-at}
use Rattle.line_lists.proofs.PlaceRows.{whole-at}
use Rattle.line_lists.proofs.SearchRows.{FailFrom, line_at}
use Rattle.std.specs.FinMap as finite

pub record InLine (lines : List LineContent) (number : ℕ) (place : Place) (k : ℕ) (inner : Place) : Type 0 where
  pub within : k < length lines
  pub is : finite.get (line_at lines k).marks number ≡ Some inner
  pub at : place ≡ later (start_of lines k) inner

abbrev pub InSomeLine : List LineContent → ℕ → Place → Type 0
InSomeLine lines number place = (k : ℕ) × (inner : Place) × InLine lines number place k inner

place_same : (x y : Place) → Some x ≡ Some y → x ≡ y
place_same x y same = cc

later_none : (place : Place) → place ≡ later 0 place
later_none place =
    ap (λ offset. record place { offset = offset }) (let same : place.offset ≡ place.offset + 0 = omega arith in same)

later_more : (one two all : ℕ) (place : Place) → all ≡ one + two → later one (later two place) ≡ later all place
later_more one two all place is = ap (λ offset. record place { offset = offset }) (let same : (place.offset + two) + one
    ≡ place.offset + all = omega (arith, is) in same)

-- a mark of the text stands in a line
in_front : (line : LineContent) (lines : List LineContent) (number : ℕ) (place : Place) (behind here : Option Place)
    → finite.get (whole lines).marks number ≡ behind → finite.get line.marks number ≡ here →
    or_else (option_map (later (length line.columns)) behind) here ≡ Some place
    → ((other : Place) → finite.get (whole lines).marks number ≡ Some other → InSomeLine lines number other) →
    InSomeLine (line ∷ lines) number place
in_front line lines number place None here none found is rest =
    (0, place, record { within = omega arith; is = found ∙ is; at = later_none place })
in_front line lines number place (Some other) here found_behind found is rest =
    let inner = rest other found_behind in (
      suc inner.0,
      inner.1,
      record {
        within = omega (arith, inner.2.within);
        is = inner.2.is;
        at =
            sym (place_same _ _ is) ∙ ap (later (length line.columns)) inner.2.at
            ∙ later_more (length line.columns) (start_of lines inner.0) (start_of (line ∷ lines) (suc inner.0)) inner.1
            (start-more line lines inner.0);
      },
    )

pub mark-in : (lines : List LineContent) (number : ℕ) (place : Place) →
    finite.get (whole lines).marks number ≡ Some place → InSomeLine lines number place
mark-in [] number place is = absurd (let no : None ≡ Some place = sym (finite.get-empty nat_cmp number) ∙ is in cc)
mark-in (line ∷ lines) number place is =
    in_front line lines number place (finite.get (whole lines).marks number) (finite.get line.marks number) refl refl
    (sym (get-joined_marks (length line.columns) line.marks (whole lines).marks number) ∙ is) (mark-in lines number)

-- what stands in a line is a mark of the text
pub apart-rest : (line : LineContent) (rest : List LineContent) → GoesBefore line rest →
    AreApart line.marks (whole rest).marks
apart-rest line [] before number place is = finite.get-empty nat_cmp number
apart-rest line (next ∷ rest) before number place is = before.1 number place is

pub mark-out : (lines : List LineContent) (number : ℕ) (place : Place) (k : ℕ) (inner : Place) → AreRows lines →
    InLine lines number place k inner → finite.get (whole lines).marks number ≡ Some place
mark-out lines number place k inner rows stands =
    let line = line_at lines k in
    let rest = drop (suc k) lines in
    let front = whole (take k lines) in
    let here = there lines k stands.within in
    let apart = apart-rest line rest (row-at lines k line rows here).before number inner stands.is in
    ap (λ (row : LineContent). finite.get row.marks number) (whole-at lines k line here)
    ∙ get-row (length front.columns) (length line.columns) front.marks line.marks (whole rest).marks number
    ∙ ap₂ (λ third second. or_else (option_map (later (length front.columns))
    (or_else (option_map (later (length line.columns)) third) second)) (finite.get front.marks number)) apart
    stands.is
    ∙ ap (λ p. Some p) (sym stands.at)

-- how far marks stand in their line
within_of : (line : LineContent) (rest : List LineContent) → GoesBefore line rest →
    StandWithin (length line.columns) line.marks
within_of line [] before number place is = before number place is
within_of line (next ∷ rest) before number place is = omega (arith, before.0 number place is)

before_of : (line : LineContent) (rest : List LineContent) → 0 < length rest → GoesBefore line rest →
    StandBefore (length line.columns) line.marks
before_of line [] some before number place is = absurd (omega arith)
before_of line (next ∷ rest) some before number place is = before.0 number place is

pub mark-within : (lines : List LineContent) (k : ℕ) → AreRows lines → k < length lines →
    StandWithin (length_at lines k) (line_at lines k).marks
mark-within lines k rows within = within_of (line_at lines k) (drop (suc k) lines)
    (row-at lines k (line_at lines k) rows (there lines k within)).before

pub mark-before : (lines : List LineContent) (k : ℕ) → AreRows lines → suc k < length lines →
    StandBefore (length_at lines k) (line_at lines k).marks
mark-before lines k rows more =
    let within : k < length lines = omega arith in
    before_of (line_at lines k) (drop (suc k) lines) (omega (arith, length-drop (suc k) lines))
    (row-at lines k (line_at lines k) rows (there lines k within)).before

-- ---- lines without marks, and with some
found_none : (entries : List (ℕ × Place)) (number : ℕ) (place : Place) → length entries ≡ 0 →
    find nat_cmp number entries ≡ Some place → ⊥
found_none [] number place none is = let no : None ≡ Some place = is in absurd (cc)
found_none (entry ∷ entries) number place none is = absurd (omega arith)

pub has-none : (line : LineContent) (number : ℕ) (place : Place) → has_marks line ≡ false →
    finite.get line.marks number ≡ Some place → ⊥
has-none line number place none is =
    let long = finite.len-entries line.marks in
    let zero_of : finite.len line.marks ≡ 0 = grind (arith, nat_tests) in
    found_none (finite.entries line.marks) number place (sym long ∙ zero_of) (sym (finite.get-entries line.marks number)
    ∙ is)

abbrev pub SomeMark : Marks → Type 0
SomeMark marks = (number : ℕ) × (place : Place) × (finite.get marks number ≡ Some place)

first_mark : (marks : Marks) (entries : List (ℕ × Place)) → finite.entries marks ≡ entries → 0 < length entries →
    SomeMark marks
first_mark marks [] is some = absurd (omega arith)
first_mark marks (entry ∷ entries) is some =
    let tied : eq_by_cmp nat_cmp entry.0 entry.0 ≡ true = unsigned_tied entry.0 entry.0
    ∙ (let same : (entry.0 == entry.0) ≡ true = grind (arith, nat_tests) in same) in (
      entry.0,
      entry.1,
      finite.get-entries marks entry.0 ∙ ap (find nat_cmp entry.0) is
          ∙ ap (λ b. cond b (Some entry.1) (find nat_cmp entry.0 entries)) tied,
    )

pub has-some : (line : LineContent) → has_marks line ≡ true → SomeMark line.marks
has-some line some =
    let long = finite.len-entries line.marks in
    let more : 0 < finite.len line.marks = grind (arith, nat_tests) in
    first_mark line.marks (finite.entries line.marks) refl (omega (arith, long, more))

-- ---- the mark of a number
none_of : (lines : List LineContent) (number : ℕ) (found : Option Place) →
    finite.get (whole lines).marks number ≡ found → FailFrom (has_mark number) lines 0 (length lines) → found ≡ None
none_of lines number None is free = refl
none_of lines number (Some place) is free =
    let stands = mark-in lines number place is in
    absurd (let no : true ≡ false = sym (ap is_some stands.2.is) ∙ free stands.0 (omega arith) stands.2.within in cc)

pub mark-nowhere : (lines : List LineContent) (number : ℕ) → FailFrom (has_mark number) lines 0 (length lines) →
    finite.get (whole lines).marks number ≡ None
mark-nowhere lines number free = none_of lines number (finite.get (whole lines).marks number) refl free
