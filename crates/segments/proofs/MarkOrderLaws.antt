-- The marks of a line by where they stand.
use Rattle.segments.proofs.Common.{◌≡◌, ℕ, ◌≤◌, min, max, true, false, cond, nat_le, nat_lt, ◌==◌, List, [], ◌∷◌, None}
use Rattle.segments.proofs.Common.{Some, map, sym, ap, subst, ◌∙◌, arith, IfSome, find, eq_by_cmp, nat_cmp, All-head}
use Rattle.segments.proofs.Common.{All-tail, IfSome_then, filter, reduce, Place, marks_at, next_mark, previous_mark}
use Rattle.segments.proofs.Common.{IsMarked, next_mark-marked, previous_mark-marked, reduced_from, Mark, Rise, StandIn}
use Rattle.segments.proofs.Common.{entries_of, marks_of}
use Rattle.text_model.specs.declared.places.MarkNo.{MarkNo}
use Rattle.segments.proofs.MarkLaws.{entries-marks_of, get-marks_of}
use Rattle.std.specs.FinMap as finite

-- the numbers of the marks at a column
abbrev pub numbers_at : ℕ → List Mark → List MarkNo
numbers_at at marks =
    map (λ entry. record { 0 = entry.0 }) (filter (λ (entry : ℕ × Place). entry.1.offset == at) (entries_of marks))

abbrev offsets_of : List (ℕ × Place) → List ℕ
offsets_of entries = map (λ (place : Place). place.offset) (map (λ (entry : ℕ × Place). entry.1) entries)

-- the columns at or above one at which marks stand, and those below it
abbrev pub offsets_above : ℕ → List Mark → List ℕ
offsets_above at marks = filter (λ offset. nat_le at offset) (offsets_of (entries_of marks))

abbrev pub offsets_below : ℕ → List Mark → List ℕ
offsets_below at marks = filter (λ offset. nat_lt offset at) (offsets_of (entries_of marks))

pub marks_at-marks_of : (at : ℕ) (marks : List Mark) → Rise marks → marks_at at (marks_of marks) ≡ numbers_at at marks
marks_at-marks_of at marks rise =
    ap (λ entries. map (λ entry. record { 0 = entry.0 }) (filter (λ (entry : ℕ × Place). entry.1.offset == at) entries))
    (entries-marks_of marks rise)

pub next_mark-marks_of : (at : ℕ) (marks : List Mark) → Rise marks →
    next_mark at (marks_of marks) ≡ reduced_from min None (offsets_above at marks)
next_mark-marks_of at marks rise =
    ap (λ entries. reduce min (filter (λ offset. nat_le at offset) (offsets_of entries))) (entries-marks_of marks rise)

pub previous_mark-marks_of : (at : ℕ) (marks : List Mark) → Rise marks →
    previous_mark at (marks_of marks) ≡ reduced_from max None (offsets_below at marks)
previous_mark-marks_of at marks rise =
    ap (λ entries. reduce max (filter (λ offset. nat_lt offset at) (offsets_of entries))) (entries-marks_of marks rise)

found_stands : (marks : List Mark) (len number : ℕ) (place : Place) → StandIn len marks →
    find nat_cmp number (entries_of marks) ≡ Some place → place.offset ≤ len
found_stands [] len number place stand found = absurd (let no : None ≡ Some place = found in cc)
found_stands (mark ∷ marks) len number place stand found =
    let Stands = λ (m : Mark). m.place.offset ≤ len in
    elim (eq_by_cmp nat_cmp number mark.number.0) as (λ b.
    cond b (Some mark.place) (find nat_cmp number (entries_of marks)) ≡ Some place → place.offset ≤ len) [
      | true ↦ λ is. let same : mark.place ≡ place = cc in
          subst (λ (p : Place). p.offset ≤ len) same (All-head Stands mark marks stand)
      | false ↦ λ is. found_stands marks len number place (All-tail Stands mark marks stand) is
    ] found

-- a mark stands in the line
pub mark_stands : (marks : List Mark) (len number : ℕ) (place : Place) → Rise marks → StandIn len marks →
    finite.get (marks_of marks) number ≡ Some place → place.offset ≤ len
mark_stands marks len number place rise stand is =
    found_stands marks len number place stand (sym (get-marks_of marks number rise) ∙ is)

marked_within : (marks : List Mark) (len offset : ℕ) → Rise marks → StandIn len marks →
    IsMarked (marks_of marks) offset → offset ≤ len
marked_within marks len offset rise stand marked = let within = mark_stands marks len marked.0 marked.1 rise stand
    marked.2 in omega (arith, within, marked.3)

pub next_mark-stands : (marks : List Mark) (at len : ℕ) → Rise marks → StandIn len marks →
    IfSome (next_mark at (marks_of marks)) (λ next. next ≤ len)
next_mark-stands marks at len rise stand =
    IfSome_then (next_mark at (marks_of marks)) (next_mark-marked at (marks_of marks)) (λ offset marked.
    marked_within marks len offset rise stand marked)

pub previous_mark-stands : (marks : List Mark) (at len : ℕ) → Rise marks → StandIn len marks →
    IfSome (previous_mark at (marks_of marks)) (λ previous. previous ≤ len)
previous_mark-stands marks at len rise stand =
    IfSome_then (previous_mark at (marks_of marks)) (previous_mark-marked at (marks_of marks)) (λ offset marked.
    marked_within marks len offset rise stand marked)
