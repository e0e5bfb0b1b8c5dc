-- Where the lines in a row begin.
use Rattle.line_lists.proofs.Common.{◌≡◌, ℕ, zero, suc, ◌+◌, ◌-◌, ◌<◌, ◌≤◌, List, [], ◌∷◌, None, Some, length, take}
use Rattle.line_lists.proofs.Common.{sym, ap, subst, ◌∙◌, inl, inr, arith, length-append, IfSome, slice_get, cases_lt}
use Rattle.line_lists.proofs.Common.{take_all, get_or_from_slice_get, slice_get-get_or, LineContent, plain_line, Holds}
use Rattle.line_lists.proofs.Common.{IsAt, whole}
use Rattle.line_lists.proofs.SearchRows.{line_at}

abbrev pub start_of : List LineContent → ℕ → ℕ
start_of lines k = length (whole (take k lines)).columns

abbrev pub length_at : List LineContent → ℕ → ℕ
length_at lines k = length (line_at lines k).columns

pub there : (lines : List LineContent) (k : ℕ) → k < length lines → slice_get lines k ≡ Some (line_at lines k)
there lines k within = slice_get-get_or lines k (plain_line []) within

pub start-more : (line : LineContent) (lines : List LineContent) (k : ℕ) →
    start_of (line ∷ lines) (suc k) ≡ length line.columns + start_of lines k
start-more line lines k = length-append line.columns (whole (take k lines)).columns

pub start-next : (lines : List LineContent) (k : ℕ) → k < length lines →
    start_of lines (suc k) ≡ start_of lines k + length_at lines k
start-next [] k within = absurd (omega arith)
start-next (line ∷ lines) zero within =
    start-more line lines 0 ∙ (let same : length line.columns + 0 ≡ 0 + length line.columns = omega arith in same)
start-next (line ∷ lines) (suc k) within = let small : k < length lines = omega arith in
    omega (arith, start-more line lines (suc k), start-more line lines k, start-next lines k small)

pub start-rises : (lines : List LineContent) (j k : ℕ) → j ≤ k → start_of lines j ≤ start_of lines k
start-rises lines zero k ordered = omega arith
start-rises [] (suc j) zero ordered = omega arith
start-rises [] (suc j) (suc k) ordered = omega arith
start-rises (line ∷ lines) (suc j) zero ordered = absurd (omega arith)
start-rises (line ∷ lines) (suc j) (suc k) ordered = let less : j ≤ k = omega arith in
    omega (arith, start-more line lines j, start-more line lines k, start-rises lines j k less)

pub start-all : (lines : List LineContent) → start_of lines (length lines) ≡ length (whole lines).columns
start-all lines = ap (λ part. length (whole part).columns) (take_all (length lines) lines (omega arith))

-- the line that is lent
pub lent : (lines : List LineContent) (k : ℕ) (line : LineContent) → slice_get lines k ≡ Some line →
    line_at lines k ≡ line
lent lines k line is = get_or_from_slice_get lines k line (plain_line []) is

pub lent-within : (lines : List LineContent) (k column : ℕ) (line : LineContent) → slice_get lines k ≡ Some line →
    column ≤ length line.columns
    → IfSome (slice_get lines k) (λ (here : LineContent). column ≤ length here.columns)
lent-within lines k column line is within =
    subst (λ found. IfSome found (λ (here : LineContent). column ≤ length here.columns)) (sym is) within

-- a column of a line lies in the text
pub column-within : (lines : List LineContent) (k column : ℕ) → k < length lines →
    IfSome (slice_get lines k) (λ (here : LineContent). column ≤ length here.columns)
    → start_of lines k + column ≤ length (whole lines).columns
column-within lines k column within inside =
    let small : column ≤ length_at lines k = subst (λ found.
    IfSome found (λ (here : LineContent). column ≤ length here.columns)) (there lines k within) inside in
    let most : suc k ≤ length lines = omega arith in
    omega (arith, small, start-next lines k within, start-rises lines (suc k) (length lines) most, start-all lines)

pub lent-there : (lines : List LineContent) (k : ℕ) (line : LineContent) → slice_get lines k ≡ Some line → k < length lines
lent-there [] k line is = absurd (let no : None ≡ Some line = is in cc)
lent-there (here ∷ lines) zero line is = omega arith
lent-there (here ∷ lines) (suc k) line is = let less : k < length lines = lent-there lines k line is in
    omega (arith, less)

-- a column of a line that is lent behind where it begins
pub placed-most : (lines : List LineContent) (k start column : ℕ) (line : LineContent) → start ≡ start_of lines k →
    slice_get lines k ≡ Some line → column ≤ length line.columns → start + column ≤ length (whole lines).columns
placed-most lines k start column line starts is small =
    omega (
      arith,
      starts,
      column-within lines k column (lent-there lines k line is) (lent-within lines k column line is small),
    )

-- a column of a line in which another one has an offset
pub near-column : (lines : List LineContent) (offset k column found : ℕ) → offset ≡ start_of lines k + column →
    (offset - column) + found ≡ start_of lines k + found
near-column lines offset k column found behind = omega (arith, behind)

pub near-most : (lines : List LineContent) (offset k column found : ℕ) (line : LineContent) →
    offset ≡ start_of lines k + column → slice_get lines k ≡ Some line → found ≤ length line.columns
    → (offset - column) + found ≤ length (whole lines).columns
near-most lines offset k column found line behind is small =
    placed-most lines k (offset - column) found line (omega (arith, behind)) is small

-- from the end of the text on an offset is counted in the last line
pub at-end : (lines : List LineContent) (offset last start : ℕ) → 0 < length lines → last ≡ length lines - 1 →
    start ≡ start_of lines last → start ≤ offset → IsAt lines offset last (offset - start)
at-end lines offset last start some is starts behind = record {
  behind = omega (arith, starts);
  within = omega (arith, is);
  inside = λ more. absurd (omega (arith, is, more));
}

pub at-held : (lines : List LineContent) (offset k column : ℕ) → Holds lines offset k column →
    IsAt lines offset k column
at-held lines offset k column holds =
    record { behind = holds.behind; within = holds.within; inside = λ more. holds.inside }

-- a line before another ends before it
pub start-before : (lines : List LineContent) (j k : ℕ) → j < k → k ≤ length lines →
    start_of lines j + length_at lines j ≤ start_of lines k
start-before lines j k before within = let small : j < length lines = omega arith in
    let less : suc j ≤ k = omega arith in omega (arith, start-next lines j small, start-rises lines (suc j) k less)

-- where the line isn't the last, the offset is before the next one
pub at-inside : (lines : List LineContent) (offset k column : ℕ) → IsAt lines offset k column → suc k < length lines →
    column < length_at lines k
at-inside lines offset k column at more = subst (λ found.
    IfSome found (λ (here : LineContent). column < length here.columns)) (there lines k at.within) (at.inside more)

pub at-before : (lines : List LineContent) (offset k column j : ℕ) → IsAt lines offset k column → k < j →
    j < length lines → offset < start_of lines j
at-before lines offset k column j at behind within =
    let more : suc k < length lines = omega arith in let less : j ≤ length lines = omega arith in
    omega (arith, at.behind, at-inside lines offset k column at more, start-before lines k j behind less)

pub lent-inner : (lines : List LineContent) (offset k column : ℕ) → Holds lines offset k column →
    column < length_at lines k
lent-inner lines offset k column holds = subst (λ found.
    IfSome found (λ (here : LineContent). column < length here.columns)) (there lines k holds.within) holds.inside

-- within the text an offset is within its line
pub at-within : (lines : List LineContent) (offset k column : ℕ) → IsAt lines offset k column →
    offset ≤ length (whole lines).columns → column ≤ length_at lines k
at-within lines offset k column at last =
    elim (cases_lt (suc k) (length lines)) [
      | inl more ↦ omega (arith, at-inside lines offset k column at more)
      | inr less ↦
          let all : length lines ≡ suc k = omega (arith, at.within) in
          let end = ap (start_of lines) (sym all) ∙ start-all lines in
          omega (arith, at.behind, last, end, start-next lines k at.within)
    ]

pub lent-length : (lines : List LineContent) (k : ℕ) (line : LineContent) → slice_get lines k ≡ Some line →
    length_at lines k ≡ length line.columns
lent-length lines k line is = ap (λ (l : LineContent). length l.columns) (lent lines k line is)

-- a line that is lent ends where the next one begins
pub start-behind : (lines : List LineContent) (k start len : ℕ) (here : LineContent) → k < length lines →
    start ≡ start_of lines k → slice_get lines k ≡ Some here → len ≡ length here.columns
    → start + len ≡ start_of lines (suc k)
start-behind lines k start len here within starts is long =
    omega (arith, starts, long, lent-length lines k here is, start-next lines k within)

pub start-most : (lines : List LineContent) (k : ℕ) → k ≤ length lines → start_of lines k ≤ length (whole lines).columns
start-most lines k within = omega (arith, start-rises lines k (length lines) within, start-all lines)
