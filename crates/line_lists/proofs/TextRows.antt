-- The characters of lines in a row, from one offset to another.
use Rattle.line_lists.proofs.Common.{◌≡◌, ℕ, zero, suc, ◌+◌, ◌-◌, ◌<◌, ◌≤◌, List, [], ◌∷◌, ◌++◌, length, take, drop}
use Rattle.line_lists.proofs.Common.{sym, ap, ap₂, ◌∙◌, arith, add-one, append_assoc, inl, inr, length-append}
use Rattle.line_lists.proofs.Common.{length-drop, take-append-drop, slice_get, slice_range, cases_lt, append-nil}
use Rattle.line_lists.proofs.Common.{drop-append-le, length-map, map-append, take-append-le, take_all, drop-drop}
use Rattle.line_lists.proofs.Common.{none-some, same_Some, drop-append-add, Column, LineContent, characters, IsAt}
use Rattle.line_lists.proofs.Common.{content_of, whole, Some}
use Rattle.text_model.specs.Content.{characters as cell_characters}
use Rattle.line_lists.proofs.DraftLaws.{take-more}
use Rattle.line_lists.proofs.LineStarts.{at-before, at-within, length_at, lent, lent-length, start-next, start-rises}
use Rattle.line_lists.proofs.LineStarts.{start_of, there}
use Rattle.line_lists.proofs.PlaceRows.{characters-content, whole-at}
use Rattle.line_lists.proofs.SearchRows.{line_at}
use Rattle.line_lists.proofs.WholeLaws.{whole-append, whole-one}

-- two parts, one behind the other
pub slice-join : {A : Type 0} (xs : List A) (a b c : ℕ) → a ≤ b → b ≤ c →
    slice_range xs a b ++ slice_range xs b c ≡ slice_range xs a c
slice-join xs a b c first second =
    let all : (b - a) + (c - b) ≡ c - a = omega arith in
    let here : a + (b - a) ≡ b = omega arith in
    sym (ap (λ k. take k (drop a xs)) (sym all) ∙ take-more (b - a) (c - b) (drop a xs)
    ∙ ap (λ rest. take (b - a) (drop a xs) ++ take (c - b) rest) (drop-drop (b - a) a xs ∙ ap (λ k. drop k xs) here))

pub slice-none : {A : Type 0} (xs : List A) (a : ℕ) → slice_range xs a a ≡ []
slice-none xs a = ap (λ k. take k (drop a xs)) (let none : a - a ≡ 0 = omega arith in none)

-- a part of a line
pub slice-line : (lines : List LineContent) (k from to : ℕ) → k < length lines → from ≤ to → to ≤ length_at lines k
    → slice_range (characters (whole lines).columns) (start_of lines k + from) (start_of lines k + to)
    ≡ slice_range (characters (line_at lines k).columns) from to
slice-line lines k from to within ordered inside =
    let of = λ (column : Column). column.character in
    let front = (whole (take k lines)).columns in
    let line = (line_at lines k).columns in
    let back = (whole (drop (suc k) lines)).columns in
    let row = ap (λ (row : LineContent). characters row.columns)
    (whole-at lines k (line_at lines k) (there lines k within)) ∙ map-append of front (line ++ back)
    ∙ ap (λ rest. characters front ++ rest) (map-append of line back) in
    let long : length (characters front) ≡ length front = length-map front of in
    let wide : length (characters line) ≡ length line = length-map line of in
    let at : start_of lines k + from ≡ length (characters front) + from = omega (arith, long) in
    let count : (start_of lines k + to) - (start_of lines k + from) ≡ to - from = omega arith in
    ap₂ (λ xs n. take n (drop (start_of lines k + from) xs)) row count
    ∙ ap (take (to - from))
    (ap (λ n. drop n (characters front ++ (characters line ++ characters back))) at
    ∙ drop-append-add (characters front) (characters line ++ characters back) from
    ∙ drop-append-le from (characters line) (characters back) (omega (arith, wide)))
    ∙ take-append-le (to - from) (drop from (characters line)) (characters back)
    (omega (arith, wide, length-drop from (characters line)))

-- the front of a line that is lent
pub slice-front : (lines : List LineContent) (k to : ℕ) (line : LineContent) → slice_get lines k ≡ Some line →
    k < length lines → to ≤ length line.columns → slice_range (characters line.columns) 0 to
    ≡ slice_range (characters (whole lines).columns) (start_of lines k) (start_of lines k + to)
slice-front lines k to line is within inside =
    let inner : to ≤ length_at lines k = omega (arith, inside, lent-length lines k line is) in
    let here : start_of lines k + 0 ≡ start_of lines k = omega arith in
    let none : 0 ≤ to = omega arith in
    ap (λ (here : LineContent). slice_range (characters here.columns) 0 to) (sym (lent lines k line is))
    ∙ sym (slice-line lines k 0 to within none inner)
    ∙ ap (λ n. slice_range (characters (whole lines).columns) n (start_of lines k + to)) here

-- ---- lines behind one another
slice-one : {A : Type 0} (xs : List A) (k : ℕ) (x : A) → slice_get xs k ≡ Some x → slice_range xs k (k + 1) ≡ x ∷ []
slice-one {A = A} xs k x is = ap (λ n. take n (drop k xs)) (let one : (k + 1) - k ≡ 1 = omega arith in one)
    ∙ next xs k is where
      next : (xs : List A) (k : ℕ) → slice_get xs k ≡ Some x → take 1 (drop k xs) ≡ x ∷ []
      next [] k is = absurd (none-some x is)
      next (y ∷ ys) zero is = ap (λ z. z ∷ []) (same_Some y x is)
      next (y ∷ ys) (suc k) is = next ys k is

characters-append : (xs ys : List LineContent) → characters (whole (xs ++ ys)).columns
    ≡ characters (whole xs).columns ++ characters (whole ys).columns
characters-append xs ys =
    ap (λ (row : LineContent). characters row.columns) (whole-append xs ys)
    ∙ map-append (λ (column : Column). column.character) (whole xs).columns (whole ys).columns

-- a text behind which no line is put
pub pushed-none : (lines : List LineContent) (from : ℕ) (text : List ℕ) →
    text ≡ text ++ characters (whole (slice_range lines from from)).columns
pushed-none lines from text =
    sym (ap (λ part. text ++ characters (whole part).columns) (slice-none lines from) ∙ append-nil text)

-- a text behind which a lent line is put, where it ended with the lines before that
pub pushed-line : (lines : List LineContent) (from k count : ℕ) (line : LineContent) (first old new : List ℕ) →
    slice_get lines k ≡ Some line → from ≤ k → count ≡ length line.columns
    → old ≡ first ++ characters (whole (slice_range lines from k)).columns
    → new ≡ old ++ slice_range (characters line.columns) 0 count
    → new ≡ first ++ characters (whole (slice_range lines from (k + 1))).columns
pushed-line lines from k count line first old new is ordered count_is old_is new_is =
    let here = slice_range lines from k in
    let text = characters line.columns in
    let long : length text ≡ length line.columns = length-map line.columns (λ (column : Column). column.character) in
    let none : count - 0 ≡ count = omega arith in
    let all : slice_range text 0 count ≡ text = ap (λ n. take n text) none
    ∙ take_all count text (omega (arith, long, count_is)) in
    let more : here ++ line ∷ [] ≡ slice_range lines from (k + 1) =
    ap (λ next. here ++ next) (sym (slice-one lines k line is))
    ∙ slice-join lines from k (k + 1) ordered (omega arith) in
    let one = ap (λ (row : LineContent). characters row.columns) (whole-one line) in
    new_is ∙ ap₂ (λ front part. front ++ part) old_is (all ∙ sym one)
    ∙ append_assoc first (characters (whole here).columns) (characters (whole (line ∷ [])).columns)
    ∙ ap (λ part. first ++ part) (sym (characters-append here (line ∷ [])))
    ∙ ap (λ (part : List LineContent). first ++ characters (whole part).columns) more

-- lines from one to another are what stands from the start of the one to that of the other
pub lines-between : (lines : List LineContent) (from to : ℕ) → from ≤ to →
    characters (whole (slice_range lines from to)).columns
    ≡ slice_range (characters (whole lines).columns) (start_of lines from) (start_of lines to)
lines-between lines from to ordered =
    let middle = slice_range lines from to in
    let one = characters (whole (take from lines)).columns in
    let two = characters (whole middle).columns in
    let three = characters (whole (drop to lines)).columns in
    let all : from + (to - from) ≡ to = omega arith in
    let parts : take from lines ++ middle ≡ take to lines = sym (take-more from (to - from) lines)
    ∙ ap (λ n. take n lines) all in
    let row : one ++ (two ++ three) ≡ characters (whole lines).columns =
    sym (append_assoc one two three)
    ∙ ap (λ part. part ++ three) (sym (characters-append (take from lines) middle))
    ∙ sym (characters-append (take from lines ++ middle) (drop to lines))
    ∙ ap (λ part. characters (whole (part ++ drop to lines)).columns) parts
    ∙ ap (λ part. characters (whole part).columns) (take-append-drop to lines) in
    let of = λ (column : Column). column.character in
    let start : length one ≡ start_of lines from = length-map (whole (take from lines)).columns of in
    let end : length one + length two ≡ start_of lines to = sym (length-append one two)
    ∙ ap length (sym (characters-append (take from lines) middle))
    ∙ length-map (whole (take from lines ++ middle)).columns of
    ∙ ap (λ part. length (whole part).columns) parts in
    let at : start_of lines from ≡ length one + 0 = omega (arith, start) in
    let count : start_of lines to - start_of lines from ≡ length two = omega (arith, start, end) in
    let same : length two ≤ length two = omega arith in
    sym (ap₂ (λ n xs. take n (drop (start_of lines from) xs)) count (sym row)
    ∙ ap (λ n. take (length two) (drop n (one ++ (two ++ three)))) at
    ∙ ap (take (length two)) (drop-append-add one (two ++ three) 0)
    ∙ take-append-le (length two) two three same ∙ take_all (length two) two same)

pub slice-content : (lines : List LineContent) (from to : ℕ) →
    slice_range (cell_characters (content_of lines).cells) from to
    ≡ slice_range (characters (whole lines).columns) from to
slice-content lines from to = ap (λ text. slice_range text from to) (characters-content lines)

-- an offset that isn't behind another isn't in a later line
pub at-ordered : (lines : List LineContent) (start first column end last to : ℕ) → IsAt lines start first column →
    IsAt lines end last to → start ≤ end → first ≤ last
at-ordered lines start first column end last to at there ordered =
    elim (cases_lt last first) [
      | inl less ↦ absurd (omega (arith, at-before lines end last to first there less at.within, at.behind, ordered))
      | inr more ↦ more
    ]

-- two offsets in one line
pub copied-line : (lines : List LineContent) (start first column end to : ℕ) (line : LineContent) (text : List ℕ) →
    IsAt lines start first column → slice_get lines first ≡ Some line → start ≤ end → to ≡ column + (end - start)
    → to ≤ length line.columns → text ≡ slice_range (characters line.columns) column to →
    text ≡ slice_range (cell_characters (content_of lines).cells) start end
copied-line lines start first column end to line text at here ordered to_is inside is =
    let inner : to ≤ length_at lines first = omega (arith, inside, lent-length lines first line here) in
    let less : column ≤ to = omega (arith, to_is) in
    let end_is : start_of lines first + to ≡ end = omega (arith, at.behind, to_is, ordered) in
    is ∙ ap (λ (l : LineContent). slice_range (characters l.columns) column to) (sym (lent lines first line here))
    ∙ sym (slice-line lines first column to at.within less inner)
    ∙ ap₂ (slice_range (characters (whole lines).columns)) (sym at.behind) end_is ∙ sym (slice-content lines start end)

-- an offset behind a line is in a later line
pub at-later : (lines : List LineContent) (start first column end last to : ℕ) → IsAt lines start first column →
    IsAt lines end last to → start ≤ end → end ≤ length (whole lines).columns →
    length_at lines first < column + (end - start) → first < last
at-later lines start first column end last to at there ordered within behind =
    elim (cases_lt first last) [
      | inl less ↦ less
      | inr more ↦
          let up = at-ordered lines start first column end last to at there ordered in
          let same : first ≡ last = omega (arith, up, more) in
          absurd (omega (
            arith,
            at.behind,
            there.behind,
            ap (start_of lines) same,
            ap (length_at lines) same,
            at-within lines end last to there within,
            behind,
          ))
    ]

-- the rest of a line, the lines up to another, and a part of that
pub copied-lines : (lines : List LineContent) (start first column end last to : ℕ) (one two three : List ℕ) →
    IsAt lines start first column → IsAt lines end last to → start ≤ end → end ≤ length (whole lines).columns
    → first < last → one ≡ slice_range (characters (line_at lines first).columns) column (length_at lines first)
    → two ≡ one ++ slice_range (characters (whole lines).columns) (start_of lines (first + 1)) (start_of lines last)
    → three ≡ two ++ slice_range (characters (whole lines).columns) (start_of lines last) (start_of lines last + to)
    → three ≡ slice_range (cell_characters (content_of lines).cells) start end
copied-lines lines start first column end last to one two three at there ordered within less one_is two_is three_is =
    let all = characters (whole lines).columns in
    let inner : column ≤ length_at lines first = at-within lines start first column at (omega (arith, ordered, within))
    in
    let next : start_of lines first + length_at lines first
    ≡ start_of lines (first + 1) = sym (start-next lines first at.within)
    ∙ ap (start_of lines) (sym (add-one first)) in
    let more : first + 1 ≤ last = omega (arith, less) in
    let same : length_at lines first ≤ length_at lines first = omega arith in
    let front : one ≡ slice_range all start (start_of lines (first + 1)) =
    one_is ∙ sym (slice-line lines first column (length_at lines first) at.within inner same)
    ∙ ap₂ (slice_range all) (sym at.behind) next in
    let behind : start ≤ start_of lines (first + 1) = omega (arith, at.behind, inner, next) in
    let rises = start-rises lines (first + 1) last more in
    let upto : start ≤ start_of lines last = omega (arith, behind, rises) in
    let rest : start_of lines last ≤ end = omega (arith, there.behind) in
    three_is
    ∙ ap₂ (λ text part. text ++ part) (two_is
    ∙ ap (λ text. text ++ slice_range all (start_of lines (first + 1)) (start_of lines last)) front
    ∙ slice-join all start (start_of lines (first + 1)) (start_of lines last) behind rises)
    (ap (slice_range all (start_of lines last)) (sym there.behind))
    ∙ slice-join all start (start_of lines last) end upto rest
    ∙ sym (slice-content lines start end)
