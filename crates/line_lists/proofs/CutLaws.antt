-- A line that is cut in two.
use Rattle.line_lists.proofs.Common.{◌≡◌, ℕ, ◌+◌, ◌-◌, ◌<◌, ◌≤◌, Bool, true, false, cond, List, [], ◌∷◌, ◌++◌, Option}
use Rattle.line_lists.proofs.Common.{None, Some, length, take, drop, refl, sym, ap, ap₂, subst, ◌∙◌, arith}
use Rattle.line_lists.proofs.Common.{length-append, length-drop, take-append-drop, nat_cmp_total, nat_le, nat_lt}
use Rattle.line_lists.proofs.Common.{option_map, nat_tests, drop-map, length-map, length-take-le, map-append, take-map}
use Rattle.line_lists.proofs.Common.{option_filter, drop-append_seam, take-append_seam, Place, Marks, map_marks}
use Rattle.line_lists.proofs.Common.{ends_in_newline, lines, inserted, moved, ends_with_rest, lines-append}
use Rattle.line_lists.proofs.Common.{get-map_marks, same_marks, Column, LineContent, after_text, characters, earlier}
use Rattle.line_lists.proofs.Common.{joined, later, line_before, line_behind, marks_where, plain_columns, plain_line}
use Rattle.line_lists.proofs.Common.{get-joined_marks, or_else, characters-plain, AreApart, AreRows, GoesBefore, IsLine}
use Rattle.line_lists.proofs.Common.{StandBefore, whole}
use Rattle.line_lists.proofs.EditLaws.{length-text, some-columns, text-among, text-goes, text-whole}
use Rattle.line_lists.proofs.MarkPlaces.{apart-rest}
use Rattle.line_lists.proofs.NewlineRows.{none_before}
use Rattle.line_lists.proofs.PassingLaws.{find-passing, passing}
use Rattle.line_lists.proofs.RowLaws.{AreAmong, Makes, among-first, free-joined, rows-before, rows-behind}
use Rattle.line_lists.proofs.WholeLaws.{joined-associative, whole-append}
use Rattle.std.specs.FinMap as finite

-- ---- the marks that pass a test
pub get-marks_where : (test : Place → Bool) (marks : Marks) (number : ℕ) →
    finite.get (marks_where test marks) number ≡ option_filter test (finite.get marks number)
get-marks_where test marks number =
    finite.get-from_entries nat_cmp_total (passing test (finite.entries marks)) number
    ∙ find-passing test (finite.entries marks) number (finite.entries_sorted marks)
    ∙ ap (option_filter test) (sym (finite.get-entries marks number))

-- ---- the two parts in a row
two_tests : (less more : Bool) (at : ℕ) (place : Place) → (less ≡ true → more ≡ false) → (less ≡ false → more ≡ true) →
    (less ≡ false → at ≤ place.offset)
    → or_else (option_map (later at) (option_map (earlier at) (cond more (Some place) None)))
    (cond less (Some place) None) ≡ Some place
two_tests true more at place before behind far = ap (λ b.
    or_else (option_map (later at) (option_map (earlier at) (cond b (Some place) None))) (Some place)) (before refl)
two_tests false more at place before behind far =
    let there = far refl in
    ap (λ b. or_else (option_map (later at) (option_map (earlier at) (cond b (Some place) None))) None) (behind refl)
    ∙ ap (λ offset. Some (record place { offset = offset })) (let same : (place.offset - at) + at
    ≡ place.offset = omega (arith, there) in same)

one_of : (at : ℕ) (found : Option Place)
    →
    or_else (option_map (later at) (option_map (earlier at)
    (option_filter (λ (place : Place). nat_le at place.offset) found)))
    (option_filter (λ (place : Place). nat_lt place.offset at) found) ≡ found
one_of at None = refl
one_of at (Some place) =
    two_tests (nat_lt place.offset at) (nat_le at place.offset) at place (λ is. grind (arith, nat_tests)) (λ is.
    grind (arith, nat_tests)) (λ is. grind (arith, nat_tests))

pub parts-joined : (at : ℕ) (line : LineContent) → at ≤ length line.columns →
    joined (line_before at line) (line_behind at line) ≡ line
parts-joined at line within =
    let before = marks_where (λ (place : Place). nat_lt place.offset at) line.marks in
    let behind = marks_where (λ (place : Place). nat_le at place.offset) line.marks in
    let marks = same_marks _ line.marks (λ q.
    get-joined_marks (length (take at line.columns)) before (map_marks (earlier at) behind) q
    ∙ ap (λ n. or_else (option_map (later n) (finite.get (map_marks (earlier at) behind) q)) (finite.get before q))
    (length-take-le at line.columns within)
    ∙ ap₂ (λ x y. or_else (option_map (later at) x) y)
    (get-map_marks (earlier at) behind q
    ∙ ap (option_map (earlier at)) (get-marks_where (λ (place : Place). nat_le at place.offset) line.marks q))
    (get-marks_where (λ (place : Place). nat_lt place.offset at) line.marks q)
    ∙ one_of at (finite.get line.marks q)) in
    λ i. record { columns = take-append-drop at line.columns i; marks = marks i }

pub cut-whole : (at : ℕ) (before behind : List LineContent) (line : LineContent) → at ≤ length line.columns
    → whole (before ++ line_before at line ∷ line_behind at line ∷ behind) ≡ whole (before ++ line ∷ behind)
cut-whole at before behind line within =
    whole-append before (line_before at line ∷ line_behind at line ∷ behind)
    ∙ ap (joined (whole before)) (joined-associative (line_before at line) (line_behind at line) (whole behind)
    ∙ ap (λ part. joined part (whole behind)) (parts-joined at line within))
    ∙ sym (whole-append before (line ∷ behind))

-- ---- which marks go where
passed : (test : Bool) (place here : Place) → cond test (Some place) None ≡ Some here → (test ≡ true) × (place ≡ here)
passed true place here is = (refl, let same : place ≡ here = cc in same)
passed false place here is = absurd (let no : None ≡ Some here = is in cc)

record Stays (at : ℕ) (place : Place) (found : Option Place) : Type 0 where
  before : place.offset < at
  same : found ≡ Some place

stays : (at : ℕ) (place : Place) (found : Option Place) →
    option_filter (λ (p : Place). nat_lt p.offset at) found ≡ Some place → Stays at place found
stays at place None is = absurd (let no : None ≡ Some place = is in cc)
stays at place (Some here) is =
    let both = passed (nat_lt here.offset at) here place is in
    let less : here.offset < at = let test = both.0 in grind (arith, nat_tests) in
    record { before = omega (arith, less, ap (λ (p : Place). p.offset) both.1); same = ap (λ p. Some p) both.1 }

kept-before : (at : ℕ) (line : LineContent) (number : ℕ) (place : Place) →
    finite.get (line_before at line).marks number ≡ Some place → Stays at place (finite.get line.marks number)
kept-before at line number place is = stays at place (finite.get line.marks number)
    (sym (get-marks_where (λ (p : Place). nat_lt p.offset at) line.marks number) ∙ is)

record Goes (at : ℕ) (place : Place) (found : Option Place) : Type 0 where
  from : Place
  behind : at ≤ from.offset
  offset : place.offset ≡ from.offset - at
  same : found ≡ Some from

goes : (at : ℕ) (place : Place) (found : Option Place) →
    option_map (earlier at) (option_filter (λ (p : Place). nat_le at p.offset) found) ≡ Some place → Goes at place found
goes at place None is = absurd (let no : None ≡ Some place = is in cc)
goes at place (Some here) is =
    which (nat_le at here.offset) refl is where
      which : (b : Bool) → nat_le at here.offset ≡ b → option_map (earlier at) (cond b (Some here) None) ≡ Some place →
          Goes at place (Some here)
      which true test there = record {
        from = here;
        behind = grind (arith, nat_tests);
        offset = sym (ap (λ (p : Place). p.offset) (let same : earlier at here ≡ place = cc in same));
        same = refl;
      }
      which false test there = absurd (let none : None ≡ Some place = there in cc)

goes-behind : (at : ℕ) (line : LineContent) (number : ℕ) (place : Place) →
    finite.get (line_behind at line).marks number ≡ Some place → Goes at place (finite.get line.marks number)
goes-behind at line number place is =
    goes at place (finite.get line.marks number)
    (sym (get-map_marks (earlier at) (marks_where (λ (p : Place). nat_le at p.offset) line.marks) number
    ∙ ap (option_map (earlier at)) (get-marks_where (λ (p : Place). nat_le at p.offset) line.marks number)) ∙ is)

not_both : (at : ℕ) (place : Place) → place.offset < at →
    option_map (earlier at) (option_filter (λ (p : Place). nat_le at p.offset) (Some place)) ≡ None
not_both at place before = ap (λ b. option_map (earlier at) (cond b (Some place) None)) (let no : nat_le at place.offset
    ≡ false = grind (arith, nat_tests) in no)

free-behind : (at : ℕ) (line : LineContent) (number : ℕ) (place : Place) → place.offset < at →
    finite.get line.marks number ≡ Some place → finite.get (line_behind at line).marks number ≡ None
free-behind at line number place before is =
    get-map_marks (earlier at) (marks_where (λ (p : Place). nat_le at p.offset) line.marks) number
    ∙ ap (option_map (earlier at)) (get-marks_where (λ (p : Place). nat_le at p.offset) line.marks number
    ∙ ap (option_filter (λ (p : Place). nat_le at p.offset)) is)
    ∙ not_both at place before

cut-first : (at : ℕ) (line : LineContent) (behind : List LineContent) → at ≤ length line.columns →
    GoesBefore line behind → GoesBefore (line_before at line) (line_behind at line ∷ behind)
cut-first at line behind within goes_on =
    let stand : StandBefore (length (line_before at line).columns) (line_before at line).marks = λ number place is.
    omega (arith, (kept-before at line number place is).before, length-take-le at line.columns within) in
    let apart : AreApart (line_before at line).marks (whole (line_behind at line ∷ behind)).marks = λ number place is.
    let kept = kept-before at line number place is in
    free-joined (line_behind at line) (whole behind) number (free-behind at line number place kept.before kept.same)
    (apart-rest line behind goes_on number place kept.same) in
    (stand, apart)

cut-second : (at : ℕ) (line : LineContent) (behind : List LineContent) → at < length line.columns →
    GoesBefore line behind → GoesBefore (line_behind at line) behind
cut-second at line [] within goes_on = λ number place is.
    let from = goes-behind at line number place is in
    omega (arith, from.behind, from.offset, goes_on number from.from from.same, length-drop at line.columns)
cut-second at line (next ∷ others) within goes_on =
    let stand : StandBefore (length (line_behind at line).columns) (line_behind at line).marks = λ number place is.
    let from = goes-behind at line number place is in
    omega (arith, from.behind, from.offset, goes_on.0 number from.from from.same, length-drop at line.columns) in
    let apart : AreApart (line_behind at line).marks (whole (next ∷ others)).marks = λ number place is.
    let from = goes-behind at line number place is in goes_on.1 number from.from from.same in
    (stand, apart)

-- ---- a text that ends in a newline goes in, and the line is cut behind it
text-long : (column : ℕ) (text : List ℕ) (xs : List Column) → column ≤ length xs →
    column + length text ≡ length (take column xs ++ plain_columns text)
text-long column text xs within =
    let long : length (plain_columns text) ≡ length text = length-map text _ in
    omega (arith, length-append (take column xs) (plain_columns text), length-take-le column xs within, long)

text-front : (column : ℕ) (text : List ℕ) (xs : List Column) → column ≤ length xs
    → take (column + length text) (inserted column (plain_columns text) xs) ≡ take column xs ++ plain_columns text
text-front column text xs within =
    ap (λ n. take n (inserted column (plain_columns text) xs)) (text-long column text xs within)
    ∙ take-append_seam (take column xs ++ plain_columns text) (drop column xs)

text-rest : (column : ℕ) (text : List ℕ) (xs : List Column) → column ≤ length xs →
    drop (column + length text) (inserted column (plain_columns text) xs) ≡ drop column xs
text-rest column text xs within =
    ap (λ n. drop n (inserted column (plain_columns text) xs)) (text-long column text xs within)
    ∙ drop-append_seam (take column xs ++ plain_columns text) (drop column xs)

pub some-text : (text : List ℕ) → IsLine (plain_line text) → 0 < length text
some-text text is = let long : length (plain_columns text) ≡ length text = length-map text _ in
    omega (arith, some-columns (plain_columns text) is.ends, long)

first-line : (column : ℕ) (text : List ℕ) (line : LineContent) → column < length line.columns →
    IsLine (plain_line text) → IsLine line → IsLine (line_before (column + length text) (after_text column text line))
first-line column text line within whole_line is =
    let old = characters line.columns in
    let short : column < length old = omega (arith, within, length-map line.columns (λ (c : Column). c.character)) in
    let new : characters (take (column + length text) (inserted column (plain_columns text) line.columns))
    ≡ take column old ++ text =
    ap characters (text-front column text line.columns (omega (arith, within)))
    ∙ map-append (λ (c : Column). c.character) (take column line.columns) (plain_columns text)
    ∙ ap₂ (λ xs ys. xs ++ ys) (sym (take-map (λ (c : Column). c.character) column line.columns)) (characters-plain text)
    in
    record {
      ends = ap ends_in_newline new ∙ ends_with_rest (take column old) 0 text (some-text text whole_line)
          ∙ ap ends_in_newline (sym (characters-plain text)) ∙ whole_line.ends;
      once =
          ap lines new ∙ lines-append (take column old) text
          ∙ ap₂ (λ a b. a + b) (none_before old column is.ends is.once short) (ap lines (sym (characters-plain text))
          ∙ whole_line.once);
    }

second-line : (column : ℕ) (text : List ℕ) (line : LineContent) → column < length line.columns → IsLine line →
    IsLine (line_behind (column + length text) (after_text column text line))
second-line column text line within is =
    let old = characters line.columns in
    let short : column < length old = omega (arith, within, length-map line.columns (λ (c : Column). c.character)) in
    let new : characters (drop (column + length text) (inserted column (plain_columns text) line.columns))
    ≡ drop column old =
    ap characters (text-rest column text line.columns (omega (arith, within)))
    ∙ sym (drop-map (λ (c : Column). c.character) column line.columns) in
    record {
      ends = ap ends_in_newline new ∙ ends_with_rest [] column old short ∙ is.ends;
      once =
          omega (
            arith,
            ap lines new,
            lines-append (take column old) (drop column old),
            ap lines (take-append-drop column old),
            none_before old column is.ends is.once short,
            is.once,
          );
    }

split-rows : (column : ℕ) (text : List ℕ) (before behind : List LineContent) (line : LineContent) →
    column < length line.columns → IsLine (plain_line text) → AreRows (before ++ line ∷ behind)
    → AreRows (before ++ line_before (column + length text) (after_text column text line)
    ∷ line_behind (column + length text) (after_text column text line) ∷ behind)
split-rows column text before behind line within whole_line rows =
    let rest = rows-behind before (line ∷ behind) rows in
    let at = column + length text in
    let new = after_text column text line in
    let long = length-text column text line.columns (omega (arith, within)) in
    let moved_on = text-goes column text line behind within rest.1 in
    let among : AreAmong (whole (line_before at new ∷ line_behind at new ∷ behind)).marks (whole (line ∷ behind)).marks
    = λ number free.
    ap (λ (all : LineContent). finite.get all.marks number) (cut-whole at [] behind new (omega (arith, long, within)))
    ∙ among-first line new behind (text-among (moved column (length text)) line.marks) number free in
    rows-before before (line ∷ behind) (line_before at new ∷ line_behind at new ∷ behind) (omega arith) (omega arith)
    rows (
      first-line column text line within whole_line rest.0,
      cut-first at new behind (omega (arith, long, within)) moved_on,
      (
        second-line column text line within rest.0,
        cut-second at new behind (omega (arith, long, within)) moved_on,
        rest.2,
      ),
    )
    among

pub split-makes : (before behind old : List LineContent) (line new : LineContent) (offset column : ℕ) (text : List ℕ) →
    before ++ line ∷ behind ≡ old → offset ≡ length (whole before).columns + column
    → column < length line.columns → IsLine (plain_line text) → AreRows old → new ≡ after_text column text line
    → Makes (after_text offset text) old (before ++ line_before (column + length text) new
    ∷ line_behind (column + length text) new ∷ behind)
split-makes before behind old line new offset column text old_is place inside whole_line rows new_is =
    let here = subst AreRows (sym old_is) rows in
    let at = column + length text in
    let long = length-text column text line.columns (omega (arith, inside)) in
    let made = after_text column text line in
    record {
      rows = λ _. subst (λ x. AreRows (before ++ line_before at x ∷ line_behind at x ∷ behind)) (sym new_is)
          (split-rows column text before behind line inside whole_line here);
      whole =
          ap (λ x. whole (before ++ line_before at x ∷ line_behind at x ∷ behind)) new_is
          ∙ cut-whole at before behind made (omega (arith, long, inside))
          ∙ text-whole column text before behind line inside here
          ∙ ap₂ (λ n xs. after_text n text (whole xs)) (sym place) old_is;
    }
