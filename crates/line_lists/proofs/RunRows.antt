-- Runs of characters that pass a test which no newline passes: each lies in one line.
use Rattle.line_lists.proofs.Common.{◌≡◌, ℕ, zero, suc, ◌+◌, ◌-◌, ◌<◌, ◌≤◌, Bool, true, false, cond, List, [], ◌∷◌}
use Rattle.line_lists.proofs.Common.{◌++◌, length, take, drop, refl, sym, ap, ap₂, ◌∙◌, arith, slice_get, reverse}
use Rattle.line_lists.proofs.Common.{prefix_len, suffix_len, drop-append-add, take-append-add, drop-append-le}
use Rattle.line_lists.proofs.Common.{length-map, length-reverse, reverse-append, take-append-le, ends_in_newline}
use Rattle.line_lists.proofs.Common.{run_start-le, Column, LineContent, characters, AreRows, content_of, whole, Some}
use Rattle.line_lists.proofs.Common.{eqb-true}
use Rattle.text_model.specs.Content.{characters as cell_characters}
use Rattle.line_lists.proofs.NewlineRows.{characters-append, row-at}
use Rattle.line_lists.proofs.PlaceRows.{characters-content, whole-at}

-- ---- characters in a row
-- what follows a character that doesn't pass makes no difference
stops-before : (test : ℕ → Bool) (text rest : List ℕ) → prefix_len test text < length text →
    prefix_len test (text ++ rest) ≡ prefix_len test text
stops-before test [] rest stops = absurd (omega arith)
stops-before test (c ∷ text) rest stops = by (test c) refl stops (stops-before test text rest) where
  by : (b : Bool) → test c ≡ b → cond b (1 + prefix_len test text) 0 < length (c ∷ text) →
      (prefix_len test text < length text → prefix_len test (text ++ rest) ≡ prefix_len test text) →
      cond (test c) (1 + prefix_len test (text ++ rest)) 0 ≡ cond (test c) (1 + prefix_len test text) 0
  by true is more later = ap (λ n. cond (test c) (1 + n) 0) (later (omega arith))
  by false is more later = ap (λ b. cond b (1 + prefix_len test (text ++ rest)) 0) is
      ∙ sym (ap (λ b. cond b (1 + prefix_len test text) 0) is)

-- nor does what begins with one
stops-behind : (test : ℕ → Bool) (text rest : List ℕ) → prefix_len test rest ≡ 0 →
    prefix_len test (text ++ rest) ≡ prefix_len test text
stops-behind test [] rest none = none
stops-behind test (c ∷ text) rest none = ap (λ n. cond (test c) (1 + n) 0) (stops-behind test text rest none)

-- the same from the back
stops-back : (test : ℕ → Bool) (front text : List ℕ) → suffix_len test front ≡ 0 →
    suffix_len test (front ++ text) ≡ suffix_len test text
stops-back test front text none =
    ap (prefix_len test) (reverse-append front text) ∙ stops-behind test (reverse text) (reverse front) none

-- ---- one line
-- a run in a line ends before its newline
run-inside : (test : ℕ → Bool) (text : List ℕ) (column : ℕ) → test 10 ≡ false → ends_in_newline text ≡ true →
    column < length text → prefix_len test (drop column text) < length (drop column text)
run-inside test [] column stops ends within = absurd (omega arith)
run-inside test (c ∷ []) zero stops ends within =
    let no : prefix_len test (c ∷ []) ≡ 0 = ap (λ b. cond b 1 0) (ap test (eqb-true c 10 ends) ∙ stops) in
    omega (arith, no)
run-inside test (c ∷ []) (suc column) stops ends within = absurd (omega arith)
run-inside test (c ∷ d ∷ text) zero stops ends within =
    let more = run-inside test (d ∷ text) 0 stops ends (omega arith) in by (test c) more where
      by : (b : Bool) → prefix_len test (d ∷ text) < length (d ∷ text) →
          cond b (1 + prefix_len test (d ∷ text)) 0 < length (c ∷ d ∷ text)
      by true more = omega arith
      by false more = omega arith
run-inside test (c ∷ d ∷ text) (suc column) stops ends within =
    run-inside test (d ∷ text) column stops ends (omega arith)

-- no run goes back over a newline
none-back : (test : ℕ → Bool) (text : List ℕ) → test 10 ≡ false → ends_in_newline text ≡ true →
    suffix_len test text ≡ 0
none-back test [] stops ends = refl
none-back test (c ∷ []) stops ends = ap (λ b. cond b 1 0) (ap test (eqb-true c 10 ends) ∙ stops)
none-back test (c ∷ d ∷ text) stops ends =
    let none : prefix_len test (reverse (d ∷ text)) ≡ 0 = none-back test (d ∷ text) stops ends in
    ap (prefix_len test) (reverse-append (c ∷ []) (d ∷ text))
    ∙ stops-before test (reverse (d ∷ text)) (c ∷ []) (omega (arith, none, length-reverse (d ∷ text))) ∙ none

-- ---- lines in a row
long : (columns : List Column) → length (characters columns) ≡ length columns
long columns = length-map columns (λ (column : Column). column.character)

none-before : (test : ℕ → Bool) (list : List LineContent) (k : ℕ) → test 10 ≡ false → AreRows list →
    suffix_len test (characters (whole (take k list)).columns) ≡ 0
none-before test list zero stops rows = refl
none-before test [] (suc k) stops rows = refl
none-before test (line ∷ list) (suc k) stops rows =
    let back = (whole (take k list)).columns in
    ap (suffix_len test) (characters-append line.columns back)
    ∙ stops-back test (characters line.columns) (characters back)
    (none-back test (characters line.columns) stops rows.0.ends)
    ∙ none-before test list k stops rows.2

parted : (list : List LineContent) (k : ℕ) (line : LineContent) → slice_get list k ≡ Some line →
    cell_characters (content_of list).cells
    ≡ characters (whole (take k list)).columns
    ++ (characters line.columns ++ characters (whole (drop (suc k) list)).columns)
parted list k line is =
    let front = (whole (take k list)).columns in
    let back = (whole (drop (suc k) list)).columns in
    characters-content list ∙ ap (λ (row : LineContent). characters row.columns) (whole-at list k line is)
    ∙ characters-append front (line.columns ++ back)
    ∙ ap (λ part. characters front ++ part) (characters-append line.columns back)

-- where a run from an offset on ends, and where the run before it begins, by the line that holds the offset
pub run-end : (test : ℕ → Bool) (list : List LineContent) (offset k column found : ℕ) (line : LineContent) →
    test 10 ≡ false → AreRows list → offset ≡ length (whole (take k list)).columns + column →
    column < length line.columns
    → slice_get list k ≡ Some line → found ≡ column + prefix_len test (drop column (characters line.columns)) →
    (offset - column) + found ≡ offset + prefix_len test (drop offset (cell_characters (content_of list).cells))
run-end test list offset k column found line stops rows behind within is found_is =
    let front = characters (whole (take k list)).columns in
    let text = characters line.columns in
    let back = characters (whole (drop (suc k) list)).columns in
    let inner : column < length text = omega (arith, within, long line.columns) in
    let at : offset ≡ length front + column = omega (arith, behind, long (whole (take k list)).columns) in
    let run : prefix_len test (drop offset (cell_characters (content_of list).cells))
    ≡ prefix_len test (drop column text) =
    ap₂ (λ xs n. prefix_len test (drop n xs)) (parted list k line is) at
    ∙ ap (prefix_len test) (drop-append-add front (text ++ back) column
    ∙ drop-append-le column text back (omega arith))
    ∙ stops-before test (drop column text) back
    (run-inside test text column stops (row-at list k line rows is).alone.ends inner) in
    omega (arith, run, found_is, behind)

pub run-start : (test : ℕ → Bool) (list : List LineContent) (offset k column found : ℕ) (line : LineContent) →
    test 10 ≡ false → AreRows list → offset ≡ length (whole (take k list)).columns + column →
    column ≤ length line.columns
    → slice_get list k ≡ Some line → found ≡ column - suffix_len test (take column (characters line.columns)) →
    found ≤ column
    → (offset - column) + found ≡ offset - suffix_len test (take offset (cell_characters (content_of list).cells))
run-start test list offset k column found line stops rows behind within is found_is below =
    let front = characters (whole (take k list)).columns in
    let text = characters line.columns in
    let back = characters (whole (drop (suc k) list)).columns in
    let inner : column ≤ length text = omega (arith, within, long line.columns) in
    let at : offset ≡ length front + column = omega (arith, behind, long (whole (take k list)).columns) in
    let run : suffix_len test (take offset (cell_characters (content_of list).cells))
    ≡ suffix_len test (take column text) =
    ap₂ (λ xs n. suffix_len test (take n xs)) (parted list k line is) at
    ∙ ap (suffix_len test) (take-append-add front (text ++ back) column
    ∙ ap (λ part. front ++ part) (take-append-le column text back inner))
    ∙ stops-back test front (take column text) (none-before test list k stops rows) in
    let most = run_start-le test text column in
    omega (arith, run, found_is, behind, most)
