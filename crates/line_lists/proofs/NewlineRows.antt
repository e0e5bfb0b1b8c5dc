-- The newlines of lines in a row: as many as the lines, each at the end of its own.
use Rattle.line_lists.proofs.Common.{◌≡◌, ℕ, zero, suc, ◌+◌, ◌<◌, ◌≤◌, Bool, true, false, cond, List, [], ◌∷◌, ◌++◌}
use Rattle.line_lists.proofs.Common.{get_or, None, Some, length, take, drop, refl, sym, ap, ap₂, subst, ◌∙◌, arith}
use Rattle.line_lists.proofs.Common.{length-append, slice_get, if◌then◌else◌, length-map, map-append, take-append-le}
use Rattle.line_lists.proofs.Common.{take_all, slice_get-get_or, take-append-add, ends_in_newline, is_newline, line_of}
use Rattle.line_lists.proofs.Common.{lines, lines-append, lines-cons, Column, LineContent, characters, plain_line}
use Rattle.line_lists.proofs.Common.{AreRows, GoesBefore, Holds, IsLine, content_of, whole}
use Rattle.text_model.specs.Content.{characters as cell_characters}
use Rattle.text_model.specs.Lines.{line_start}
use Rattle.line_lists.proofs.PlaceRows.{characters-content, inside, whole-at}

-- ---- one line
some_lines : (text : List ℕ) → ends_in_newline text ≡ true → 0 < lines text
some_lines [] is = absurd (let no : false ≡ true = is in cc)
some_lines (c ∷ []) is = let one : lines (c ∷ []) ≡ 1 = lines-cons c [] ∙ ap (λ b. cond b 1 0 + 0) is in
    omega (arith, one)
some_lines (c ∷ d ∷ text) is = omega (arith, lines-cons c (d ∷ text), some_lines (d ∷ text) is)

record GoesOn (c : ℕ) (text : List ℕ) : Type 0 where
  plain : is_newline c ≡ false
  once : lines text ≡ 1

goes_on : (c : ℕ) (text : List ℕ) → 0 < lines text → lines (c ∷ text) ≡ 1 → GoesOn c text
goes_on c text some once = which (is_newline c) refl where
  which : (b : Bool) → is_newline c ≡ b → GoesOn c text
  which true is = let more : lines (c ∷ text) ≡ 1 + lines text = lines-cons c text
      ∙ ap (λ b. cond b 1 0 + lines text) is in absurd (omega (arith, more, some, once))
  which false is = let more : lines (c ∷ text) ≡ 0 + lines text = lines-cons c text
      ∙ ap (λ b. cond b 1 0 + lines text) is in record { plain = is; once = omega (arith, more, once) }

-- behind a line the next one begins
start_over : (text rest : List ℕ) (k : ℕ) → ends_in_newline text ≡ true → lines text ≡ 1 →
    line_start (suc k) (text ++ rest) ≡ length text + line_start k rest
start_over [] rest k ends once = absurd (let no : false ≡ true = ends in cc)
start_over (c ∷ []) rest k ends once = ap (λ b. 1 + line_start (if b then k else suc k) rest) ends
start_over (c ∷ d ∷ text) rest k ends once =
    let on = goes_on c (d ∷ text) (some_lines (d ∷ text) ends) once in
    let step : line_start (suc k) ((c ∷ d ∷ text) ++ rest) ≡ 1 + line_start (suc k) ((d ∷ text) ++ rest) =
    ap (λ b. 1 + line_start (if b then k else suc k) ((d ∷ text) ++ rest)) on.plain in
    omega (arith, step, start_over (d ∷ text) rest k ends on.once)

pub none_before : (text : List ℕ) (column : ℕ) → ends_in_newline text ≡ true → lines text ≡ 1 → column < length text →
    lines (take column text) ≡ 0
none_before [] column ends once within = absurd (omega arith)
none_before (c ∷ text) zero ends once within = refl
none_before (c ∷ []) (suc column) ends once within = absurd (omega arith)
none_before (c ∷ d ∷ text) (suc column) ends once within =
    let on = goes_on c (d ∷ text) (some_lines (d ∷ text) ends) once in
    lines-cons c (take column (d ∷ text))
    ∙ ap₂ (λ b n. cond b 1 0 + n) on.plain (none_before (d ∷ text) column ends on.once (omega arith))

-- ---- lines in a row
pub record Row (line : LineContent) (others : List LineContent) : Type 0 where
  pub alone : IsLine line
  pub before : GoesBefore line others

pub row-at : (lines : List LineContent) (k : ℕ) (line : LineContent) → AreRows lines → slice_get lines k ≡ Some line →
    Row line (drop (suc k) lines)
row-at [] k line rows is = absurd (let no : None ≡ Some line = is in cc)
row-at (first ∷ lines) zero line rows is =
    let same : first ≡ line = cc in
    subst (λ x. Row x lines) same (record { alone = rows.0; before = rows.1 })
row-at (first ∷ lines) (suc k) line rows is = row-at lines k line rows.2 is

pub characters-append : (xs ys : List Column) → characters (xs ++ ys) ≡ characters xs ++ characters ys
characters-append xs ys = map-append (λ (column : Column). column.character) xs ys

newlines-take : (list : List LineContent) (k : ℕ) → AreRows list → k ≤ length list →
    lines (characters (whole (take k list)).columns) ≡ k
newlines-take list zero rows within = refl
newlines-take [] (suc k) rows within = absurd (omega arith)
newlines-take (line ∷ list) (suc k) rows within =
    ap lines (characters-append line.columns (whole (take k list)).columns)
    ∙ lines-append (characters line.columns) (characters (whole (take k list)).columns)
    ∙ ap₂ (λ a b. a + b) rows.0.once (newlines-take list k rows.2 (omega arith))
    ∙ (let same : 1 + k ≡ suc k = omega arith in same)

pub newlines-content : (list : List LineContent) → AreRows list →
    length list ≡ lines (cell_characters (content_of list).cells)
newlines-content list rows =
    sym (ap lines (characters-content list
    ∙ ap (λ part. characters (whole part).columns) (sym (take_all (length list) list (omega arith))))
    ∙ newlines-take list (length list) rows (omega arith))

start-whole : (list : List LineContent) (k : ℕ) → AreRows list → k ≤ length list →
    line_start k (characters (whole list).columns) ≡ length (whole (take k list)).columns
start-whole list zero rows within = refl
start-whole [] (suc k) rows within = absurd (omega arith)
start-whole (line ∷ list) (suc k) rows within =
    ap (line_start (suc k)) (characters-append line.columns (whole list).columns)
    ∙ start_over (characters line.columns) (characters (whole list).columns) k rows.0.ends rows.0.once
    ∙ ap₂ (λ a b. a + b) (length-map line.columns (λ (column : Column). column.character))
    (start-whole list k rows.2 (omega arith))
    ∙ sym (length-append line.columns (whole (take k list)).columns)

pub start-content : (list : List LineContent) (k : ℕ) → AreRows list → k ≤ length list →
    line_start k (cell_characters (content_of list).cells) ≡ length (whole (take k list)).columns
start-content list k rows within = ap (line_start k) (characters-content list) ∙ start-whole list k rows within

-- the lines before an offset that a line holds
line_of-held : (list : List LineContent) (offset k column : ℕ) (line : LineContent) → AreRows list →
    Holds list offset k column → slice_get list k ≡ Some line
    → line_of (cell_characters (content_of list).cells) offset ≡ k
line_of-held list offset k column line rows holds is =
    let front = (whole (take k list)).columns in
    let back = (whole (drop (suc k) list)).columns in
    let here = (row-at list k line rows is).alone in
    let within = inside list offset k column line holds is in
    let long : length (characters front) ≡ length front = length-map front (λ (c : Column). c.character) in
    let wide : length (characters line.columns)
    ≡ length line.columns = length-map line.columns (λ (c : Column). c.character) in
    let at : offset ≡ length (characters front) + column = omega (arith, holds.behind, long) in
    let text : cell_characters (content_of list).cells ≡ characters front
    ++ (characters line.columns ++ characters back) =
    characters-content list ∙ ap (λ (row : LineContent). characters row.columns) (whole-at list k line is)
    ∙ characters-append front (line.columns ++ back)
    ∙ ap (λ part. characters front ++ part) (characters-append line.columns back) in
    ap₂ (λ xs n. lines (take n xs)) text at
    ∙ ap lines (take-append-add (characters front) (characters line.columns ++ characters back) column
    ∙ ap (λ part. characters front ++ part) (take-append-le column (characters line.columns) (characters back)
    (omega (arith, wide, within))))
    ∙ lines-append (characters front) (take column (characters line.columns))
    ∙ ap₂ (λ a b. a + b) (newlines-take list k rows (omega (arith, holds.within)))
    (none_before (characters line.columns) column here.ends here.once (omega (arith, wide, within)))
    ∙ (let same : k + 0 ≡ k = omega arith in same)

pub line_of-located : (list : List LineContent) (offset k column : ℕ) → AreRows list → Holds list offset k column →
    line_of (cell_characters (content_of list).cells) offset ≡ k
line_of-located list offset k column rows holds =
    line_of-held list offset k column (get_or list k (plain_line [])) rows holds
    (slice_get-get_or list k (plain_line []) holds.within)

pub line_of-end : (list : List LineContent) (offset : ℕ) → AreRows list → offset ≡ length (content_of list).cells →
    line_of (cell_characters (content_of list).cells) offset ≡ length list
line_of-end list offset rows is =
    let text = cell_characters (content_of list).cells in
    ap (λ n. lines (take n text)) (is ∙ sym (length-map (content_of list).cells _))
    ∙ ap lines (take_all (length text) text (omega arith)) ∙ sym (newlines-content list rows)
