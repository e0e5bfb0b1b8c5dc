-- What stands at an offset of lines in a row.
use Rattle.line_lists.proofs.Common.{◌≡◌, ℕ, zero, suc, ◌+◌, ◌<◌, ◌≤◌, List, [], ◌∷◌, ◌++◌, Option, None, Some, length}
use Rattle.line_lists.proofs.Common.{take, drop, refl, sym, ap, ap₂, subst, ◌∙◌, arith, add-one, length-append, IfSome}
use Rattle.line_lists.proofs.Common.{option_map, slice_get, take-append-add, length-map, take-append-le, take-map}
use Rattle.line_lists.proofs.Common.{get_or_from_slice_get, slice_get-map, Cell, Slots, flags, slot_sets, slots_left_of}
use Rattle.line_lists.proofs.Common.{differing, empty-differing, parity, tags_from, tags_by_parity, Column, LineContent}
use Rattle.line_lists.proofs.Common.{characters, tags_before, toggles, Holds, count_of, cells_from, cells_of_columns}
use Rattle.line_lists.proofs.Common.{content_of, whole, tags_left_of}
use Rattle.text_model.specs.Content.{characters as cell_characters}
use Rattle.line_lists.proofs.CountRows.{count-characters, count-parity}
use Rattle.line_lists.proofs.TagLaws.{behind-append}
use Rattle.line_lists.proofs.WholeLaws.{between, whole-append}
use Rattle.std.specs.FinSet as set

-- ---- a list at an index
first_same : {A : Type 0} (x y : A) → Some x ≡ Some y → x ≡ y
first_same x y same = cc

pub split_at : {A : Type 0} (xs : List A) (k : ℕ) (x : A) → slice_get xs k ≡ Some x →
    xs ≡ take k xs ++ (x ∷ drop (suc k) xs)
split_at [] k x is = absurd (let no : None ≡ Some x = is in cc)
split_at (y ∷ ys) zero x is = ap (λ z. z ∷ ys) (first_same y x is)
split_at (y ∷ ys) (suc k) x is = ap (λ rest. y ∷ rest) (split_at ys k x is)

slice_get-behind : {A : Type 0} (xs ys : List A) (n : ℕ) → slice_get (xs ++ ys) (length xs + n) ≡ slice_get ys n
slice_get-behind [] ys n = ap (slice_get ys) (let same : 0 + n ≡ n = omega arith in same)
slice_get-behind (x ∷ xs) ys n = ap (slice_get (x ∷ xs ++ ys)) (let same : suc (length xs) + n
    ≡ suc (length xs + n) = omega arith in same) ∙ slice_get-behind xs ys n

slice_get-front : {A : Type 0} (xs ys : List A) (n : ℕ) → n < length xs → slice_get (xs ++ ys) n ≡ slice_get xs n
slice_get-front [] ys n within = absurd (omega arith)
slice_get-front (x ∷ xs) ys zero within = refl
slice_get-front (x ∷ xs) ys (suc n) within = slice_get-front xs ys n (omega arith)

pub slice_get-middle : {A : Type 0} (front middle back : List A) (n : ℕ) → n < length middle →
    slice_get (front ++ (middle ++ back)) (length front + n) ≡ slice_get middle n
slice_get-middle front middle back n within =
    slice_get-behind front (middle ++ back) n ∙ slice_get-front middle back n within

-- ---- cells of columns
pub characters-cells : (on : Slots) (columns : List Column) →
    cell_characters (cells_from on columns) ≡ characters columns
characters-cells on [] = refl
characters-cells on (column ∷ columns) =
    ap (λ rest. column.character ∷ rest) (characters-cells (differing on column.toggled) columns)

pub length-cells : (on : Slots) (columns : List Column) → length (cells_from on columns) ≡ length columns
length-cells on [] = refl
length-cells on (column ∷ columns) = ap suc (length-cells (differing on column.toggled) columns)

tags-cells : (on : Slots) (columns : List Column) → slot_sets (cells_from on columns) ≡ tags_from on (toggles columns)
tags-cells on [] = refl
tags-cells on (column ∷ columns) =
    ap (λ rest. differing on column.toggled ∷ rest) (tags-cells (differing on column.toggled) columns)

-- the slots of a cell are those that are toggled an odd number of times before it
pub tags-column : (columns : List Column) (at : ℕ) → at < length columns →
    slice_get (slot_sets (cells_of_columns columns)) at ≡ Some (tags_before at columns)
tags-column columns at within =
    let long : length (toggles columns) ≡ length columns = length-map columns (λ (column : Column). column.toggled) in
    ap (λ tags. slice_get tags at) (tags-cells set.empty columns)
    ∙ tags_by_parity (toggles columns) set.empty at (omega (arith, long, within))
    ∙ ap (λ s. Some s) (empty-differing (parity (take (at + 1) (toggles columns)))
    ∙ ap parity (take-map (λ (column : Column). column.toggled) (at + 1) columns))

pub tags-middle : (front middle back : List Column) (at : ℕ) → at < length middle →
    tags_before (length front + at) (front ++ (middle ++ back)) ≡ differing (tags_left_of front) (tags_before at middle)
tags-middle front middle back at within =
    let same : (length front + at) + 1 ≡ length front + (at + 1) = omega arith in
    ap (λ n. tags_left_of (take n (front ++ (middle ++ back)))) same
    ∙ ap tags_left_of (take-append-add front (middle ++ back) (at + 1)
    ∙ ap (λ part. front ++ part) (take-append-le (at + 1) middle back (omega arith)))
    ∙ behind-append front (take (at + 1) middle)

-- and those of the last of the cells before a place are those toggled an odd number of times before the place
pub tags-behind : (columns : List Column) (at : ℕ) → at ≤ length columns →
    slots_left_of at (cells_of_columns columns) ≡ tags_left_of (take at columns)
tags-behind columns zero within = refl
tags-behind columns (suc n) within =
    get_or_from_slice_get (slot_sets (cells_of_columns columns)) n (tags_before n columns) set.empty
    (tags-column columns n (omega (arith, within)))
    ∙ ap (λ k. tags_left_of (take k columns)) (add-one n)

-- ---- lines in a row
pub whole-at : (lines : List LineContent) (k : ℕ) (line : LineContent) → slice_get lines k ≡ Some line
    → whole lines ≡ between (whole (take k lines)) line (whole (drop (suc k) lines))
whole-at lines k line is = ap whole (split_at lines k line is) ∙ whole-append (take k lines) (line ∷ drop (suc k) lines)

pub inside : (lines : List LineContent) (offset k column : ℕ) (line : LineContent) → Holds lines offset k column →
    slice_get lines k ≡ Some line → column < length line.columns
inside lines offset k column line holds is =
    subst (λ found. IfSome found (λ (here : LineContent). column < length here.columns)) is holds.inside

pub length-content : (lines : List LineContent) → length (content_of lines).cells ≡ length (whole lines).columns
length-content lines = length-cells set.empty (whole lines).columns

-- the lines before one are not longer than all
pub length-front : (lines : List LineContent) (k : ℕ) → length (whole (take k lines)).columns
    ≤ length (whole lines).columns
length-front lines zero = omega arith
length-front [] (suc k) = omega arith
length-front (line ∷ lines) (suc k) =
    omega (
      arith,
      length-append line.columns (whole (take k lines)).columns,
      length-append line.columns (whole lines).columns,
      length-front lines k,
    )

pub length-counted : (lines : List LineContent) → length (content_of lines).cells ≡ (count_of lines).characters
length-counted lines = length-content lines ∙ sym (count-characters lines)

pub characters-content : (lines : List LineContent) → cell_characters (content_of lines).cells
    ≡ characters (whole lines).columns
characters-content lines = characters-cells set.empty (whole lines).columns

pub column-at : (lines : List LineContent) (offset k column : ℕ) (line : LineContent) → Holds lines offset k column →
    slice_get lines k ≡ Some line → slice_get (whole lines).columns offset ≡ slice_get line.columns column
column-at lines offset k column line holds is =
    ap₂ (λ (row : LineContent) at. slice_get row.columns at) (whole-at lines k line is) holds.behind
    ∙ slice_get-middle (whole (take k lines)).columns line.columns (whole (drop (suc k) lines)).columns column
    (inside lines offset k column line holds is)

pub character-at : (lines : List LineContent) (offset k column character : ℕ) (line : LineContent) →
    Holds lines offset k column → slice_get lines k ≡ Some line
    → slice_get (characters line.columns) column ≡ Some character →
    slice_get (cell_characters (content_of lines).cells) offset ≡ Some character
character-at lines offset k column character line holds is found =
    let of = λ (column : Column). column.character in
    ap (λ text. slice_get text offset) (characters-content lines)
    ∙ slice_get-map of (whole lines).columns offset
    ∙ ap (option_map of) (column-at lines offset k column line holds is)
    ∙ sym (slice_get-map of line.columns column) ∙ found

pub tags-at : (lines : List LineContent) (offset k column : ℕ) (line : LineContent) → Holds lines offset k column →
    slice_get lines k ≡ Some line
    → slice_get (slot_sets (content_of lines).cells) offset
    ≡ Some (differing (count_of (take k lines)).parity (tags_before column line.columns))
tags-at lines offset k column line holds is =
    let within = inside lines offset k column line holds is in
    let front = (whole (take k lines)).columns in
    let back = (whole (drop (suc k) lines)).columns in
    let row = ap (λ (row : LineContent). row.columns) (whole-at lines k line is) in
    let long : length front + column < length (front ++ (line.columns ++ back)) = omega (
      arith,
      length-append front (line.columns ++ back),
      length-append line.columns back,
      within,
    ) in
    ap₂ (λ columns at. slice_get (slot_sets (cells_of_columns columns)) at) row holds.behind
    ∙ tags-column (front ++ (line.columns ++ back)) (length front + column) long
    ∙ ap (λ s. Some s) (tags-middle front line.columns back column within
    ∙ ap (λ s. differing s (tags_before column line.columns)) (sym (count-parity (take k lines))))

-- the slots of the last of the cells before an offset
pub tags-before : (lines : List LineContent) (offset k column : ℕ) (line : LineContent) →
    Holds lines offset k column → slice_get lines k ≡ Some line
    → slots_left_of offset (content_of lines).cells
    ≡ differing (count_of (take k lines)).parity (tags_left_of (take column line.columns))
tags-before lines offset k column line holds is =
    let within = inside lines offset k column line holds is in
    let front = (whole (take k lines)).columns in
    let back = (whole (drop (suc k) lines)).columns in
    let row = ap (λ (row : LineContent). row.columns) (whole-at lines k line is) in
    let long : length front + column ≤ length (front ++ (line.columns ++ back)) = omega (
      arith,
      length-append front (line.columns ++ back),
      length-append line.columns back,
      within,
    ) in
    ap₂ (λ columns at. slots_left_of at (cells_of_columns columns)) row holds.behind
    ∙ tags-behind (front ++ (line.columns ++ back)) (length front + column) long
    ∙ ap tags_left_of (take-append-add front (line.columns ++ back) column
    ∙ ap (λ part. front ++ part) (take-append-le column line.columns back (omega (arith, within))))
    ∙ behind-append front (take column line.columns)
    ∙ ap (λ s. differing s (tags_left_of (take column line.columns))) (sym (count-parity (take k lines)))

-- whether a cell has a slot
flag_of : (slot : ℕ) (tags : Slots) (found : Option Cell) → option_map (λ (cell : Cell). cell.tags) found ≡ Some tags →
    option_map (λ (cell : Cell). set.contains cell.tags slot) found ≡ Some (set.contains tags slot)
flag_of slot tags None is = absurd (let no : None ≡ Some tags = is in cc)
flag_of slot tags (Some cell) is = ap (λ s. Some (set.contains s slot)) (first_same cell.tags tags is)

pub flag-at : (slot : ℕ) (cells : List Cell) (at : ℕ) (tags : Slots) → slice_get (slot_sets cells) at ≡ Some tags →
    slice_get (flags slot cells) at ≡ Some (set.contains tags slot)
flag-at slot cells at tags is =
    slice_get-map (λ (cell : Cell). set.contains cell.tags slot) cells at
    ∙ flag_of slot tags (slice_get cells at) (sym (slice_get-map (λ (cell : Cell). cell.tags) cells at) ∙ is)
