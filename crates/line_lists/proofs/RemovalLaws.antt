-- Characters that are taken out of a line of a text, with its newline or without, and once more.
use Rattle.line_lists.proofs.Common.{◌≡◌, ℕ, zero, suc, ◌+◌, ◌-◌, ◌<◌, ◌≤◌, List, [], ◌∷◌, ◌++◌, Option, None, Some}
use Rattle.line_lists.proofs.Common.{length, take, drop, refl, sym, ap, ap₂, subst, ◌∙◌, arith, length-append}
use Rattle.line_lists.proofs.Common.{take-append-drop, option_map, slice_range, drop-drop, length-map, length-take-le}
use Rattle.line_lists.proofs.Common.{map-append, take-append-le, drop-append-add, Place, Marks, Slots, map_marks}
use Rattle.line_lists.proofs.Common.{ends_in_newline, lines, drawn, removed, differing, ends_with_rest, lines-append}
use Rattle.line_lists.proofs.Common.{get-map_marks, same_marks, map-removed, differing-associative, differing-empty}
use Rattle.line_lists.proofs.Common.{empty-differing, Column, LineContent, after_removal, characters, joined, later}
use Rattle.line_lists.proofs.Common.{toggled_first, without_columns, get-joined_marks, or_else, AreRows, GoesBefore}
use Rattle.line_lists.proofs.Common.{IsLine, StandBefore, whole, tags_left_of}
use Rattle.line_lists.proofs.EditLaws.{goes-changed, joined-stands, joined_one, rows-stand, some-columns, text-among}
use Rattle.line_lists.proofs.NewlineRows.{none_before}
use Rattle.line_lists.proofs.RowLaws.{Makes, among-first, characters-first, free-parts, rows-before, rows-behind}
use Rattle.line_lists.proofs.RowLaws.{whole-around}
use Rattle.line_lists.proofs.StepLaws.{take-slice}
use Rattle.line_lists.proofs.TagLaws.{behind-append}
use Rattle.line_lists.proofs.WholeLaws.{after_removal-between, joined-associative, length-without, whole-append}
use Rattle.line_lists.proofs.WholeLaws.{without-behind}
use Rattle.std.specs.FinMap as finite
use Rattle.std.specs.FinSet as set

-- ---- two removals at one place are one
first-again : (slots : Slots) (k : ℕ) (xs : List Column)
    → toggled_first (tags_left_of (take k (toggled_first slots xs))) (drop k (toggled_first slots xs))
    ≡ toggled_first (differing slots (tags_left_of (take k xs))) (drop k xs)
first-again slots zero [] = refl
first-again slots (suc k) [] = refl
first-again slots zero (x ∷ xs) =
    ap (λ s. record x { toggled = s } ∷ xs) (empty-differing (differing slots x.toggled)
    ∙ ap (λ s. differing s x.toggled) (sym (differing-empty slots)))
first-again slots (suc k) (x ∷ xs) =
    ap (λ s. toggled_first s (drop k xs)) (differing-associative slots x.toggled (tags_left_of (take k xs)))

-- the slots of two parts
slice-more : (from m k : ℕ) (xs : List Column) → from ≤ m →
    tags_left_of (slice_range xs from (m + k))
    ≡ differing (tags_left_of (slice_range xs from m)) (tags_left_of (take k (drop m xs)))
slice-more from m k xs ordered =
    let rest = drop from xs in
    ap tags_left_of
    (take-slice (m - from) ((m + k) - from) rest (omega arith)
    ∙ ap₂ (λ n part. take (m - from) rest ++ take n part) (let same : ((m + k) - from) - (m - from)
    ≡ k = omega (arith, ordered) in same)
    (drop-drop (m - from) from xs ∙ ap (λ n. drop n xs) (let same : from + (m - from) ≡ m = omega (arith, ordered) in
    same)))
    ∙ behind-append (slice_range xs from m) (take k (drop m xs))

without-twice : (from m k : ℕ) (xs : List Column) → from ≤ m → m ≤ length xs →
    without_columns from (from + k) (without_columns from m xs) ≡ without_columns from (m + k) xs
without-twice from m k xs ordered within =
    let front = take from xs in
    let slots = tags_left_of (slice_range xs from m) in
    let rest = toggled_first slots (drop m xs) in
    let long : length front ≡ from = length-take-le from xs (omega (arith, ordered, within)) in
    ap₂ (λ a b. without_columns a b (front ++ rest)) (let same : from ≡ length front + 0 = omega (arith, long) in
    same) (let same : from + k ≡ length front + k = omega (arith, long) in same)
    ∙ without-behind 0 k front rest
    ∙ ap (λ n. front ++ toggled_first (tags_left_of (take n rest)) (drop k rest)) (let same : k - 0 ≡ k = omega arith in
    same)
    ∙ ap (λ part. front ++ part) (first-again slots k (drop m xs))
    ∙ ap₂ (λ s part. front ++ toggled_first s part) (sym (slice-more from m k xs ordered)) (drop-drop k m xs)

drawn_twice : (from m k : ℕ) (found : Option Place) → from ≤ m →
    option_map (drawn from (from + k)) (option_map (drawn from m) found) ≡ option_map (drawn from (m + k)) found
drawn_twice from m k None ordered = refl
drawn_twice from m k (Some place) ordered =
    ap (λ offset. Some (record place { offset = offset })) (omega (arith, ordered))

pub removal-twice : (from m k : ℕ) (line : LineContent) → from ≤ m → m ≤ length line.columns →
    after_removal from (from + k) (after_removal from m line) ≡ after_removal from (m + k) line
removal-twice from m k line ordered within =
    let columns = without-twice from m k line.columns ordered within in
    let marks = same_marks _ _ (λ q.
    get-map_marks (drawn from (from + k)) (map_marks (drawn from m) line.marks) q
    ∙ ap (option_map (drawn from (from + k))) (get-map_marks (drawn from m) line.marks q)
    ∙ drawn_twice from m k (finite.get line.marks q) ordered
    ∙ sym (get-map_marks (drawn from (m + k)) line.marks q)) in
    λ i. record { columns = columns i; marks = marks i }

-- nothing is taken out
pub none-first : (xs : List Column) → toggled_first set.empty xs ≡ xs
none-first [] = refl
none-first (x ∷ xs) = ap (λ s. record x { toggled = s } ∷ xs) (empty-differing x.toggled)

drawn_none : (at : ℕ) (found : Option Place) → option_map (drawn at at) found ≡ found
drawn_none at None = refl
drawn_none at (Some place) = ap (λ offset. Some (record place { offset = offset })) (omega arith)

pub removal-none : (at : ℕ) (line : LineContent) → after_removal at at line ≡ line
removal-none at line =
    let columns =
    ap (λ n. take at line.columns ++ toggled_first (tags_left_of (take n (drop at line.columns))) (drop at line.columns))
    (let same : at - at ≡ 0 = omega arith in same)
    ∙ ap (λ part. take at line.columns ++ part) (none-first (drop at line.columns))
    ∙ take-append-drop at line.columns in
    let marks = same_marks _ _ (λ q. get-map_marks (drawn at at) line.marks q
    ∙ drawn_none at (finite.get line.marks q)) in
    λ i. record { columns = columns i; marks = marks i }

-- ---- a line stays a line
characters-removed : (from to : ℕ) (xs : List Column) → characters (without_columns from to xs)
    ≡ removed from to (characters xs)
characters-removed from to xs =
    let slots = tags_left_of (slice_range xs from to) in
    map-append (λ (column : Column). column.character) (take from xs) (toggled_first slots (drop to xs))
    ∙ ap (λ rest. characters (take from xs) ++ rest) (characters-first slots (drop to xs))
    ∙ sym (map-append (λ (column : Column). column.character) (take from xs) (drop to xs))
    ∙ map-removed (λ (column : Column). column.character) from to xs

length-characters : (xs : List Column) → length (characters xs) ≡ length xs
length-characters xs = length-map xs (λ (column : Column). column.character)

removal-line : (from to : ℕ) (line : LineContent) → from ≤ to → to < length line.columns → IsLine line →
    IsLine (after_removal from to line)
removal-line from to line ordered within is =
    let text = characters line.columns in
    let short : to < length text = omega (arith, within, length-characters line.columns) in
    let chars = characters-removed from to line.columns in
    let one = none_before text from is.ends is.once (omega (arith, ordered, short)) in
    let two = none_before text to is.ends is.once short in
    let all = ap lines (sym (take-append-drop to text)) ∙ lines-append (take to text) (drop to text) in
    let once : lines (characters (without_columns from to line.columns)) ≡ 1 =
    omega (arith, ap lines chars, lines-append (take from text) (drop to text), one, two, all, is.once) in
    record { ends = ap ends_in_newline chars ∙ ends_with_rest (take from text) to text short ∙ is.ends; once = once }

-- of two lines the newline of the first goes
joined-line : (from : ℕ) (line next : LineContent) → from < length line.columns → IsLine line → IsLine next →
    IsLine (after_removal from (length line.columns) (joined line next))
joined-line from line next within is other =
    let first = characters line.columns in
    let second = characters next.columns in
    let short : from < length first = omega (arith, within, length-characters line.columns) in
    let some : 0 < length second = omega (
      arith,
      some-columns next.columns other.ends,
      length-characters next.columns,
    ) in
    let to = length line.columns in
    let long = length-characters line.columns in
    let chars : characters (without_columns from to (line.columns ++ next.columns)) ≡ take from first ++ second =
    characters-removed from to (line.columns ++ next.columns)
    ∙ ap (removed from to) (map-append (λ (column : Column). column.character) line.columns next.columns)
    ∙ ap₂ (λ front back. front ++ back) (take-append-le from first second (omega (arith, short)))
    (ap (λ n. drop n (first ++ second)) (let same : to ≡ length first + 0 = omega (arith, long) in same)
    ∙ drop-append-add first second 0) in
    let none = none_before first from is.ends is.once short in
    let once : lines (characters (without_columns from to (line.columns ++ next.columns)))
    ≡ 1 = omega (arith, ap lines chars, lines-append (take from first) second, none, other.once) in
    record {
      ends = ap ends_in_newline chars ∙ ends_with_rest (take from first) 0 second some ∙ other.ends;
      once = once;
    }

-- ---- it goes before the lines that it went before
drawn_one : (from to end : ℕ) (found : Option Place) (place : Place) → from ≤ to → to < end →
    ((here : Place) → found ≡ Some here → here.offset < end)
    → option_map (drawn from to) found ≡ Some place → place.offset < from + (end - to)
drawn_one from to end None place ordered within stand is = absurd (let no : None ≡ Some place = is in cc)
drawn_one from to end (Some here) place ordered within stand is =
    let same : drawn from to here ≡ place = cc in
    omega (arith, ap (λ (p : Place). p.offset) same, ordered, within, stand here refl)

drawn-stands : (from to end : ℕ) (marks : Marks) → from ≤ to → to < end → StandBefore end marks →
    StandBefore (from + (end - to)) (map_marks (drawn from to) marks)
drawn-stands from to end marks ordered within stand number place is =
    drawn_one from to end (finite.get marks number) place ordered within (stand number)
    (sym (get-map_marks (drawn from to) marks number) ∙ is)

removal-goes : (from to : ℕ) (line : LineContent) (behind : List LineContent) → from ≤ to → to < length line.columns →
    GoesBefore line behind → GoesBefore (after_removal from to line) behind
removal-goes from to line behind ordered within goes =
    let long = length-without from to line.columns ordered (omega (arith, within)) in
    let end = length line.columns in
    goes-changed line (after_removal from to line) behind (text-among (drawn from to) line.marks)
    (λ stand number place is. omega (
      arith,
      drawn-stands from to end line.marks ordered within stand number place is,
      long,
    ))
    (λ stand number place is.
    omega (
      arith,
      drawn-stands from to (end + 1) line.marks ordered (omega (arith, within)) (λ q here there.
          omega (arith, stand q here there)) number place is,
      long,
      within,
    ))
    goes

joined_part : {P : Type 0} (len : ℕ) (found first : Option Place) (place : Place) →
    ((here : Place) → found ≡ Some here → P) → ((here : Place) → first ≡ Some here → P)
    → or_else (option_map (later len) found) first ≡ Some place → P
joined_part len None first place one two is = two place is
joined_part len (Some here) first place one two is = one here refl

joined-goes : (line next : LineContent) (behind : List LineContent) → GoesBefore line (next ∷ behind) →
    GoesBefore next behind → GoesBefore (joined line next) behind
joined-goes line next [] goes other = λ number place is.
    let below = joined_one (length line.columns) (length next.columns + 1) (finite.get next.marks number)
    (finite.get line.marks number) place (goes.0 number)
    (λ here there. omega (arith, other number here there))
    (sym (get-joined_marks (length line.columns) line.marks next.marks number) ∙ is) in
    omega (arith, below, length-append line.columns next.columns)
joined-goes line next (last ∷ others) goes other = (
  joined-stands line next goes.0 other.0,
  (λ number place is.
      joined_part (length line.columns) (finite.get next.marks number) (finite.get line.marks number) place
      (other.1 number)
      (λ here there. (free-parts next (whole (last ∷ others)) number (goes.1 number here there)).0)
      (sym (get-joined_marks (length line.columns) line.marks next.marks number) ∙ is)),
)

-- ---- lines in a row
removal-rows : (from to : ℕ) (before behind rest : List LineContent) (line : LineContent) → 0 < length rest →
    whole rest ≡ whole (line ∷ behind) → from ≤ to → to < length line.columns
    → AreRows (before ++ rest) → IsLine (after_removal from to line) → GoesBefore line behind → AreRows behind →
    AreRows (before ++ after_removal from to line ∷ behind)
removal-rows from to before behind rest line some same ordered within rows is goes others =
    let new = after_removal from to line in
    let among = among-first line new behind (text-among (drawn from to) line.marks) in
    rows-before before rest (new ∷ behind) some (omega arith) rows (
      is,
      removal-goes from to line behind ordered within goes,
      others,
    )
    (λ number free. among number (ap (λ (all : LineContent). finite.get all.marks number) (sym same) ∙ free))

removal-whole : (from to : ℕ) (before behind : List LineContent) (line : LineContent) →
    StandBefore (length (whole before).columns) (whole before).marks → from ≤ to → to < length line.columns
    → whole (before ++ after_removal from to line ∷ behind)
    ≡ after_removal (length (whole before).columns + from) (length (whole before).columns + to)
    (whole (before ++ line ∷ behind))
removal-whole from to before behind line stand ordered within =
    let one = length (whole before).columns in
    whole-around before behind (after_removal from to line)
    ∙ sym (ap (after_removal (one + from) (one + to)) (whole-around before behind line)
    ∙ after_removal-between from to (whole before) line (whole behind) (λ number place is.
    let stands = stand number place is in omega (arith, stands)) ordered within)

-- what is made of lines of a text
pub removed-makes : (before behind old : List LineContent) (line new : LineContent) (offset column count : ℕ) →
    before ++ line ∷ behind ≡ old → offset ≡ length (whole before).columns + column
    → column + count < length line.columns → AreRows old → new ≡ after_removal column (column + count) line →
    Makes (after_removal offset (offset + count)) old (before ++ new ∷ behind)
removed-makes before behind old line new offset column count old_is place inside rows new_is =
    let to = column + count in
    let here = subst AreRows (sym old_is) rows in
    let rest = rows-behind before (line ∷ behind) here in
    let one = length (whole before).columns in
    let end : one + to ≡ offset + count = omega (arith, place) in
    record {
      rows = λ _. subst (λ x. AreRows (before ++ x ∷ behind)) (sym new_is)
          (removal-rows column to before behind (line ∷ behind) line (omega arith) refl (omega arith) inside here
          (removal-line column to line (omega arith) inside rest.0) rest.1 rest.2);
      whole =
          ap (λ x. whole (before ++ x ∷ behind)) new_is
          ∙ removal-whole column to before behind line (rows-stand before (line ∷ behind) (omega arith) here)
          (omega arith) inside
          ∙ ap (λ a. after_removal a (one + to) (whole (before ++ line ∷ behind))) (sym place)
          ∙ ap₂ (λ b xs. after_removal offset b (whole xs)) end old_is;
    }

-- the rest of a line goes, and the next one joins it
pub joined-makes : (before behind old : List LineContent) (line next new : LineContent) (offset column count : ℕ) →
    before ++ line ∷ next ∷ behind ≡ old → offset ≡ length (whole before).columns + column
    → column < length line.columns → column + count ≡ length line.columns → AreRows old →
    new ≡ after_removal column (column + count) (joined line next)
    → Makes (after_removal offset (offset + count)) old (before ++ new ∷ behind)
joined-makes before behind old line next new offset column count old_is place inside all rows new_is =
    let to = column + count in
    let here = subst AreRows (sym old_is) rows in
    let both = joined line next in
    let pair = line ∷ next ∷ behind in
    let rest = rows-behind before pair here in
    let same : whole pair ≡ whole (both ∷ behind) = joined-associative line next (whole behind) in
    let within : to < length both.columns = omega (
      arith,
      all,
      length-append line.columns next.columns,
      some-columns next.columns rest.2.0.ends,
    ) in
    let is = subst (λ n. IsLine (after_removal column n both)) (sym all)
    (joined-line column line next inside rest.0 rest.2.0) in
    let one = length (whole before).columns in
    let end : one + to ≡ offset + count = omega (arith, place) in
    let row : whole (before ++ both ∷ behind) ≡ whole old = whole-append before (both ∷ behind)
    ∙ ap (joined (whole before)) (sym same) ∙ sym (whole-append before pair) ∙ ap whole old_is in
    record {
      rows = λ _. subst (λ x. AreRows (before ++ x ∷ behind)) (sym new_is)
          (removal-rows column to before behind pair both (omega arith) same (omega arith) within here is
          (joined-goes line next behind rest.1 rest.2.1) rest.2.2);
      whole =
          ap (λ x. whole (before ++ x ∷ behind)) new_is
          ∙ removal-whole column to before behind both (rows-stand before pair (omega arith) here) (omega arith) within
          ∙ ap (λ a. after_removal a (one + to) (whole (before ++ both ∷ behind))) (sym place)
          ∙ ap₂ (λ b text. after_removal offset b text) end row;
    }
