-- What a text that goes into a line, and a mark that is put in it, make of the lines of a text.
use Rattle.line_lists.proofs.Common.{◌≡◌, ◌≢◌, ℕ, ◌+◌, ◌-◌, min, ◌<◌, ◌≤◌, Bool, true, false, List, [], ◌∷◌, ◌++◌}
use Rattle.line_lists.proofs.Common.{Option, None, Some, cond, length, take, refl, sym, ap, ap₂, subst, ◌∙◌, arith}
use Rattle.line_lists.proofs.Common.{length-append, nat_cmp_total, eq_by_cmp, nat_cmp, option_map, length-map, Place}
use Rattle.line_lists.proofs.Common.{Marks, map_marks, ends_in_newline, lines, inserted, moved, ends_with_rest}
use Rattle.line_lists.proofs.Common.{lines-inserted, get-map_marks, length-inserted, map-inserted, moved_le, Column}
use Rattle.line_lists.proofs.Common.{LineContent, after_text, characters, joined, later, plain_columns}
use Rattle.line_lists.proofs.Common.{get-joined_marks, or_else, tied_same, characters-plain, StandsBy, with_mark}
use Rattle.line_lists.proofs.Common.{without_mark, AreApart, AreRows, GoesBefore, IsLine, StandBefore, StandWithin}
use Rattle.line_lists.proofs.Common.{whole, IfSome}
use Rattle.line_lists.proofs.MarkRows.{get-row}
use Rattle.line_lists.proofs.RowLaws.{AreAmong, Makes, StayFree, among-first, free-joined, free-parts, rows-among}
use Rattle.line_lists.proofs.RowLaws.{rows-before, rows-behind, whole-around}
use Rattle.line_lists.proofs.WholeLaws.{after_text-between, whole-append, with_mark-between, without_mark-between}
use Rattle.std.specs.FinMap as finite

-- ---- the marks of lines before others stand before their end
pub joined_one : (len end : ℕ) (found first : Option Place) (place : Place) →
    ((here : Place) → first ≡ Some here → here.offset < len)
    → ((here : Place) → found ≡ Some here → here.offset < end) →
    or_else (option_map (later len) found) first ≡ Some place → place.offset < len + end
joined_one len end None first place one two is = omega (arith, one place is)
joined_one len end (Some here) first place one two is =
    let same : here.offset + len ≡ place.offset = ap (λ (p : Place). p.offset) (let tie : later len here ≡ place = cc in
    tie) in omega (arith, same, two here refl)

pub joined-stands : (a b : LineContent) → StandBefore (length a.columns) a.marks →
    StandBefore (length b.columns) b.marks → StandBefore (length (joined a b).columns) (joined a b).marks
joined-stands a b one two number place is =
    let below = joined_one (length a.columns) (length b.columns) (finite.get b.marks number) (finite.get a.marks number)
    place (one number) (two number)
    (sym (get-joined_marks (length a.columns) a.marks b.marks number) ∙ is) in
    subst (λ n. place.offset < n) (sym (length-append a.columns b.columns)) below

first-stands : (line : LineContent) (before rest : List LineContent) → 0 < length rest →
    GoesBefore line (before ++ rest) → StandBefore (length line.columns) line.marks
first-stands line [] [] some goes = absurd (omega (arith, some))
first-stands line [] (next ∷ rest) some goes = goes.0
first-stands line (next ∷ before) rest some goes = goes.0

pub rows-stand : (before rest : List LineContent) → 0 < length rest → AreRows (before ++ rest) →
    StandBefore (length (whole before).columns) (whole before).marks
rows-stand [] rest some rows =
    λ number place is. absurd (let no : None ≡ Some place = sym (finite.get-empty nat_cmp number) ∙ is in cc)
rows-stand (x ∷ before) rest some rows =
    joined-stands x (whole before) (first-stands x before rest some rows.1) (rows-stand before rest some rows.2)

-- ---- a line that changes, where no mark is new
apart-first : (a b c : Marks) → AreAmong b a → AreApart a c → AreApart b c
apart-first a b c among apart number place is =
    elim (finite.get a number) as (λ found. finite.get a number ≡ found → finite.get c number ≡ None) [
      | None ↦ λ free. absurd (let no : None ≡ Some place = sym (among number free) ∙ is in cc)
      | Some here ↦ λ there. apart number here there
    ] refl

pub goes-changed : (line new : LineContent) (behind : List LineContent) → AreAmong new.marks line.marks
    → (StandBefore (length line.columns) line.marks → StandBefore (length new.columns) new.marks)
    → (StandWithin (length line.columns) line.marks → StandWithin (length new.columns) new.marks) →
    GoesBefore line behind → GoesBefore new behind
goes-changed line new [] among before within goes = within goes
goes-changed line new (next ∷ others) among before within goes =
    (before goes.0, apart-first line.marks new.marks (whole (next ∷ others)).marks among goes.1)

-- ---- a text goes in
characters-text : (at : ℕ) (text : List ℕ) (xs : List Column) →
    characters (inserted at (plain_columns text) xs) ≡ inserted at text (characters xs)
characters-text at text xs =
    map-inserted (λ (column : Column). column.character) at (plain_columns text) xs
    ∙ ap (λ new. inserted at new (characters xs)) (characters-plain text)

pub length-text : (at : ℕ) (text : List ℕ) (xs : List Column) → at ≤ length xs →
    length (inserted at (plain_columns text) xs) ≡ length xs + length text
length-text at text xs within =
    length-inserted at (plain_columns text) xs within ∙ ap (λ n. length xs + n) (length-map text _)

text-line : (at : ℕ) (text : List ℕ) (line : LineContent) → at < length line.columns → lines text ≡ 0 → IsLine line →
    IsLine (after_text at text line)
text-line at text line within free is =
    let short : at < length (characters line.columns) = omega (
      arith,
      within,
      length-map line.columns (λ (column : Column). column.character),
    ) in
    let chars = characters-text at text line.columns in
    let ends = ap ends_in_newline chars
    ∙ ends_with_rest (take at (characters line.columns) ++ text) at (characters line.columns) short ∙ is.ends in
    let once : lines (characters (inserted at (plain_columns text) line.columns))
    ≡ 1 = omega (arith, ap lines chars, lines-inserted at text (characters line.columns), free, is.once) in
    record { ends = ends; once = once }

pub text-among : (f : Place → Place) (marks : Marks) → AreAmong (map_marks f marks) marks
text-among f marks number free = get-map_marks f marks number ∙ ap (option_map f) free

moved_one : (at count end : ℕ) (found : Option Place) (place : Place) →
    ((here : Place) → found ≡ Some here → here.offset < end)
    → option_map (moved at count) found ≡ Some place → place.offset < end + count
moved_one at count end None place stand is = absurd (let no : None ≡ Some place = is in cc)
moved_one at count end (Some here) place stand is =
    let same : moved at count here ≡ place = cc in
    let below = moved_le at count here.offset here (omega arith) in
    omega (arith, ap (λ (p : Place). p.offset) same, below, stand here refl)

moved-stands : (at count end : ℕ) (marks : Marks) → StandBefore end marks →
    StandBefore (end + count) (map_marks (moved at count) marks)
moved-stands at count end marks stand number place is =
    moved_one at count end (finite.get marks number) place (stand number)
    (sym (get-map_marks (moved at count) marks number) ∙ is)

pub text-goes : (at : ℕ) (text : List ℕ) (line : LineContent) (behind : List LineContent) → at < length line.columns →
    GoesBefore line behind → GoesBefore (after_text at text line) behind
text-goes at text line behind within goes =
    let long = length-text at text line.columns (omega arith) in
    let moves = moved-stands at (length text) in
    goes-changed line (after_text at text line) behind (text-among (moved at (length text)) line.marks)
    (λ stand number place is. omega (arith, moves (length line.columns) line.marks stand number place is, long))
    (λ stand number place is. omega (
      arith,
      moves (length line.columns + 1) line.marks (λ q here there. omega (arith, stand q here there)) number place is,
      long,
    ))
    goes

text-rows : (at : ℕ) (text : List ℕ) (before behind : List LineContent) (line : LineContent) →
    at < length line.columns → lines text ≡ 0 → AreRows (before ++ line ∷ behind)
    → AreRows (before ++ after_text at text line ∷ behind)
text-rows at text before behind line within free rows =
    let rest = rows-behind before (line ∷ behind) rows in
    let new = after_text at text line in
    rows-before before (line ∷ behind) (new ∷ behind) (omega arith) (omega arith) rows
    (text-line at text line within free rest.0, text-goes at text line behind within rest.1, rest.2)
    (among-first line new behind (text-among (moved at (length text)) line.marks))

pub text-whole : (at : ℕ) (text : List ℕ) (before behind : List LineContent) (line : LineContent) →
    at < length line.columns → AreRows (before ++ line ∷ behind)
    → whole (before ++ after_text at text line ∷ behind)
    ≡ after_text (length (whole before).columns + at) text (whole (before ++ line ∷ behind))
text-whole at text before behind line within rows =
    whole-around before behind (after_text at text line)
    ∙ sym (ap (after_text (length (whole before).columns + at) text) (whole-around before behind line)
    ∙ after_text-between at text (whole before) line (whole behind)
    (rows-stand before (line ∷ behind) (omega arith) rows) within)

-- what is made of lines of a text
pub inserted-makes : (before behind old : List LineContent) (line new : LineContent) (offset column : ℕ) (text : List ℕ)
    → before ++ line ∷ behind ≡ old → offset ≡ length (whole before).columns + column
    → column < length line.columns → lines text ≡ 0 → AreRows old → new ≡ after_text column text line →
    Makes (after_text offset text) old (before ++ new ∷ behind)
inserted-makes before behind old line new offset column text old_is place inside free rows new_is =
    let here = subst AreRows (sym old_is) rows in
    record {
      rows = λ _. subst (λ x. AreRows (before ++ x ∷ behind)) (sym new_is)
          (text-rows column text before behind line inside free here);
      whole =
          ap (λ x. whole (before ++ x ∷ behind)) new_is ∙ text-whole column text before behind line inside here
          ∙ ap₂ (λ n xs. after_text n text (whole xs)) (sym place) old_is;
    }

-- ---- a mark is put in, where its number marks nothing
put_free : (test : Bool) (new : Place) (found : Option Place) → test ≢ true → found ≡ None →
    cond test (Some new) found ≡ None
put_free true new found other free = absurd (other refl)
put_free false new found other free = free

put_stands : (test : Bool) (end : ℕ) (new place : Place) (found : Option Place) → new.offset < end →
    (found ≡ Some place → place.offset < end) → cond test (Some new) found ≡ Some place → place.offset < end
put_stands true end new place found within stand is = let same : new ≡ place = cc in
    omega (arith, ap (λ (p : Place). p.offset) same, within)
put_stands false end new place found within stand is = stand is

put_apart : (test : Bool) (new place : Place) (found other : Option Place) → (test ≡ true → other ≡ None) →
    (found ≡ Some place → other ≡ None) → cond test (Some new) found ≡ Some place → other ≡ None
put_apart true new place found other free apart is = free refl
put_apart false new place found other free apart is = apart is

pub put-stands : (number end : ℕ) (place : Place) (marks : Marks) → place.offset < end → StandBefore end marks →
    StandBefore end (finite.insert marks number place)
put-stands number end place marks within stand q here is =
    put_stands (eq_by_cmp nat_cmp q number) end place here (finite.get marks q) within (stand q here)
    (sym (finite.get-insert nat_cmp_total marks number place q) ∙ is)

put-apart : (number : ℕ) (place : Place) (marks others : Marks) → finite.get others number ≡ None →
    AreApart marks others → AreApart (finite.insert marks number place) others
put-apart number place marks others free apart q here is =
    put_apart (eq_by_cmp nat_cmp q number) place here (finite.get marks q) (finite.get others q) (λ tie.
    ap (finite.get others) (tied_same q number tie) ∙ free) (apart q here)
    (sym (finite.get-insert nat_cmp_total marks number place q) ∙ is)

mark-goes : (number : ℕ) (place : Place) (line : LineContent) (behind : List LineContent) →
    place.offset < length line.columns → finite.get (whole behind).marks number ≡ None
    → GoesBefore line behind → GoesBefore (with_mark number place line) behind
mark-goes number place line [] within free goes = λ q here is.
    let stands = put-stands number (length line.columns + 1) place line.marks (omega (arith, within)) (λ p there found.
    omega (arith, goes p there found)) q here is in
    omega (arith, stands)
mark-goes number place line (next ∷ others) within free goes = (
  put-stands number (length line.columns) place line.marks within goes.0,
  put-apart number place line.marks (whole (next ∷ others)).marks free goes.1,
)

pub mark-stays : (number : ℕ) (place : Place) (line : LineContent) (before behind : List LineContent) →
    finite.get (whole before).marks number ≡ None
    → StayFree (whole before).marks (whole (line ∷ behind)).marks (whole (with_mark number place line ∷ behind)).marks
mark-stays number place line before behind none q there free =
    let parts = free-parts line (whole behind) q free in
    let other : eq_by_cmp nat_cmp q number ≢ true = λ tie.
    there (ap (finite.get (whole before).marks) (tied_same q number tie) ∙ none) in
    free-joined (with_mark number place line) (whole behind) q
    (finite.get-insert nat_cmp_total line.marks number place q
    ∙ put_free (eq_by_cmp nat_cmp q number) place (finite.get line.marks q) other parts.1) parts.0

pub free-around : (number : ℕ) (before behind : List LineContent) (line : LineContent) →
    finite.get (whole (before ++ line ∷ behind)).marks number ≡ None
    → (finite.get (whole before).marks number ≡ None) × (finite.get (whole behind).marks number ≡ None)
free-around number before behind line free =
    let parts = free-parts (whole before) (joined line (whole behind)) number
    (ap (λ (all : LineContent). finite.get all.marks number) (sym (whole-around before behind line)) ∙ free) in
    (parts.1, (free-parts line (whole behind) number parts.0).0)

mark-rows : (number : ℕ) (place : Place) (before behind : List LineContent) (line : LineContent) →
    place.offset < length line.columns
    → finite.get (whole (before ++ line ∷ behind)).marks number ≡ None → AreRows (before ++ line ∷ behind) →
    AreRows (before ++ with_mark number place line ∷ behind)
mark-rows number place before behind line within free rows =
    let rest = rows-behind before (line ∷ behind) rows in
    let none = free-around number before behind line free in
    let is : IsLine (with_mark number place line) = record { ends = rest.0.ends; once = rest.0.once } in
    rows-among before (line ∷ behind) (with_mark number place line ∷ behind) (omega arith) (omega arith) rows (
      is,
      mark-goes number place line behind within none.1 rest.1,
      rest.2,
    )
    (mark-stays number place line before behind none.0)

pub mark-whole : (number : ℕ) (place : Place) (before behind : List LineContent) (line : LineContent) →
    finite.get (whole (before ++ line ∷ behind)).marks number ≡ None
    → whole (before ++ with_mark number place line ∷ behind)
    ≡ with_mark number (later (length (whole before).columns) place) (whole (before ++ line ∷ behind))
mark-whole number place before behind line free =
    whole-around before behind (with_mark number place line)
    ∙ sym (ap (with_mark number (later (length (whole before).columns) place)) (whole-around before behind line)
    ∙ with_mark-between number place (whole before) line (whole behind) (free-around number before behind line free).1)

-- what is made of lines
pub marked-makes : (before behind old : List LineContent) (line new : LineContent) (place : Place) (number column : ℕ) →
    before ++ line ∷ behind ≡ old
    → place.offset ≡ length (whole before).columns + column → column < length line.columns →
    finite.get (whole old).marks number ≡ None
    → new ≡ with_mark number (record place { offset = column }) line →
    Makes (with_mark number place) old (before ++ new ∷ behind)
marked-makes before behind old line new place number column old_is stands inside free new_is =
    let here : Place = record place { offset = column } in
    let none = subst (λ xs. finite.get (whole xs).marks number ≡ None) (sym old_is) free in
    let later_is : later (length (whole before).columns) here ≡ place =
    ap (λ n. record place { offset = n }) (let same : column + length (whole before).columns
    ≡ place.offset = omega (arith, stands) in same) in
    record {
      rows = λ rows. subst (λ x. AreRows (before ++ x ∷ behind)) (sym new_is)
          (mark-rows number here before behind line inside none (subst AreRows (sym old_is) rows));
      whole =
          ap (λ x. whole (before ++ x ∷ behind)) new_is ∙ mark-whole number here before behind line none
          ∙ ap₂ (λ p xs. with_mark number p (whole xs)) later_is old_is;
    }

-- ---- a mark is taken away
kept_one : (test : Bool) (found : Option Place) (place : Place) → cond test None found ≡ Some place → found ≡ Some place
kept_one true found place is = absurd (let no : None ≡ Some place = is in cc)
kept_one false found place is = is

pub free_one : (test : Bool) (found : Option Place) → found ≡ None → cond test None found ≡ None
free_one true found free = refl
free_one false found free = free

take-among : (number : ℕ) (marks : Marks) → AreAmong (finite.remove marks number) marks
take-among number marks q free =
    finite.get-remove nat_cmp_total marks number q ∙ free_one (eq_by_cmp nat_cmp q number) (finite.get marks q) free

pub take-kept : (number : ℕ) (marks : Marks) (q : ℕ) (place : Place) →
    finite.get (finite.remove marks number) q ≡ Some place → finite.get marks q ≡ Some place
take-kept number marks q place is = kept_one (eq_by_cmp nat_cmp q number) (finite.get marks q) place
    (sym (finite.get-remove nat_cmp_total marks number q) ∙ is)

take-rows : (number : ℕ) (before behind : List LineContent) (line : LineContent) → AreRows (before ++ line ∷ behind) →
    AreRows (before ++ without_mark number line ∷ behind)
take-rows number before behind line rows =
    let rest = rows-behind before (line ∷ behind) rows in
    let new = without_mark number line in
    let among = take-among number line.marks in
    let is : IsLine new = record { ends = rest.0.ends; once = rest.0.once } in
    let goes = goes-changed line new behind among
    (λ stand q place found. stand q place (take-kept number line.marks q place found)) (λ stand q place found.
    stand q place (take-kept number line.marks q place found)) rest.1 in
    rows-before before (line ∷ behind) (new ∷ behind) (omega arith) (omega arith) rows (
      is,
      goes,
      rest.2,
    ) (among-first line new behind among)

-- no number marks something both in lines and in those behind them
goes-apart : (line : LineContent) (before rest : List LineContent) → 0 < length rest →
    GoesBefore line (before ++ rest) → AreApart line.marks (whole (before ++ rest)).marks
goes-apart line [] [] some goes = absurd (omega (arith, some))
goes-apart line [] (next ∷ rest) some goes = goes.1
goes-apart line (next ∷ before) rest some goes = goes.1

pub rows-apart : (before rest : List LineContent) (number : ℕ) → 0 < length rest → AreRows (before ++ rest) →
    finite.get (whole before).marks number ≢ None → finite.get (whole rest).marks number ≡ None
rows-apart [] rest number some rows there = absurd (there (finite.get-empty nat_cmp number))
rows-apart (x ∷ before) rest number some rows there =
    elim (finite.get x.marks number) as (λ found. finite.get x.marks number ≡ found →
    finite.get (whole rest).marks number ≡ None) [
      | None ↦ λ free. rows-apart before rest number some rows.2 (λ none.
          there (free-joined x (whole before) number free none))
      | Some here ↦ λ is.
          (free-parts (whole before) (whole rest) number
          (ap (λ (line : LineContent). finite.get line.marks number) (sym (whole-append before rest))
          ∙ goes-apart x before rest some rows.1 number here is)).0
    ] refl

pub some-columns : (columns : List Column) → ends_in_newline (characters columns) ≡ true → 0 < length columns
some-columns [] ends = absurd (let no : false ≡ true = ends in cc)
some-columns (column ∷ columns) ends = omega arith

some-behind : (behind : List LineContent) (number : ℕ) → AreRows behind →
    finite.get (whole behind).marks number ≢ None → 0 < length (whole behind).columns
some-behind [] number rows there = absurd (there (finite.get-empty nat_cmp number))
some-behind (x ∷ behind) number rows there =
    omega (arith, some-columns x.columns rows.0.ends, length-append x.columns (whole behind).columns)

-- a mark that stands at a column of the second of three, or behind the last, is in no other
here_alone : (one two three offset column : ℕ) (x y z : Option Place) → offset ≡ one + column → column < two →
    ((place : Place) → x ≡ Some place → place.offset < one)
    → (x ≢ None → or_else (option_map (later two) z) y ≡ None) → (z ≢ None → 0 < three)
    → IfSome (or_else (option_map (later one) (or_else (option_map (later two) z) y)) x) (λ place. offset
    ≡ min place.offset (one + (two + three) - 1)) → (x ≡ None) × (z ≡ None)
here_alone one two three offset column x y (Some place) at inside first apart some stands =
    let more : 0 < three = some (λ is. let no : Some place ≡ None = is in cc) in
    absurd (omega (arith, stands, at, inside, more))
here_alone one two three offset column (Some place) None None at inside first apart some stands =
    absurd (omega (arith, stands, at, first place refl))
here_alone one two three offset column (Some place) (Some other) None at inside first apart some stands =
    absurd (let no : Some other ≡ None = apart (λ is. let no : Some place ≡ None = is in cc) in cc)
here_alone one two three offset column None y None at inside first apart some stands = (refl, refl)

alone : (number offset column : ℕ) (before behind : List LineContent) (line : LineContent) →
    AreRows (before ++ line ∷ behind) → offset ≡ length (whole before).columns + column
    → column < length line.columns → StandsBy number offset (whole (before ++ line ∷ behind)) →
    (finite.get (whole before).marks number ≡ None) × (finite.get (whole behind).marks number ≡ None)
alone number offset column before behind line rows at inside stands =
    let front = whole before in
    let back = whole behind in
    let one = length front.columns in
    let two = length line.columns in
    let long : length (front.columns ++ (line.columns ++ back.columns))
    ≡ one + (two + length back.columns) = omega (
      arith,
      length-append front.columns (line.columns ++ back.columns),
      length-append line.columns back.columns,
    ) in
    let between = subst (StandsBy number offset) (whole-around before behind line) stands in
    let found = get-row one two front.marks line.marks back.marks number in
    let here = subst (λ x. IfSome x (λ (place : Place). offset
    ≡ min place.offset (length (front.columns ++ (line.columns ++ back.columns)) - 1))) found between in
    here_alone one two (length back.columns) offset column (finite.get front.marks number)
    (finite.get line.marks number) (finite.get back.marks number) at inside
    (rows-stand before (line ∷ behind) (omega arith) rows number)
    (λ there. sym (get-joined_marks two line.marks back.marks number)
    ∙ rows-apart before (line ∷ behind) number (omega arith) rows there)
    (some-behind behind number (rows-behind before (line ∷ behind) rows).2)
    (subst (λ n.
    IfSome
    (or_else (option_map (later one) (or_else (option_map (later two) (finite.get back.marks number))
    (finite.get line.marks number))) (finite.get front.marks number)) (λ (place : Place). offset
    ≡ min place.offset (n - 1))) long here)

-- what is made of lines of a text
pub taken-makes : (before behind old : List LineContent) (line new : LineContent) (number offset column : ℕ) →
    before ++ line ∷ behind ≡ old → offset ≡ length (whole before).columns + column
    → column < length line.columns → AreRows old → StandsBy number offset (whole old) → new ≡ without_mark number line →
    Makes (without_mark number) old (before ++ new ∷ behind)
taken-makes before behind old line new number offset column old_is at inside rows stands new_is =
    let here = subst AreRows (sym old_is) rows in
    let none = alone number offset column before behind line here at inside
    (subst (λ xs. StandsBy number offset (whole xs)) (sym old_is) stands) in
    record {
      rows = λ _. subst (λ x. AreRows (before ++ x ∷ behind)) (sym new_is) (take-rows number before behind line here);
      whole =
          ap (λ x. whole (before ++ x ∷ behind)) new_is ∙ whole-around before behind (without_mark number line)
          ∙ sym (without_mark-between number (whole before) line (whole behind) none.0 none.1)
          ∙ ap (without_mark number) (sym (whole-around before behind line) ∙ ap whole old_is);
    }
