-- Where the mark of a number stands in the lines of a draft.
use Rattle.line_lists.proofs.Common.{◌≡◌, ◌≢◌, ℕ, suc, ◌+◌, ◌-◌, min, ◌<◌, ◌≤◌, true, false, List, [], ◌∷◌, ◌++◌}
use Rattle.line_lists.proofs.Common.{Option, None, Some, length, take, drop, get_or, inl, inr, refl, sym, ap, ap₂}
use Rattle.line_lists.proofs.Common.{subst, ◌∙◌, arith, append_assoc, length-append, take-append-drop, length-drop}
use Rattle.line_lists.proofs.Common.{nat_cmp, is_some, option_map, reverse, slice_get, cases_lt, append-nil, drop-drop}
use Rattle.line_lists.proofs.Common.{drop-take, drop_more, get_or-take, length-take-le, map-append, reverse-append}
use Rattle.line_lists.proofs.Common.{take_all, take_more, Place, LineContent, later, or_else, Copied, Reached, Stop}
use Rattle.line_lists.proofs.Common.{AreStops, CanFollow, IsReached, IsText, StandsBy, copies_of, covered, drafted}
use Rattle.line_lists.proofs.Common.{drafted_at, in_order, made_lines, text_at, used, AreRows, GoesBefore, IsMarked}
use Rattle.line_lists.proofs.Common.{StandBefore, has_mark, next_line, StandsIn, lines_with, whole, IfSome}
use Rattle.line_lists.proofs.DraftLaws.{copies-snoc, drafted-append, length-whole, made-snoc, stops-last, take-more}
use Rattle.line_lists.proofs.DraftLaws.{add_groups, used-append}
use Rattle.line_lists.proofs.EditLaws.{some-columns}
use Rattle.line_lists.proofs.FindLaws.{begin-le, begin-next, drop_after, slice_get-drop}
use Rattle.line_lists.proofs.FoundMarks.{length-around}
use Rattle.line_lists.proofs.FreedLaws.{drafted-cons, free-front}
use Rattle.line_lists.proofs.LineStarts.{lent, there}
use Rattle.line_lists.proofs.MarkPlaces.{apart-rest, mark-nowhere}
use Rattle.line_lists.proofs.MarkRows.{get-row}
use Rattle.line_lists.proofs.NewlineRows.{row-at}
use Rattle.line_lists.proofs.RowLaws.{free-joined, rows-behind, whole-around}
use Rattle.line_lists.proofs.SearchRows.{line_at, next-found, next-none}
use Rattle.line_lists.proofs.WholeLaws.{whole-append}
use Rattle.std.specs.FinMap as finite

-- ---- lines among others
abbrev clamped : LineContent → Place → ℕ
clamped line place = min place.offset (length line.columns - 1)

from_none : (n : ℕ) → n ≡ 0 + n
from_none n = omega arith

pub stands-one : (number column : ℕ) (line : LineContent) (place : Place) → finite.get line.marks number ≡ Some place →
    column ≡ clamped line place → StandsIn number column (line ∷ [])
stands-one number column line place is at = record {
  before = [];
  line = line;
  behind = [];
  place = place;
  all = refl;
  here = is;
  at = at ∙ from_none (clamped line place);
}

pub stands-behind : (number offset : ℕ) (front lines : List LineContent) → StandsIn number offset lines →
    StandsIn number (length (whole front).columns + offset) (front ++ lines)
stands-behind number offset front lines stands = record {
  before = front ++ stands.before;
  line = stands.line;
  behind = stands.behind;
  place = stands.place;
  all = ap (λ xs. front ++ xs) stands.all ∙ sym (append_assoc front stands.before (stands.line ∷ stands.behind));
  here = stands.here;
  at =
      ap (λ n. length (whole front).columns + n) stands.at
      ∙ add_groups (length (whole front).columns) (length (whole stands.before).columns)
      (clamped stands.line stands.place)
      ∙ ap (λ n. n + clamped stands.line stands.place) (sym (length-whole front stands.before));
}

pub stands-before : (number offset : ℕ) (lines rest : List LineContent) → StandsIn number offset lines →
    StandsIn number offset (lines ++ rest)
stands-before number offset lines rest stands = record {
  before = stands.before;
  line = stands.line;
  behind = stands.behind ++ rest;
  place = stands.place;
  all = ap (λ xs. xs ++ rest) stands.all ∙ append_assoc stands.before (stands.line ∷ stands.behind) rest;
  here = stands.here;
  at = stands.at;
}

-- ---- in the lines of a text
stands_before : (line : LineContent) (behind : List LineContent) → GoesBefore line behind →
    0 < length (whole behind).columns → StandBefore (length line.columns) line.marks
stands_before line [] goes some = absurd (omega (arith, some))
stands_before line (next ∷ others) goes some = goes.0

clamp : (one two three place offset all : ℕ) → offset ≡ one + min place (two - 1) → 0 < two →
    all ≡ one + (two + three) → (0 < three → place < two) → (offset < all) × (offset ≡ min (place + one) (all - 1))
clamp one two three place offset all at some long more =
    elim (cases_lt place two) [
      | inl less ↦ (omega (arith, at, some, long), omega (arith, at, some, long, less))
      | inr large ↦
          let none : three ≡ 0 = elim (cases_lt 0 three) [
            | inl there ↦ absurd (omega (arith, large, more there))
            | inr few ↦ omega (arith, few)
          ] in
          (omega (arith, at, some, long), omega (arith, at, some, long, large, none))
    ]

pub stands-found : (number offset : ℕ) (lines : List LineContent) → AreRows lines → StandsIn number offset lines →
    (offset < length (whole lines).columns) × StandsBy number offset (whole lines)
stands-found number offset lines rows stands =
    let line = stands.line in
    let place = stands.place in
    let front = whole stands.before in
    let back = whole stands.behind in
    let one = length front.columns in
    let two = length line.columns in
    let rest = rows-behind stands.before (line ∷ stands.behind) (subst AreRows stands.all rows) in
    let long = ap (λ xs. length (whole xs).columns) stands.all ∙ length-around stands.before stands.behind line in
    let apart = apart-rest line stands.behind rest.1 number place stands.here in
    let is : finite.get (whole lines).marks number ≡ Some (later one place) =
    ap (λ xs. finite.get (whole xs).marks number) stands.all
    ∙ ap (λ (x : LineContent). finite.get x.marks number) (whole-around stands.before stands.behind line)
    ∙ get-row one two front.marks line.marks back.marks number
    ∙ ap₂ (λ third second. or_else (option_map (later one) (or_else (option_map (later two) third) second))
    (finite.get front.marks number)) apart stands.here in
    let both = clamp one two (length back.columns) place.offset offset (length (whole lines).columns) stands.at
    (some-columns line.columns rest.0.ends) long
    (λ more. stands_before line stands.behind rest.1 more number place stands.here) in (
      both.0,
      subst (λ found. IfSome found (λ (p : Place). offset ≡ min p.offset (length (whole lines).columns - 1)))
          (sym is) both.1,
    )

-- ---- in the lines of a list
-- a mark of a line stands so many characters behind the beginning of the lines before it
stands-among : (number count column : ℕ) (before behind lines : List LineContent) (line : LineContent) →
    lines ≡ before ++ line ∷ behind → count ≡ length (whole before).columns → StandsIn number column (line ∷ [])
    → StandsIn number (count + column) lines
stands-among number count column before behind lines line all count_is stands =
    subst (λ n. StandsIn number (n + column) lines) (sym count_is)
    (subst (StandsIn number (length (whole before).columns + column)) (sym all)
    (stands-behind number column before (line ∷ behind) (stands-before number column (line ∷ []) behind stands)))

pub stands-kept : (number from to index count column : ℕ) (lines : List LineContent) (line : LineContent) →
    from ≤ index → index < to → slice_get lines index ≡ Some line
    → count ≡ length (whole (take (index - from) (drop from lines))).columns → StandsIn number column (line ∷ [])
    → StandsIn number (count + column) (take (to - from) (drop from lines))
stands-kept number from to index count column lines line first last is count_is stands =
    let others = drop from lines in
    let m = index - from in
    let k = to - index - 1 in
    let here : slice_get others m ≡ Some line = slice_get-drop from m lines
    ∙ ap (slice_get lines) (let same : from + m ≡ index = omega (arith, first) in same) ∙ is in
    let all : take (to - from) others ≡ take m others ++ line ∷ take k (drop (suc m) others) =
    ap (λ n. take n others) (let same : to - from ≡ m + suc k = omega (arith, first, last) in same)
    ∙ take-more m (suc k) others
    ∙ ap (λ xs. take m others ++ take (suc k) xs) (drop_after others m line here) in
    stands-among number count column (take m others) (take k (drop (suc m) others)) (take (to - from) others) line all
    count_is stands

free-take : (number n : ℕ) (lines : List LineContent) → finite.get (whole lines).marks number ≡ None →
    finite.get (whole (take n lines)).marks number ≡ None
free-take number n lines free = (free-front (take n lines) (drop n lines) number
    (ap (λ xs. finite.get (whole xs).marks number) (take-append-drop n lines) ∙ free)).0

free-drop : (number n : ℕ) (lines : List LineContent) → finite.get (whole lines).marks number ≡ None →
    finite.get (whole (drop n lines)).marks number ≡ None
free-drop number n lines free = (free-front (take n lines) (drop n lines) number
    (ap (λ xs. finite.get (whole xs).marks number) (take-append-drop n lines) ∙ free)).1

pub kept-none : (number from to : ℕ) (lines : List LineContent) → next_line (has_mark number) 0 lines ≡ None →
    finite.get (whole (take (to - from) (drop from lines))).marks number ≡ None
kept-none number from to lines none =
    free-take number (to - from) (drop from lines)
    (free-drop number from lines (mark-nowhere lines number (next-none (has_mark number) 0 lines none)))

some_place : (found : Option Place) → is_some found ≡ true → (place : Place) × (found ≡ Some place)
some_place None is = absurd (let no : false ≡ true = is in cc)
some_place (Some place) is = (place, refl)

pub kept-behind : (number from to index : ℕ) (lines : List LineContent) → AreRows lines →
    next_line (has_mark number) 0 lines ≡ Some index → index < from
    → finite.get (whole (take (to - from) (drop from lines))).marks number ≡ None
kept-behind number from to index lines rows is less =
    let near = next-found (has_mark number) 0 lines index is in
    let line = line_at lines index in
    let stands = some_place (finite.get line.marks number) near.passes in
    let free : finite.get (whole (drop (suc index) lines)).marks number ≡ None =
    apart-rest line (drop (suc index) lines) (row-at lines index line rows (there lines index near.within)).before
    number stands.0 stands.1 in
    let rest : drop (from - suc index) (drop (suc index) lines) ≡ drop from lines =
    drop-drop (from - suc index) (suc index) lines
    ∙ ap (λ n. drop n lines) (let same : suc index + (from - suc index) ≡ from = omega (arith, less) in same) in
    free-take number (to - from) (drop from lines)
    (subst (λ xs. finite.get (whole xs).marks number ≡ None) rest
    (free-drop number (from - suc index) (drop (suc index) lines) free))

pub kept-before : (number from to index : ℕ) (lines : List LineContent) → from ≤ to →
    next_line (has_mark number) 0 lines ≡ Some index → to ≤ index
    → finite.get (whole (take (to - from) (drop from lines))).marks number ≡ None
kept-before number from to index lines ordered is large =
    let near = next-found (has_mark number) 0 lines index is in
    let short : length (take to lines) ≡ to = length-take-le to lines (omega (arith, near.within, large)) in
    let free : finite.get (whole (take to lines)).marks number ≡ None =
    mark-nowhere (take to lines) number (λ j more less.
    ap (has_mark number) (get_or-take to lines j _ (omega (arith, less, short)))
    ∙ near.free j more (omega (arith, less, short, large))) in
    let part : drop from (take to lines) ≡ take (to - from) (drop from lines) =
    ap (λ n. drop from (take n lines)) (let same : to ≡ from + (to - from) = omega (arith, ordered) in same)
    ∙ drop-take from (to - from) lines in
    subst (λ xs. finite.get (whole xs).marks number ≡ None) part (free-drop number from (take to lines) free)

-- ---- in the lines before a copy, and in its own
pub stands-copied : (number column count : ℕ) (reached : Reached) (copy : Copied) (lines : List LineContent)
    → count ≡ length (whole (take copy.kept (drop reached.used lines))).columns →
    StandsIn number column (copy.line ∷ [])
    → StandsIn number (count + column) (lines_with reached copy lines)
stands-copied number column count reached copy lines count_is stands =
    let kept = take copy.kept (drop reached.used lines) in
    subst (λ n. StandsIn number n (lines_with reached copy lines)) (ap (λ n. n + column) (sym count_is))
    (stands-behind number column kept (copy.line ∷ []) stands)

pub copied-none : (number : ℕ) (reached : Reached) (copy : Copied) (lines : List LineContent) →
    finite.get copy.line.marks number ≡ None
    → finite.get (whole (take copy.kept (drop reached.used lines))).marks number ≡ None →
    finite.get (whole (lines_with reached copy lines)).marks number ≡ None
copied-none number reached copy lines none free =
    let kept = take copy.kept (drop reached.used lines) in
    ap (λ (x : LineContent). finite.get x.marks number) (whole-append kept (copy.line ∷ []))
    ∙ free-joined (whole kept) (whole (copy.line ∷ [])) number free
    (free-joined copy.line (whole []) number none (finite.get-empty nat_cmp number))

-- ---- in the lines of a draft
-- a copy of a draft, and what it is among
pub record AtCopy (lines : List LineContent) (front : List Stop) (back before : List Copied) (reached : Reached)
    (copy : Copied) : Type 0 where
  pub is : IsReached reached before lines
  pub follows : CanFollow reached copy lines
  pub some : 0 < length copy.line.columns
  pub rest : List LineContent
  pub all : drafted_at lines front back ≡ made_lines before lines ++ (lines_with reached copy lines ++ rest)

at-copy : (lines : List LineContent) (front : List Stop) (back before behind : List Copied) (reached : Reached)
    (copy : Copied) → IsText lines front back
    → in_order front back ≡ before ++ copy ∷ behind → IsReached reached before lines →
    AtCopy lines front back before reached copy
at-copy lines front back before behind reached copy text split is =
    let others = drop (used before) lines in
    let made = made_lines before lines in
    let kept = take copy.kept others in
    let rest = drafted behind (drop (covered copy) others) in
    let same : drafted_at lines front back ≡ made ++ (kept ++ copy.line ∷ rest) =
    ap (λ xs. drafted xs lines) split ∙ drafted-append before (copy ∷ behind) lines
    ∙ ap (λ xs. made ++ xs) (drafted-cons copy behind others) in
    let kept_is : take copy.kept (drop reached.used lines) ≡ kept = ap (λ n. take copy.kept (drop n lines)) is.used in
    let long : length (whole (drafted_at lines front back)).columns
    ≡ length (whole made).columns + (length (whole kept).columns
    + (length copy.line.columns + length (whole rest).columns)) =
    ap (λ xs. length (whole xs).columns) same ∙ length-whole made (kept ++ copy.line ∷ rest)
    ∙ ap (λ n. length (whole made).columns + n) (length-whole kept (copy.line ∷ rest)
    ∙ ap (λ n. length (whole kept).columns + n) (length-append copy.line.columns (whole rest).columns)) in
    let here : length (whole (take copy.kept (drop reached.used lines))).columns
    ≡ length (whole kept).columns = ap (λ xs. length (whole xs).columns) kept_is in
    record {
      is = is;
      follows = record {
        there = omega (arith, is.used, ap used split, used-append before (copy ∷ behind), text.draft.there);
        counted = omega (arith, is.characters, here, long, text.draft.counted);
      };
      some = some-columns copy.line.columns (rows-behind kept (copy.line ∷ rest)
          (rows-behind made (kept ++ copy.line ∷ rest) (subst AreRows same text.rows))).0.ends;
      rest = rest;
      all = same ∙ ap (λ xs. made ++ xs) (sym (append_assoc kept (copy.line ∷ []) rest)
          ∙ ap (λ xs. (xs ++ copy.line ∷ []) ++ rest) (sym kept_is));
    }

stops-part : (lines : List LineContent) (before : List Copied) (front rest : List Stop) →
    AreStops lines before (front ++ rest) → AreStops lines before front
stops-part lines before [] rest stops = tt
stops-part lines before (first ∷ front) rest stops =
    (stops.0, stops-part lines (before ++ first.copy ∷ []) front rest stops.1)

-- one before the place
pub at-front : (lines : List LineContent) (front : List Stop) (back : List Copied) (i : ℕ) (stop : Stop) →
    IsText lines front back → i < length front → stop ≡ get_or front i stop
    → AtCopy lines front back (copies_of (take i front)) stop.reached stop.copy
at-front lines front back i stop text within is =
    let before = take i front in
    let behind = drop (i + 1) front in
    let all : front ≡ (before ++ stop ∷ []) ++ behind = sym (take-append-drop (i + 1) front)
    ∙ ap (λ xs. xs ++ behind) (take_more front i stop within ∙ ap (λ x. before ++ x ∷ []) (sym is)) in
    let stops = stops-part lines [] (before ++ stop ∷ []) behind (subst (AreStops lines []) all text.draft.stops) in
    let split : in_order front back ≡ copies_of before ++ stop.copy ∷ (copies_of behind ++ reverse back) =
    ap (λ xs. copies_of xs ++ reverse back) (all ∙ append_assoc before (stop ∷ []) behind)
    ∙ ap (λ xs. xs ++ reverse back) (map-append (λ (x : Stop). x.copy) before (stop ∷ behind))
    ∙ append_assoc (copies_of before) (stop.copy ∷ copies_of behind) (reverse back) in
    at-copy lines front back (copies_of before) (copies_of behind ++ reverse back) stop.reached stop.copy text split
    (stops-last lines [] before stop stops)

-- one behind it
abbrev pub copies_to : List Stop → List Copied → ℕ → List Copied
copies_to front back n = copies_of front ++ reverse (drop n back)

pub at-back : (lines : List LineContent) (front : List Stop) (back : List Copied) (i n : ℕ) (reached : Reached)
    (copy : Copied) → IsText lines front back → n ≡ i + 1 → i < length back → copy ≡ get_or back i copy
    → IsReached reached (copies_to front back n) lines → AtCopy lines front back (copies_to front back n) reached copy
at-back lines front back i n reached copy text next within is so_far =
    let behind = drop n back in
    let all : back ≡ take i back ++ copy ∷ behind =
    sym (take-append-drop (i + 1) back) ∙ ap (λ xs. xs ++ drop (i + 1) back) (take_more back i copy within
    ∙ ap (λ x. take i back ++ x ∷ []) (sym is))
    ∙ append_assoc (take i back) (copy ∷ []) (drop (i + 1) back)
    ∙ ap (λ m. take i back ++ copy ∷ drop m back) (sym next) in
    let split : in_order front back ≡ copies_to front back n ++ copy ∷ reverse (take i back) =
    ap (λ xs. copies_of front ++ reverse xs) all
    ∙ ap (λ xs. copies_of front ++ xs) (reverse-append (take i back) (copy ∷ behind)
    ∙ ap (λ xs. xs ++ reverse (take i back)) (reverse-append (copy ∷ []) behind)
    ∙ append_assoc (reverse behind) (copy ∷ []) (reverse (take i back)))
    ∙ sym (append_assoc (copies_of front) (reverse behind) (copy ∷ reverse (take i back))) in
    at-copy lines front back (copies_to front back n) (reverse (take i back)) reached copy text split so_far

pub front-more : (front : List Stop) (i : ℕ) (stop : Stop) → i < length front → stop ≡ get_or front i stop →
    copies_of (take i front) ++ stop.copy ∷ [] ≡ copies_of (take (i + 1) front)
front-more front i stop within is = sym (ap copies_of (take_more front i stop within
    ∙ ap (λ x. take i front ++ x ∷ []) (sym is)) ∙ copies-snoc (take i front) stop)

pub back-more : (front : List Stop) (back : List Copied) (i n : ℕ) (copy : Copied) → n ≡ i + 1 → i < length back →
    copy ≡ get_or back i copy → copies_to front back n ++ copy ∷ [] ≡ copies_to front back i
back-more front back i n copy next within is =
    let first : drop i back ≡ copy ∷ drop n back = drop_more back i copy within
    ∙ ap₂ (λ x m. x ∷ drop m back) (sym is) (sym next) in
    append_assoc (copies_of front) (reverse (drop n back)) (copy ∷ [])
    ∙ ap (λ xs. copies_of front ++ xs) (sym (ap reverse first ∙ reverse-append (copy ∷ []) (drop n back)))

pub stands-at : {number offset : ℕ} {lines : List LineContent} {front : List Stop} {back before : List Copied}
    {reached : Reached} {copy : Copied} → AtCopy lines front back before reached copy
    → StandsIn number offset (lines_with reached copy lines) →
    StandsIn number (reached.characters + offset) (drafted_at lines front back)
stands-at {number} {offset} {lines} {front} {back} {before} {reached} {copy} at stands =
    let made = made_lines before lines in
    let with = lines_with reached copy lines in
    subst (λ n. StandsIn number (n + offset) (drafted_at lines front back)) (sym at.is.characters)
    (subst (StandsIn number (length (whole made).columns + offset)) (sym at.all)
    (stands-behind number offset made (with ++ at.rest) (stands-before number offset with at.rest stands)))

pub none-more : (number : ℕ) (lines : List LineContent) (front : List Stop) (back before more : List Copied)
    (reached : Reached) (copy : Copied) → AtCopy lines front back before reached copy → before ++ copy ∷ [] ≡ more
    → finite.get (whole (made_lines before lines)).marks number ≡ None →
    finite.get (whole (lines_with reached copy lines)).marks number ≡ None
    → finite.get (whole (made_lines more lines)).marks number ≡ None
none-more number lines front back before more reached copy at more_is free none =
    let made = made_lines before lines in
    let with = lines_with reached copy lines in
    let all : made_lines more lines ≡ made ++ with =
    ap (λ xs. made_lines xs lines) (sym more_is) ∙ made-snoc before copy lines
    ∙ ap (λ n. made ++ (take copy.kept (drop n lines) ++ copy.line ∷ [])) (sym at.is.used) in
    ap (λ xs. finite.get (whole xs).marks number) all
    ∙ ap (λ (x : LineContent). finite.get x.marks number) (whole-append made with)
    ∙ free-joined (whole made) (whole with) number free none

-- the lines behind all copies
rest_all : (lines : List LineContent) (front : List Stop) (back : List Copied) (reached : Reached) (n : ℕ) →
    IsReached reached (in_order front back) lines → n ≡ length lines
    → drafted_at lines front back ≡ made_lines (in_order front back) lines
    ++ take (n - reached.used) (drop reached.used lines)
rest_all lines front back reached n is all =
    ap (λ xs. made_lines (in_order front back) lines ++ xs)
    (ap (λ k. drop k lines) (sym is.used)
    ∙ sym (take_all (n - reached.used) (drop reached.used lines)
    (omega (arith, all, length-drop reached.used lines))))

pub stands-rest : (number offset n : ℕ) (lines : List LineContent) (front : List Stop) (back : List Copied)
    (reached : Reached) → IsReached reached (in_order front back) lines → n ≡ length lines
    → StandsIn number offset (take (n - reached.used) (drop reached.used lines)) →
    StandsIn number (reached.characters + offset) (drafted_at lines front back)
stands-rest number offset n lines front back reached is all stands =
    let made = made_lines (in_order front back) lines in
    subst (λ m. StandsIn number (m + offset) (drafted_at lines front back)) (sym is.characters)
    (subst (StandsIn number (length (whole made).columns + offset)) (sym (rest_all lines front back reached n is all))
    (stands-behind number offset made (take (n - reached.used) (drop reached.used lines)) stands))

pub none-rest : (number n : ℕ) (lines : List LineContent) (front : List Stop) (back : List Copied) (reached : Reached) →
    IsReached reached (in_order front back) lines → n ≡ length lines
    → finite.get (whole (made_lines (in_order front back) lines)).marks number ≡ None →
    finite.get (whole (take (n - reached.used) (drop reached.used lines))).marks number ≡ None
    → finite.get (text_at lines front back).marks number ≡ None
none-rest number n lines front back reached is all free none =
    let made = made_lines (in_order front back) lines in
    let rest = take (n - reached.used) (drop reached.used lines) in
    ap (λ xs. finite.get (whole xs).marks number) (rest_all lines front back reached n is all)
    ∙ ap (λ (x : LineContent). finite.get x.marks number) (whole-append made rest)
    ∙ free-joined (whole made) (whole rest) number free none

-- ---- lines of the list
pub line-some : (lines : List LineContent) (k : ℕ) (line : LineContent) → AreRows lines →
    slice_get lines k ≡ Some line → 0 < length line.columns
line-some lines k line rows is = some-columns line.columns (row-at lines k line rows is).alone.ends

-- the line of a mark in a list of which no line is copied
pub stands-listed : (number start column : ℕ) (lines : List LineContent) (line : LineContent) →
    IsMarked number lines start line → StandsIn number column (line ∷ []) → StandsIn number (start + column) lines
stands-listed number start column lines line marked stands =
    let before = take marked.index lines in
    let behind = drop (suc marked.index) lines in
    let all : before ++ line ∷ behind ≡ lines =
    ap (λ xs. before ++ xs) (sym (drop_after lines marked.index line marked.there))
    ∙ take-append-drop marked.index lines in
    stands-among number start column before behind lines line (sym all) marked.starts stands

-- a line that is found by the mark of a number has it
pub kept-there : (number index : ℕ) (lines : List LineContent) (line : LineContent) →
    next_line (has_mark number) 0 lines ≡ Some index → slice_get lines index ≡ Some line →
    finite.get line.marks number ≢ None
kept-there number index lines line found is none =
    let near = next-found (has_mark number) 0 lines index found in
    let no : false ≡ true = sym (ap (has_mark number) (lent lines index line is) ∙ ap is_some none) ∙ near.passes in
    absurd (cc)

-- a column of a line of the list can be counted
pub kept-counted : (lines : List LineContent) (index column : ℕ) (line : LineContent) →
    slice_get lines index ≡ Some line → column < length line.columns
    → length (whole (take index lines)).columns + column < length (whole lines).columns
kept-counted lines index column line is inside =
    omega (arith, begin-next lines index line is, begin-le lines (index + 1), inside)

-- what is found in the lines that are kept before a copy
kept_lines : (reached : Reached) (copy : Copied) (lines : List LineContent) →
    take ((reached.used + copy.kept) - reached.used) (drop reached.used lines)
    ≡ take copy.kept (drop reached.used lines)
kept_lines reached copy lines = ap (λ n. take n (drop reached.used lines))
    (let same : (reached.used + copy.kept) - reached.used ≡ copy.kept = omega arith in same)

pub kept-found : (number : ℕ) (reached : Reached) (copy : Copied) (lines : List LineContent) (found : Option ℕ)
    → IfSome found (λ offset. StandsIn number offset
    (take ((reached.used + copy.kept) - reached.used) (drop reached.used lines)))
    → IfSome found (λ offset. StandsIn number offset (lines_with reached copy lines))
kept-found number reached copy lines None is = tt
kept-found number reached copy lines (Some offset) is =
    stands-before number offset (take copy.kept (drop reached.used lines)) (copy.line ∷ [])
    (subst (StandsIn number offset) (kept_lines reached copy lines) is)

pub kept-nowhere : (number : ℕ) (reached : Reached) (copy : Copied) (lines : List LineContent)
    → finite.get (whole (take ((reached.used + copy.kept) - reached.used) (drop reached.used lines))).marks number
    ≡ None
    → finite.get (whole (take copy.kept (drop reached.used lines))).marks number ≡ None
kept-nowhere number reached copy lines none =
    subst (λ xs. finite.get (whole xs).marks number ≡ None) (kept_lines reached copy lines) none

-- none of the copies behind the place
pub back-none : (front : List Stop) (back : List Copied) (n : ℕ) → n ≡ length back →
    copies_of front ≡ copies_to front back n
back-none front back n all =
    sym (ap (λ xs. copies_of front ++ reverse xs) (ap (λ m. drop m back) all ∙ drop_all back)
    ∙ append-nil (copies_of front))
  where
    drop_all : (xs : List Copied) → drop (length xs) xs ≡ []
    drop_all [] = refl
    drop_all (x ∷ xs) = drop_all xs
