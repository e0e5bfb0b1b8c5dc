-- Lines of a list that copies keep, by where they stand in the text.
use Rattle.line_lists.proofs.Common.{◌≡◌, ℕ, zero, suc, ◌+◌, ◌-◌, ◌<◌, ◌≤◌, ◌^◌, List, [], ◌∷◌, ◌++◌, Option, None}
use Rattle.line_lists.proofs.Common.{Some, length, take, drop, inl, inr, refl, sym, ap, ap₂, subst, ◌∙◌, arith}
use Rattle.line_lists.proofs.Common.{append_assoc, length-append, take-append-drop, IfSome, reverse, slice_get}
use Rattle.line_lists.proofs.Common.{cases_lt, drop-drop, reverse-append, slice_get_within, LineContent, Copied}
use Rattle.line_lists.proofs.Common.{Reached, Stop, BeginsBy, IsDraft, IsFound, IsReached, IsSeen, IsStop, IsTaken}
use Rattle.line_lists.proofs.Common.{StandsAt, copies_of, covered, drafted, drafted_at, in_order, line_start}
use Rattle.line_lists.proofs.Common.{lines_before, made_lines, place_of, taken_lines, used, Holds, whole}
use Rattle.line_lists.specs.declared.drafts.Seen.{Seen}
use Rattle.line_lists.proofs.CountRows.{count-characters}
use Rattle.line_lists.proofs.DraftLaws.{copies-snoc, counted-between, drafted-append, length-whole, made-snoc, none_at}
use Rattle.line_lists.proofs.DraftLaws.{start-is, stops-end, stops-front, stops-last, stops-snoc, take-more}
use Rattle.line_lists.proofs.DraftLaws.{used-append}
use Rattle.line_lists.proofs.PlaceRows.{split_at}
use Rattle.line_lists.proofs.WholeLaws.{whole-one}

-- where lines begin
abbrev pub begin : List LineContent → ℕ → ℕ
begin lines line = length (whole (take line lines)).columns

pub begin-more : (lines : List LineContent) (n k : ℕ) → begin lines (n + k)
    ≡ begin lines n + length (whole (take k (drop n lines))).columns
begin-more lines n k = sym (count-characters (take (n + k) lines)) ∙ counted-between n k lines
    ∙ ap (λ m. m + length (whole (take k (drop n lines))).columns) (count-characters (take n lines))

pub begin-rises : (lines : List LineContent) (i j : ℕ) → i ≤ j → begin lines i ≤ begin lines j
begin-rises lines i j ordered =
    let more = begin-more lines i (j - i) in
    let same : begin lines (i + (j - i)) ≡ begin lines j = ap (begin lines) (let n : i + (j - i) ≡ j = omega arith in
    n) in
    omega (arith, more, same)

-- where a line ends
begin_after : (lines : List LineContent) (n : ℕ) (line : LineContent) → slice_get lines n ≡ Some line →
    begin lines (suc n) ≡ begin lines n + length line.columns
begin_after [] n line is = let no : ◌≡◌ {A = Option LineContent} None (Some line) = is in absurd (cc)
begin_after (x ∷ xs) zero line is = let same : x ≡ line = cc in
    omega (arith, length-append x.columns [], ap (λ (y : LineContent). length y.columns) same)
begin_after (x ∷ xs) (suc n) line is = omega (
  arith,
  begin_after xs n line is,
  length-append x.columns (whole (take (suc n) xs)).columns,
  length-append x.columns (whole (take n xs)).columns,
)

pub begin-next : (lines : List LineContent) (n : ℕ) (line : LineContent) → slice_get lines n ≡ Some line →
    begin lines (n + 1) ≡ begin lines n + length line.columns
begin-next lines n line is =
    ap (begin lines) (let same : n + 1 ≡ suc n = omega arith in same) ∙ begin_after lines n line is

line_ends : (lines : List LineContent) (line column : ℕ) (here : Option LineContent) → slice_get lines line ≡ here →
    line < length lines → IfSome here (λ (x : LineContent). column < length x.columns)
    → begin lines line + column < begin lines (line + 1)
line_ends lines line column None is within inside = absurd (omega (arith, within, none_at lines line is))
line_ends lines line column (Some x) is within inside = omega (arith, inside, begin-next lines line x is)

pub found : (reached : Reached) (lines : List LineContent) (offset place line column : ℕ) →
    reached.characters ≤ offset → place ≡ offset - reached.characters + begin lines reached.used
    → Holds lines place line column → IsFound reached lines offset line column
found reached lines offset place line column behind place_is holds =
    let ends = line_ends lines line column (slice_get lines line) refl holds.within holds.inside in
    record {
      first = elim (cases_lt line reached.used) [
        | inl before ↦ absurd (let rises = begin-rises lines (line + 1) reached.used (omega (arith, before)) in
            omega (arith, rises, ends, holds.behind, place_is))
        | inr behind ↦ behind
      ];
      within = holds.within;
      place = omega (arith, holds.behind, place_is, behind);
      inside = holds.inside;
    }

-- the line that was found last holds each place from its start up to its end
pub seen-holds : (lines : List LineContent) (seen : Seen) (place : ℕ) → IsSeen lines seen → seen.start ≤ place →
    place - seen.start < length seen.line.now.columns → Holds lines place seen.index (place - seen.start)
seen-holds lines seen place is begun inside = record {
  behind = omega (arith, is.start, begun);
  inside = subst (λ here. IfSome here (λ (x : LineContent). place - seen.start < length x.columns)) (sym is.line)
      inside;
  within = slice_get_within lines seen.index seen.line.now is.line;
}

-- the line behind it begins where it ends
pub seen-next : (lines : List LineContent) (seen : Seen) → IsSeen lines seen → (seen.index < length lines)
    × (seen.start + length seen.line.now.columns ≡ begin lines (seen.index + 1))
seen-next lines seen is = (
  slice_get_within lines seen.index seen.line.now is.line,
  ap (λ n. n + length seen.line.now.columns) is.start ∙ sym (begin-next lines seen.index seen.line.now is.line),
)

-- what holds of the lines and copies of a draft still holds where all are the same
pub still : (P : List LineContent → List Stop → List Copied → Type 0) (lines same : List LineContent)
    (front front₂ : List Stop) (back back₂ : List Copied) → same ≡ lines → front₂ ≡ front → back₂ ≡ back →
    P lines front back → P same front₂ back₂
still P lines same front front₂ back back₂ list before behind holds =
    subst (λ xs. P xs front₂ back₂) (sym list)
    (subst (λ stops. P lines stops back₂) (sym before) (subst (P lines front) (sym behind) holds))

-- ---- a copy at its place
pub slice_get-drop : {A : Type 0} (u b : ℕ) (xs : List A) → slice_get (drop u xs) b ≡ slice_get xs (u + b)
slice_get-drop zero b xs = ap (slice_get xs) (let same : b ≡ 0 + b = omega arith in same)
slice_get-drop (suc u) b [] = refl
slice_get-drop (suc u) b (x ∷ xs) =
    slice_get-drop u b xs ∙ sym (ap (slice_get (x ∷ xs)) (let same : suc u + b ≡ suc (u + b) = omega arith in same))

pub drop_after : {A : Type 0} (xs : List A) (n : ℕ) (x : A) → slice_get xs n ≡ Some x → drop n xs ≡ x ∷ drop (suc n) xs
drop_after {A = A} [] n x is = let no : ◌≡◌ {A = Option A} None (Some x) = is in absurd (cc)
drop_after (y ∷ ys) zero x is = let same : y ≡ x = cc in ap (λ z. z ∷ ys) same
drop_after (y ∷ ys) (suc n) x is = drop_after ys n x is

-- the lines with a copy behind the others that stand before the place
pub taken-is : (lines : List LineContent) (front : List Stop) (back : List Copied) (stop : Stop) →
    drafted_at lines (front ++ stop ∷ []) back ≡ taken_lines lines front back stop.copy
taken-is lines front back stop =
    let copies = copies_of front in
    let copy = stop.copy in
    let before = made_lines copies lines in
    let kept = take copy.kept (drop (used copies) lines) in
    let behind = drafted (reverse back) (drop (used copies + covered copy) lines) in
    ap (λ xs. drafted (xs ++ reverse back) lines) (copies-snoc front stop)
    ∙ drafted-append (copies ++ copy ∷ []) (reverse back) lines
    ∙ ap₂ (λ xs n. xs ++ drafted (reverse back) (drop n lines)) (made-snoc copies copy lines
    ∙ sym (append_assoc before kept (copy.line ∷ [])))
    (let same : used (copies ++ copy ∷ []) ≡ used copies
    + covered copy = omega (arith, used-append copies (copy ∷ [])) in same)
    ∙ append_assoc (before ++ kept) (copy.line ∷ []) behind

pub put-back : (lines : List LineContent) (front : List Stop) (back : List Copied) (stop : Stop) →
    IsTaken lines front back stop → length (whole (taken_lines lines front back stop.copy)).columns < 2 ^ 64
    → IsDraft lines (front ++ stop ∷ []) back
put-back lines front back stop taken small =
    let copies = copies_of front in
    let order : in_order (front ++ stop ∷ []) back ≡ (copies ++ stop.copy ∷ [])
    ++ reverse back = ap (λ xs. xs ++ reverse back) (copies-snoc front stop) in
    record {
      stops = stops-snoc lines [] front stop taken.stops taken.placed;
      there = omega (
        arith,
        taken.there,
        ap used order,
        used-append (copies ++ stop.copy ∷ []) (reverse back),
        used-append copies (stop.copy ∷ []),
      );
      counted = subst (λ xs. length (whole xs).columns < 2 ^ 64) (sym (taken-is lines front back stop)) small;
    }

pub taken-last : (lines : List LineContent) (front : List Stop) (back : List Copied) (stop : Stop) →
    IsDraft lines (front ++ stop ∷ []) back → IsTaken lines front back stop
taken-last lines front back stop draft =
    let copies = copies_of front in
    let order : in_order (front ++ stop ∷ []) back ≡ (copies ++ stop.copy ∷ [])
    ++ reverse back = ap (λ xs. xs ++ reverse back) (copies-snoc front stop) in
    record {
      stops = stops-front lines [] front stop draft.stops;
      placed = stops-end lines [] front stop draft.stops;
      there = omega (
        arith,
        draft.there,
        ap used order,
        used-append (copies ++ stop.copy ∷ []) (reverse back),
        used-append copies (stop.copy ∷ []),
      );
    }

-- a kept line is copied before the next copy
pub opened_next : (rest : List LineContent) (b : ℕ) (line : LineContent) (next less : Copied) (cs : List Copied) →
    slice_get rest b ≡ Some line → b < next.kept
    → less.kept ≡ next.kept - (b + 1) → less.gone ≡ next.gone → less.line ≡ next.line
    → drafted (next ∷ cs) rest ≡ take b rest ++ line ∷ drafted (less ∷ cs) (drop (b + 1) rest)
opened_next rest b line next less cs is small kept gone same =
    let others = drop (b + 1) rest in
    let one : suc b ≡ b + 1 = omega arith in
    let first : take next.kept rest ≡ take b rest ++ line ∷ take less.kept others =
    ap (λ n. take n rest) (let n : next.kept ≡ b + (next.kept - b) = omega (arith, small) in n)
    ∙ take-more b (next.kept - b) rest
    ∙ ap (λ xs. take b rest ++ xs)
    (ap₂ take (let n : next.kept - b ≡ suc less.kept = omega (arith, small, kept) in n) (drop_after rest b line is)
    ∙ ap (λ n. line ∷ take less.kept (drop n rest)) one) in
    let covers : covered next ≡ (b + 1) + covered less = omega (arith, small, kept, gone) in
    let second : drop (covered next) rest ≡ drop (covered less) others = ap (λ n. drop n rest) covers
    ∙ sym (drop-drop (covered less) (b + 1) rest) in
    let third : drop (covered next + used cs) rest ≡ drop (covered less + used cs) others =
    ap (λ n. drop n rest) (let n : covered next + used cs
    ≡ (b + 1) + (covered less + used cs) = omega (arith, covers) in n)
    ∙ sym (drop-drop (covered less + used cs) (b + 1) rest) in
    let behind = less.line ∷ made_lines cs (drop (covered less) others) in
    ap₂ (λ xs ys. xs ++ ys) (ap₂ (λ xs ys. xs ++ ys) first (ap₂ (λ l ys. l ∷ made_lines cs ys) (sym same) second)) third
    ∙ ap (λ xs. xs ++ drop (covered less + used cs) others)
    (append_assoc (take b rest) (line ∷ take less.kept others) behind)
    ∙ append_assoc (take b rest) ((line ∷ take less.kept others) ++ behind) (drop (covered less + used cs) others)

-- where the line of the last copy ends
pub made-ends : (lines : List LineContent) (copies : List Copied) (copy : Copied)
    → length (whole (made_lines (copies ++ copy ∷ []) lines)).columns
    ≡ length (whole (lines_before copies copy lines)).columns + length copy.line.columns
made-ends lines copies copy =
    ap (λ xs. length (whole xs).columns) (made-snoc copies copy lines
    ∙ sym (append_assoc (made_lines copies lines) (take copy.kept (drop (used copies) lines)) (copy.line ∷ [])))
    ∙ length-whole (lines_before copies copy lines) (copy.line ∷ [])
    ∙ ap (λ (line : LineContent). length (whole (lines_before copies copy lines)).columns + length line.columns)
    (whole-one copy.line)

-- where it begins
pub last-starts : (lines : List LineContent) (front before : List Stop) (back : List Copied) (stop : Stop) (end : ℕ) →
    IsDraft lines front back → front ≡ before ++ stop ∷ [] → end ≡ place_of lines front
    → line_start stop.reached stop.copy lines + length stop.copy.line.columns ≡ end
last-starts lines front before back stop end draft is end_is =
    let stops = (subst (λ items. IsDraft lines items back) is draft).stops in
    omega (
      arith,
      end_is,
      ap (place_of lines) is,
      start-is lines (copies_of before) stop.reached stop.copy (stops-last lines [] before stop stops),
      ap (λ copies. length (whole (made_lines copies lines)).columns) (copies-snoc before stop),
      made-ends lines (copies_of before) stop.copy,
    )

-- the last copy before the place, whose line is of so many characters and holds an offset
pub record IsLast (lines : List LineContent) (before : List Stop) (stop : Stop) (offset end len : ℕ) : Type 0 where
  pub reached : IsReached stop.reached (copies_of before) lines
  pub start : end ≡ line_start stop.reached stop.copy lines + len
  pub begun : line_start stop.reached stop.copy lines ≤ offset
  pub stands : StandsAt lines before stop.copy offset (offset - (end - len))

pub the-last : (lines : List LineContent) (front before : List Stop) (back : List Copied) (stop : Stop)
    (offset end len : ℕ) → IsDraft lines front back → front ≡ before ++ stop ∷ [] → BeginsBy lines offset front
    → end ≡ place_of lines front → offset < end → len ≡ length stop.copy.line.columns →
    IsLast lines before stop offset end len
the-last lines front before back stop offset end len draft is begins end_is within long =
    let reached = stops-last lines [] before stop (subst (λ items. IsDraft lines items back) is draft).stops in
    let start = start-is lines (copies_of before) stop.reached stop.copy reached in
    let ends = last-starts lines front before back stop end draft is end_is in
    let begun = begins before stop is in
    record {
      reached = reached;
      start = omega (arith, ends, long);
      begun = omega (arith, start, begun);
      stands = record {
        place = omega (arith, ends, long, start, begun);
        inside = omega (arith, ends, long, start, begun);
      };
    }

-- an offset behind all copies lies in the rest of the list
pub rest-within : (lines : List LineContent) (front : List Stop) (reached : Reached) (offset : ℕ) →
    IsReached reached (copies_of front) lines → offset < length (whole (drafted_at lines front [])).columns
    → offset + begin lines reached.used < reached.characters + length (whole lines).columns
rest-within lines front reached offset is within =
    let copies = copies_of front in
    let rest = drop (used copies) lines in
    let all = ap (λ xs. length (whole xs).columns) (drafted-append copies [] lines)
    ∙ length-whole (made_lines copies lines) rest in
    let whole_is = ap (λ xs. length (whole xs).columns) (sym (take-append-drop (used copies) lines))
    ∙ length-whole (take (used copies) lines) rest in
    omega (arith, within, all, whole_is, is.characters, ap (begin lines) is.used)

-- an offset before the next copy lies before it in the list
pub kept-within : (lines : List LineContent) (front : List Stop) (reached : Reached) (next : Copied) (offset : ℕ) →
    IsReached reached (copies_of front) lines
    → offset < length (whole (lines_before (copies_of front) next lines)).columns →
    offset + begin lines reached.used < reached.characters + begin lines (reached.used + next.kept)
kept-within lines front reached next offset is within =
    omega (arith, within, start-is lines (copies_of front) reached next is, begin-more lines reached.used next.kept)

pub begin-le : (lines : List LineContent) (n : ℕ) → begin lines n ≤ length (whole lines).columns
begin-le lines n = let all = ap (λ xs. length (whole xs).columns) (sym (take-append-drop n lines))
    ∙ length-whole (take n lines) (drop n lines) in omega (arith, all)

-- the line that is found stands before the next copy
pub found-before : (reached : Reached) (lines : List LineContent) (next : Copied) (offset line column : ℕ) →
    IsFound reached lines offset line column
    → offset + begin lines reached.used < reached.characters + begin lines (reached.used + next.kept) →
    line - reached.used < next.kept
found-before reached lines next offset line column find within =
    elim (cases_lt (line - reached.used) next.kept) [
      | inl before ↦ before
      | inr behind ↦ absurd (let rises = begin-rises lines (reached.used + next.kept) line
          (omega (arith, behind, find.first)) in omega (arith, rises, find.place, within))
    ]

-- a kept line that holds an offset, and its copy
pub record IsKept (lines : List LineContent) (front : List Stop) (reached : Reached) (offset line column : ℕ)
    (here : LineContent) : Type 0 where
  pub so_far : IsReached reached (copies_of front) lines
  pub found : IsFound reached lines offset line column
  pub get : slice_get lines line ≡ Some here

abbrev pub opened : Reached → ℕ → LineContent → Copied
opened reached line here = record { kept = line - reached.used; gone = 1; line = here }

module _ {lines : List LineContent} {front : List Stop} {reached : Reached} {offset line column : ℕ}
    {here : LineContent} (is : IsKept lines front reached offset line column here) where
  abbrev copies : List Copied
  copies = copies_of front

  abbrev copy : Copied
  copy = opened reached line here

  abbrev rest : List LineContent
  rest = drop (used copies) lines

  in_rest : slice_get rest copy.kept ≡ Some here
  in_rest = slice_get-drop (used copies) copy.kept lines
      ∙ ap (slice_get lines) (let n : used copies + copy.kept ≡ line = omega (arith, is.found.first, is.so_far.used) in
      n)
      ∙ is.get

  behind_it : drop (used copies + covered copy) lines ≡ drop (copy.kept + 1) rest
  behind_it = sym (drop-drop (copy.kept + 1) (used copies) lines)

  -- behind all copies
  pub opened-rest : taken_lines lines front [] copy ≡ drafted_at lines front []
  opened-rest =
      let before = made_lines copies lines in
      ap (λ xs. (before ++ take copy.kept rest) ++ here ∷ xs) behind_it
      ∙ append_assoc before (take copy.kept rest) (here ∷ drop (copy.kept + 1) rest)
      ∙ ap (λ xs. before ++ xs) (sym (split_at rest copy.kept here in_rest
      ∙ ap (λ n. take copy.kept rest ++ here ∷ drop n rest) (let same : suc copy.kept
      ≡ copy.kept + 1 = omega arith in same)))
      ∙ sym (drafted-append copies [] lines)

  -- it stands before the next copy where the offset does
  pub opened-before : (next : Copied) → offset < length (whole (lines_before copies next lines)).columns →
      copy.kept < next.kept
  opened-before next ahead = found-before reached lines next offset line column is.found
      (kept-within lines front reached next offset is.so_far ahead)

  pub opened-kept : (back : List Copied) (next less : Copied) → copy.kept < next.kept →
      less.kept ≡ next.kept - (copy.kept + 1) → less.gone ≡ next.gone → less.line ≡ next.line
      → taken_lines lines front (back ++ less ∷ []) copy ≡ drafted_at lines front (back ++ next ∷ [])
  opened-kept back next less small kept gone same =
      let before = made_lines copies lines in
      ap₂ (λ xs ys. (before ++ take copy.kept rest) ++ here ∷ drafted xs ys) (reverse-append back (less ∷ [])) behind_it
      ∙ append_assoc before (take copy.kept rest) (here ∷ drafted (less ∷ reverse back) (drop (copy.kept + 1) rest))
      ∙ ap (λ xs. before ++ xs)
      (sym (opened_next rest copy.kept here next less (reverse back) in_rest small kept gone same))
      ∙ sym (ap (λ xs. drafted (copies ++ xs) lines) (reverse-append back (next ∷ []))
      ∙ drafted-append copies (next ∷ reverse back) lines)

  pub opened-stands : StandsAt lines front copy offset column
  opened-stands =
      let more = begin-more lines reached.used copy.kept in
      let same : begin lines (reached.used + copy.kept)
      ≡ begin lines line = ap (begin lines) (let n : reached.used + copy.kept ≡ line = omega (arith, is.found.first) in
      n) in
      record {
        place = omega (arith, start-is lines copies reached copy is.so_far, more, same, is.found.place);
        inside = subst (λ x. IfSome x (λ (y : LineContent). column < length y.columns)) is.get is.found.inside;
      }

  -- its line begins so many characters before the offset
  pub opened-stop : IsStop (record { reached = reached; start = offset - column; copy = copy }) copies lines
  opened-stop = record {
    reached = is.so_far;
    start = omega (arith, opened-stands.place, start-is lines copies reached copy is.so_far);
  }

-- what copies cover is there
pub reached-there : (lines : List LineContent) (front : List Stop) (back : List Copied) (reached : Reached) →
    IsDraft lines front back → IsReached reached (copies_of front) lines → reached.used ≤ length lines
reached-there lines front back reached draft is =
    omega (arith, is.used, draft.there, used-append (copies_of front) (reverse back))

pub taken-kept : (lines : List LineContent) (front : List Stop) (back : List Copied) (stop : Stop)
    (next less : Copied) → IsDraft lines front (back ++ next ∷ []) → IsStop stop (copies_of front) lines
    → stop.copy.gone ≡ 1 → stop.copy.kept < next.kept → less.kept ≡ next.kept - (stop.copy.kept + 1) →
    less.gone ≡ next.gone → IsTaken lines front (back ++ less ∷ []) stop
taken-kept lines front back stop next less draft placed one small kept gone = record {
  stops = draft.stops;
  placed = placed;
  there = omega (
    arith,
    draft.there,
    one,
    small,
    kept,
    gone,
    used-append (copies_of front) (reverse (back ++ next ∷ [])),
    ap used (reverse-append back (next ∷ [])),
    ap used (reverse-append back (less ∷ [])),
  );
}
