-- The slots that are on in a draft, and its lines without the toggles of a slot.
use Rattle.line_lists.proofs.Common.{◌≡◌, ℕ, zero, suc, ◌+◌, ◌-◌, ◌<◌, ◌≤◌, ◌^◌, min, Bool, true, false, List, [], ◌∷◌}
use Rattle.line_lists.proofs.Common.{◌++◌, Option, None, Some, length, get_or, map, take, drop, inl, inr, refl, sym, ap}
use Rattle.line_lists.proofs.Common.{ap₂, subst, ◌∙◌, arith, append_assoc, length-append, length-drop, length-take}
use Rattle.line_lists.proofs.Common.{take-append-drop, IfSome, if◌then◌else◌, reverse, slice_get, unwrap_or, cases_lt}
use Rattle.line_lists.proofs.Common.{or_parts, append-nil, drop-drop, drop-map, get_or-drop, get_or-take, map-append}
use Rattle.line_lists.proofs.Common.{reverse-append, take-append-le, take-map, take-take, take_all, slice_get-get_or}
use Rattle.line_lists.proofs.Common.{take-append-add, differing, changed, changed-append_right, changed-same}
use Rattle.line_lists.proofs.Common.{length-changed, map-changed, presence, Column, LineContent, characters, joined}
use Rattle.line_lists.proofs.Common.{plain_line, toggles, with_toggle, Copied, Reached, Stop, AreFree, free_end}
use Rattle.line_lists.proofs.Common.{free_length, lines_on, BeginsBehind, IsDraft, IsReached, IsTaken, IsText, StandsAt}
use Rattle.line_lists.proofs.Common.{copies_of, covered, drafted, drafted_at, lines_before, lines_behind, made_lines}
use Rattle.line_lists.proofs.Common.{taken_lines, text_at, tags_after, used, place_of, with_cleared, AreRows}
use Rattle.line_lists.proofs.Common.{has_toggle, next_line, whole, cleared, tags_left_of}
use Rattle.segments.proofs.ChangeLaws.{changed-first, changed-next, slots_kept}
use Rattle.line_lists.proofs.DraftLaws.{behind-whole, can-follow-next, copies-snoc, drafted-append, last_is, last_same}
use Rattle.line_lists.proofs.DraftLaws.{length-whole, stop_of, no_last, none_at, take-more, used-append}
use Rattle.line_lists.proofs.FindLaws.{IsKept, begin-le, drop_after, kept-within, made-ends, opened, opened-before}
use Rattle.line_lists.proofs.FindLaws.{opened-kept, opened-rest, opened-stands, put-back, rest-within, slice_get-drop}
use Rattle.line_lists.proofs.FindLaws.{taken-is}
use Rattle.line_lists.proofs.RowLaws.{Makes, rows-changed, whole-around}
use Rattle.line_lists.proofs.SearchRows.{FailFrom, found-next, none-next}
use Rattle.line_lists.proofs.TagLaws.{behind-append}
use Rattle.line_lists.proofs.ToggleColumns.{presence-cons}
use Rattle.line_lists.proofs.WholeLaws.{whole-append, with_cleared-between}
use Rattle.std.specs.FinSet as set

-- ---- the slots that are on behind so many characters
-- what stands before a column of a line
take-around : (before behind : List LineContent) (line : LineContent) (offset column : ℕ) →
    offset ≡ length (whole before).columns + column → column ≤ length line.columns
    → take offset (whole (before ++ line ∷ behind)).columns ≡ (whole before).columns ++ take column line.columns
take-around before behind line offset column place inside =
    ap₂ (λ n (text : LineContent). take n text.columns) place (whole-around before behind line)
    ∙ take-append-add (whole before).columns (line.columns ++ (whole behind).columns) column
    ∙ ap (λ part. (whole before).columns ++ part) (take-append-le column line.columns (whole behind).columns inside)

pub tags-around : (before behind old : List LineContent) (line : LineContent) (offset column : ℕ) →
    before ++ line ∷ behind ≡ old → offset ≡ length (whole before).columns + column → column ≤ length line.columns
    → tags_left_of (take offset (whole old).columns)
    ≡ differing (tags_left_of (whole before).columns) (tags_left_of (take column line.columns))
tags-around before behind old line offset column old_is place inside =
    ap (λ lines. tags_left_of (take offset (whole lines).columns)) (sym old_is)
    ∙ ap tags_left_of (take-around before behind line offset column place inside)
    ∙ behind-append (whole before).columns (take column line.columns)

-- the slots that are on where the line of a copy begins
pub tags-before : (lines : List LineContent) (copies : List Copied) (reached : Reached) (copy : Copied) →
    IsReached reached copies lines
    → tags_left_of (whole (lines_before copies copy lines)).columns
    ≡ differing (tags_left_of (whole (made_lines copies lines)).columns)
    (tags_left_of (whole (take copy.kept (drop reached.used lines))).columns)
tags-before lines copies reached copy is =
    let before = tags_left_of (whole (made_lines copies lines)).columns in
    behind-whole (made_lines copies lines) (take copy.kept (drop (used copies) lines))
    ∙ ap (λ n. differing before (tags_left_of (whole (take copy.kept (drop n lines))).columns)) (sym is.used)

-- of a line that stands in a draft
tags-stands : (lines old : List LineContent) (front : List Stop) (back : List Copied) (reached : Reached)
    (copy : Copied) (offset column : ℕ) → IsReached reached (copies_of front) lines
    → taken_lines lines front back copy ≡ old → StandsAt lines front copy offset column
    → tags_left_of (take offset (whole old).columns)
    ≡ differing (differing (tags_after lines front)
    (tags_left_of (whole (take copy.kept (drop reached.used lines))).columns))
    (tags_left_of (take column copy.line.columns))
tags-stands lines old front back reached copy offset column is same stands =
    let copies = copies_of front in
    tags-around (lines_before copies copy lines) (lines_behind copies copy back lines) old copy.line offset column same
    stands.place (omega (arith, stands.inside))
    ∙ ap (λ slots. differing slots (tags_left_of (take column copy.line.columns)))
    (tags-before lines copies reached copy is)

-- in the line of the last copy before the place
pub copied-tags : (lines : List LineContent) (before : List Stop) (back : List Copied) (stop : Stop) (offset column : ℕ)
    → IsReached stop.reached (copies_of before) lines → StandsAt lines before stop.copy offset column
    → tags_left_of (take offset (whole (drafted_at lines (before ++ stop ∷ []) back)).columns)
    ≡ differing (differing (tags_after lines before)
    (tags_left_of (whole (take stop.copy.kept (drop stop.reached.used lines))).columns))
    (tags_left_of (take column stop.copy.line.columns))
copied-tags lines before back stop offset column is stands =
    tags-stands lines (drafted_at lines (before ++ stop ∷ []) back) before back stop.reached stop.copy offset column is
    (sym (taken-is lines before back stop)) stands

-- ---- a kept line before the next copy, if there is one
module _ (lines : List LineContent) (front : List Stop) (reached : Reached) (offset : ℕ)
    (is : IsReached reached (copies_of front) lines) where
  ends : (back : List Copied) (last : Option Copied) → last ≡ slice_get back (length back - 1) →
      BeginsBehind lines offset front back → offset < length (whole (drafted_at lines front back)).columns
      → offset + length (whole (take reached.used lines)).columns < reached.characters + length (whole lines).columns
  ends back None last ahead within =
      rest-within lines front reached offset is
      (subst (λ copies. offset < length (whole (drafted_at lines front copies)).columns) (no_last back last) within)
  ends back (Some next) last ahead within =
      omega (
        arith,
        kept-within lines front reached next offset is (ahead _ next (last_is back next last)),
        begin-le lines (reached.used + next.kept),
      )

  pub kept-ends : (back : List Copied) → BeginsBehind lines offset front back →
      offset < length (whole (drafted_at lines front back)).columns
      → offset + length (whole (take reached.used lines)).columns < reached.characters + length (whole lines).columns
  kept-ends back ahead within = ends back (slice_get back (length back - 1)) refl ahead within

  module _ (line column : ℕ) (here : LineContent) (kept : IsKept lines front reached offset line column here) where
    tags : (back : List Copied) (last : Option Copied) → last ≡ slice_get back (length back - 1) →
        BeginsBehind lines offset front back
        → tags_left_of (take offset (whole (drafted_at lines front back)).columns)
        ≡ differing (differing (tags_after lines front)
        (tags_left_of (whole (take (line - reached.used) (drop reached.used lines))).columns))
        (tags_left_of (take column here.columns))
    tags back None last ahead =
        tags-stands lines (drafted_at lines front back) front [] reached (opened reached line here) offset column is
        (opened-rest kept ∙ ap (drafted_at lines front) (sym (no_last back last))) (opened-stands kept)
    tags back (Some next) last ahead =
        let behind = take (length back - 1) back in
        let back_is = last_is back next last in
        let less : Copied = record next { kept = next.kept - (line - reached.used + 1) } in
        let small = opened-before kept next (ahead behind next back_is) in
        let same = opened-kept kept behind next less small refl refl refl
        ∙ ap (drafted_at lines front) (sym back_is) in
        tags-stands lines (drafted_at lines front back) front (behind ++ less ∷ []) reached (opened reached line here)
        offset column is same (opened-stands kept)

    pub kept-tags : (back : List Copied) → BeginsBehind lines offset front back
        → tags_left_of (take offset (whole (drafted_at lines front back)).columns)
        ≡ differing (differing (tags_after lines front)
        (tags_left_of (whole (take (line - reached.used) (drop reached.used lines))).columns))
        (tags_left_of (take column here.columns))
    kept-tags back ahead = tags back (slice_get back (length back - 1)) refl ahead

-- ---- a slot is toggled nowhere in a part
changed-none : {A : Type 0} (f : A → A) (n : ℕ) (xs : List A) → changed f n n xs ≡ xs
changed-none f n xs =
    ap (λ k. take n xs ++ map f (take k (drop n xs)) ++ drop n xs) (let same : n - n ≡ 0 = omega arith in same)
    ∙ ap (λ front. front ++ drop n xs) (append-nil (take n xs)) ∙ take-append-drop n xs

-- a part, and the one that follows
changed-both : {A : Type 0} (f : A → A) (from middle to : ℕ) (xs : List A) → from ≤ middle → middle ≤ to →
    to ≤ length xs
    → changed f middle to (changed f from middle xs) ≡ changed f from to xs
changed-both f zero zero to xs first second within = ap (changed f 0 to) (changed-none f 0 xs)
changed-both f zero (suc middle) zero xs first second within = absurd (omega (arith, second))
changed-both f zero (suc middle) (suc to) [] first second within = absurd (omega (arith, within))
changed-both f zero (suc middle) (suc to) (x ∷ xs) first second within =
    ap (changed f (suc middle) (suc to)) (changed-first f middle x xs)
    ∙ changed-next f middle to (f x) (changed f 0 middle xs)
    ∙ ap (λ ys. f x ∷ ys) (changed-both f 0 middle to xs (omega arith) (omega (arith, second)) (omega (arith, within)))
    ∙ sym (changed-first f to x xs)
changed-both f (suc from) zero to xs first second within = absurd (omega (arith, first))
changed-both f (suc from) (suc middle) zero xs first second within = absurd (omega (arith, second))
changed-both f (suc from) (suc middle) (suc to) [] first second within = absurd (omega (arith, within))
changed-both f (suc from) (suc middle) (suc to) (x ∷ xs) first second within =
    ap (changed f (suc middle) (suc to)) (changed-next f from middle x xs)
    ∙ changed-next f middle to x (changed f from middle xs)
    ∙ ap (λ ys. x ∷ ys) (changed-both f from middle to xs (omega (arith, first)) (omega (arith, second))
    (omega (arith, within)))
    ∙ sym (changed-next f from to x xs)

-- a part that stays as it is behind others
changed-kept : {A : Type 0} (f : A → A) (n m : ℕ) (front xs : List A) → n ≡ length front + m →
    map f (take m xs) ≡ take m xs → changed f (length front) n (front ++ xs) ≡ front ++ xs
changed-kept f n m front xs is same =
    ap₂ (λ a b. changed f a b (front ++ xs)) (let start : length front ≡ length front + 0 = omega arith in start) is
    ∙ changed-append_right f 0 m front xs
    ∙ ap (λ k. front ++ (map f (take k xs) ++ drop m xs)) (let all : m - 0 ≡ m = omega arith in all)
    ∙ ap (λ part. front ++ (part ++ drop m xs)) same
    ∙ ap (λ ys. front ++ ys) (take-append-drop m xs)

-- columns without a toggle of a slot stay where it is cleared
clear_kept : (slot : ℕ) (columns : List Column) → set.contains (presence (toggles columns)) slot ≡ false →
    map (with_toggle slot false) columns ≡ columns
clear_kept slot [] free = refl
clear_kept slot (x ∷ xs) free =
    let none = or_parts _ _ (sym (presence-cons slot x xs) ∙ free) in
    ap₂ (λ slots (rest : List Column). record x { toggled = slots } ∷ rest)
    (sym (slots_kept slot false x.toggled none.0)) (clear_kept slot xs none.1)

-- a part that stays as it is where all of it would
changed-fixed : {A : Type 0} (f : A → A) (from to : ℕ) (xs : List A) → from ≤ to → map f xs ≡ xs →
    changed f from to xs ≡ xs
changed-fixed f from to xs ordered same =
    let part = take (to - from) (drop from xs) in
    let kept : map f part ≡ part =
    sym (take-map f (to - from) (drop from xs))
    ∙ ap (take (to - from)) (sym (drop-map f from xs) ∙ ap (drop from) same) in
    let rest : drop to xs ≡ drop (to - from) (drop from xs) =
    ap (λ n. drop n xs) (let sum : to ≡ from + (to - from) = omega (arith, ordered) in sum)
    ∙ sym (drop-drop (to - from) from xs) in
    ap₂ (λ here behind. (take from xs ++ here) ++ behind) kept rest
    ∙ append_assoc (take from xs) part (drop (to - from) (drop from xs))
    ∙ ap (λ ys. take from xs ++ ys) (take-append-drop (to - from) (drop from xs))
    ∙ take-append-drop from xs

-- so a line without a toggle of a slot is the same without those from one column to another
pub line-kept : (slot from to : ℕ) (line : LineContent) → from ≤ to → has_toggle slot line ≡ false →
    line ≡ with_cleared slot from to line
line-kept slot from to line ordered free =
    let columns = changed-fixed (with_toggle slot false) from to line.columns ordered
    (clear_kept slot line.columns free) in
    λ i. record { columns = sym columns i; marks = line.marks }

-- and so do lines up to the first one in which it is toggled
free_kept : (slot : ℕ) (lines : List LineContent) (test : Bool) (line : LineContent) → has_toggle slot line ≡ test
    → map (with_toggle slot false) (take (free_length slot lines) (whole lines).columns)
    ≡ take (free_length slot lines) (whole lines).columns
    → map (with_toggle slot false) (take (if test then 0
    else length line.columns + free_length slot lines) (whole (line ∷ lines)).columns)
    ≡ take (if test then 0 else length line.columns + free_length slot lines) (whole (line ∷ lines)).columns
free_kept slot lines true line is rest = refl
free_kept slot lines false line is rest =
    let some = take-append-add line.columns (whole lines).columns (free_length slot lines) in
    let clear = with_toggle slot false in
    ap (map clear) some ∙ map-append clear line.columns (take (free_length slot lines) (whole lines).columns)
    ∙ ap₂ (λ a b. a ++ b) (clear_kept slot line.columns is) rest ∙ sym some

free-kept : (slot : ℕ) (lines : List LineContent)
    → map (with_toggle slot false) (take (free_length slot lines) (whole lines).columns)
    ≡ take (free_length slot lines) (whole lines).columns
free-kept slot [] = refl
free-kept slot (line ∷ lines) = free_kept slot lines (has_toggle slot line) line refl (free-kept slot lines)

-- fewer of them
take_fewer : {A : Type 0} (f : A → A) (m n : ℕ) (xs : List A) → m ≤ n → map f (take n xs) ≡ take n xs →
    map f (take m xs) ≡ take m xs
take_fewer f m n xs few same =
    ap (map f) (sym (take-take m n xs few)) ∙ sym (take-map f m (take n xs)) ∙ ap (take m) same ∙ take-take m n xs few

free_cleared : (slot to : ℕ) (front : List Column) (lines : List LineContent)
    → cleared slot (min to (length front)) (min to (length front + free_length slot lines))
    (front ++ (whole lines).columns) ≡ front ++ (whole lines).columns
free_cleared slot to front lines =
    let n = free_length slot lines in
    let text = front ++ (whole lines).columns in
    elim (cases_lt (length front) to) [
      | inl behind ↦
          let end = min to (length front + n) in
          ap (λ a. cleared slot a end text) (let same : min to (length front) ≡ length front = omega (arith, behind) in
          same)
          ∙ changed-kept (with_toggle slot false) end (end - length front) front (whole lines).columns
          (omega (arith, behind))
          (take_fewer (with_toggle slot false) (end - length front) n (whole lines).columns (omega arith)
          (free-kept slot lines))
      | inr before ↦
          ap₂ (λ a b. cleared slot a b text) (let same : min to (length front) ≡ to = omega (arith, before) in
          same) (let same : min to (length front + n) ≡ to = omega (arith, before) in same)
          ∙ changed-none (with_toggle slot false) to text
    ]

-- from the place of a draft up to the next toggle
pub free-cleared : (slot to : ℕ) (lines : List LineContent) (front : List Stop) (back : List Copied)
    → with_cleared slot (min to (place_of lines front)) (min to (free_end slot lines front back))
    (text_at lines front back) ≡ text_at lines front back
free-cleared slot to lines front back =
    let copies = copies_of front in
    let made = whole (made_lines copies lines) in
    let rest = lines_on lines front back in
    let is : text_at lines front back ≡ joined made (whole rest) = ap whole (drafted-append copies (reverse back) lines)
    ∙ whole-append (made_lines copies lines) rest in
    let same : with_cleared slot (min to (place_of lines front)) (min to (free_end slot lines front back))
    (joined made (whole rest)) ≡ joined made (whole rest) =
    λ i. record { columns = free_cleared slot to made.columns rest i; marks = (joined made (whole rest)).marks } in
    ap (with_cleared slot (min to (place_of lines front)) (min to (free_end slot lines front back))) is ∙ same ∙ sym is

-- ---- clearing step by step
pub cleared-none : (slot at : ℕ) (text : LineContent) → with_cleared slot at at text ≡ text
cleared-none slot at text = λ i. record text { columns = changed-none (with_toggle slot false) at text.columns i }

pub cleared-both : (slot from middle to : ℕ) (text : LineContent) → from ≤ middle → middle ≤ to →
    to ≤ length text.columns
    → with_cleared slot middle to (with_cleared slot from middle text) ≡ with_cleared slot from to text
cleared-both slot from middle to text first second within =
    λ i. record text {
      columns = changed-both (with_toggle slot false) from middle to text.columns first second within
          i;
    }

-- a slot is cleared in the whole text by clearing it from where it is toggled first
pub cleared-all : (slot first len : ℕ) (lines : List LineContent) (front : List Stop) (back : List Copied) →
    front ≡ [] → first ≡ min len (free_end slot lines front back)
    → len ≡ length (text_at lines front back).columns → with_cleared slot first len (text_at lines front back)
    ≡ with_cleared slot 0 len (text_at lines front back)
cleared-all slot first len lines front back start first_is long =
    let text = text_at lines front back in
    let none : min len (place_of lines front) ≡ 0 = omega (arith, ap (place_of lines) start) in
    let free : with_cleared slot 0 first text ≡ text = ap₂ (λ a b. with_cleared slot a b text) (sym none) first_is
    ∙ free-cleared slot len lines front back in
    ap (with_cleared slot first len) (sym free)
    ∙ cleared-both slot 0 first len text (omega arith) (omega (arith, first_is)) (omega (arith, long))

pub length-cleared : (slot from to : ℕ) (text : LineContent) → from ≤ to → to ≤ length text.columns →
    length (with_cleared slot from to text).columns ≡ length text.columns
length-cleared slot from to text ordered within =
    length-changed (with_toggle slot false) from to text.columns ordered within

-- in one line
characters-cleared : (slot from to : ℕ) (columns : List Column) → from ≤ to →
    characters (cleared slot from to columns) ≡ characters columns
characters-cleared slot from to columns ordered =
    map-changed (λ (column : Column). column.character) (with_toggle slot false) (λ c. c) (λ column. refl) from to
    columns ∙ changed-same from to (characters columns) ordered

pub cleared-makes : (before behind old : List LineContent) (line new : LineContent) (offset column end slot : ℕ) →
    before ++ line ∷ behind ≡ old → offset ≡ length (whole before).columns + column
    → column ≤ end → end ≤ length line.columns → new ≡ with_cleared slot column end line →
    Makes (with_cleared slot offset (length (whole before).columns + end)) old (before ++ new ∷ behind)
cleared-makes before behind old line new offset column end slot old_is place ordered within new_is =
    let start = length (whole before).columns in record {
      rows = λ rows. subst (λ x. AreRows (before ++ x ∷ behind)) (sym new_is)
          (rows-changed before behind line (with_cleared slot column end line)
          (characters-cleared slot column end line.columns ordered) refl (subst AreRows (sym old_is) rows));
      whole =
          ap (λ x. whole (before ++ x ∷ behind)) new_is ∙ whole-around before behind (with_cleared slot column end line)
          ∙ sym (with_cleared-between slot column end (whole before) line (whole behind) ordered within)
          ∙ ap₂ (λ n xs. with_cleared slot n (start + end) xs) (sym place) (sym (whole-around before behind line)
          ∙ ap whole old_is);
    }

-- ---- lines in which a slot is toggled nowhere
free_by : (slot : ℕ) (lines : List LineContent) →
    ((j : ℕ) → j < length lines → has_toggle slot (get_or lines j (plain_line [])) ≡ false) → AreFree slot lines
free_by slot [] fails = tt
free_by slot (line ∷ lines) fails =
    (fails 0 (omega arith), free_by slot lines (λ j small. fails (suc j) (omega (arith, small))))

free_part : (slot from end : ℕ) (lines : List LineContent) → FailFrom (has_toggle slot) lines from end →
    AreFree slot (take (end - from) (drop from lines))
free_part slot from end lines fails =
    let n = end - from in
    free_by slot (take n (drop from lines)) (λ j small.
    let below : j < n = omega (arith, small, length-take n (drop from lines)) in
    ap (has_toggle slot) (get_or-take n (drop from lines) j (plain_line []) below
    ∙ get_or-drop from lines j (plain_line []))
    ∙ fails (from + j) (omega arith) (omega (arith, below)))

-- the line that is found, or the end
module _ (slot from end : ℕ) (lines : List LineContent) (within : end ≤ length lines) where
  pub below-free : (found : Option ℕ) → found ≡ next_line (has_toggle slot) from lines →
      AreFree slot (take (min (unwrap_or found end) end - from) (drop from lines))
  below-free None is =
      let fails = none-next (plain_line []) (has_toggle slot) from lines (sym is) in
      free_part slot from (min end end) lines (λ j more less. fails j more (omega (arith, less, within)))
  below-free (Some k) is =
      let next = found-next (plain_line []) (has_toggle slot) from lines k (sym is) in
      free_part slot from (min k end) lines (λ j more less. next.free j more (omega (arith, less)))

  pub below-stops : (found : Option ℕ) → found ≡ next_line (has_toggle slot) from lines →
      min (unwrap_or found end) end < end
      → IfSome (slice_get lines (min (unwrap_or found end) end)) (λ (line : LineContent). has_toggle slot line ≡ true)
  below-stops None is less = absurd (omega (arith, less))
  below-stops (Some k) is less =
      let next = found-next (plain_line []) (has_toggle slot) from lines k (sym is) in
      let same : k ≡ min k end = omega (arith, less) in
      subst (λ n. IfSome (slice_get lines n) (λ (line : LineContent). has_toggle slot line ≡ true)) same
      (subst (λ line. IfSome line (λ (x : LineContent). has_toggle slot x ≡ true))
      (sym (slice_get-get_or lines k (plain_line []) next.within)) next.passes)

-- how far they go
free-append : (slot : ℕ) (xs ys : List LineContent) → AreFree slot xs →
    free_length slot (xs ++ ys) ≡ length (whole xs).columns + free_length slot ys
free-append slot [] ys free = omega arith
free-append slot (x ∷ xs) ys free =
    ap (λ b. if b then 0 else length x.columns + free_length slot (xs ++ ys)) free.0
    ∙ omega (arith, free-append slot xs ys free.1, length-append x.columns (whole xs).columns)

free-stops : (slot : ℕ) (x : LineContent) (xs : List LineContent) → has_toggle slot x ≡ true →
    free_length slot (x ∷ xs) ≡ 0
free-stops slot x xs has = ap (λ b. if b then 0 else length x.columns + free_length slot xs) has

free-passes : (slot : ℕ) (x : LineContent) (xs : List LineContent) → has_toggle slot x ≡ false →
    free_length slot (x ∷ xs) ≡ length x.columns + free_length slot xs
free-passes slot x xs hasn't = ap (λ b. if b then 0 else length x.columns + free_length slot xs) hasn't

free-until : (slot : ℕ) (xs ys : List LineContent) (x : LineContent) → AreFree slot xs → has_toggle slot x ≡ true →
    free_length slot (xs ++ x ∷ ys) ≡ length (whole xs).columns
free-until slot xs ys x free has = omega (arith, free-append slot xs (x ∷ ys) free, free-stops slot x ys has)

-- all of them are free, or one of them is the first that isn't
free-all : (slot k : ℕ) (xs : List LineContent) → AreFree slot (take k xs) → length xs ≤ k →
    free_length slot xs ≡ length (whole (take k xs)).columns
free-all slot k xs free all =
    let same = take_all k xs all in
    ap (free_length slot) (sym same ∙ sym (append-nil (take k xs)))
    ∙ omega (arith, free-append slot (take k xs) [] free)

free-inside : (slot k kept : ℕ) (xs ys : List LineContent) (found : Option LineContent) → AreFree slot (take k xs) →
    found ≡ slice_get xs k → IfSome found (λ (x : LineContent). has_toggle slot x ≡ true) → k < length xs → k < kept
    → free_length slot (take kept xs ++ ys) ≡ length (whole (take k xs)).columns
free-inside slot k kept xs ys None free is has there small = absurd (omega (arith, there, none_at xs k (sym is)))
free-inside slot k kept xs ys (Some x) free is has there small =
    let m = kept - suc k in
    let parts : take kept xs ≡ take k xs ++ x ∷ take m (drop (suc k) xs) =
    ap (λ n. take n xs) (let n : kept ≡ k + suc m = omega (arith, small) in n)
    ∙ take-more k (suc m) xs ∙ ap (λ rest. take k xs ++ take (suc m) rest) (drop_after xs k x (sym is)) in
    ap (λ front. free_length slot (front ++ ys)) parts
    ∙ ap (free_length slot) (append_assoc (take k xs) (x ∷ take m (drop (suc k) xs)) ys)
    ∙ free-until slot (take k xs) (take m (drop (suc k) xs) ++ ys) x free has

-- the lines behind the place: kept ones, the next copy's, and others
drafted-first : (copy : Copied) (copies : List Copied) (lines : List LineContent) →
    drafted (copy ∷ copies) lines ≡ take copy.kept lines ++ copy.line ∷ drafted copies (drop (covered copy) lines)
drafted-first copy copies lines =
    ap (λ rest. made_lines (copy ∷ copies) lines ++ rest) (sym (drop-drop (used copies) (covered copy) lines))
    ∙ append_assoc (take copy.kept lines) (copy.line ∷ made_lines copies (drop (covered copy) lines))
    (drop (used copies) (drop (covered copy) lines))

on-first : (lines : List LineContent) (front : List Stop) (behind : List Copied) (stop : Stop)
    → lines_on lines front (behind ++ stop.copy ∷ []) ≡ take stop.copy.kept (drop (used (copies_of front)) lines)
    ++ stop.copy.line ∷ lines_on lines (front ++ stop ∷ []) behind
on-first lines front behind stop =
    let copy = stop.copy in
    let copies = copies_of front in
    let rest = drop (used copies) lines in
    ap (λ xs. drafted xs rest) (reverse-append behind (copy ∷ []))
    ∙ drafted-first copy (reverse behind) rest
    ∙ ap (λ xs. take copy.kept rest ++ copy.line ∷ drafted (reverse behind) xs)
    (drop-drop (covered copy) (used copies) lines
    ∙ ap (λ n. drop n lines) (let n : used copies + covered copy
    ≡ used (copies_of (front ++ stop ∷ [])) = omega (
      arith,
      used-append copies (copy ∷ []),
      ap used (copies-snoc front stop),
    ) in n))

-- where the place stands behind a copy
pub place-behind : (lines : List LineContent) (front : List Stop) (stop : Stop)
    → place_of lines (front ++ stop ∷ []) ≡ length (whole (lines_before (copies_of front) stop.copy lines)).columns
    + length stop.copy.line.columns
place-behind lines front stop = ap (λ xs. length (whole (made_lines xs lines)).columns) (copies-snoc front stop)
    ∙ made-ends lines (copies_of front) stop.copy

module _ (slot : ℕ) (lines : List LineContent) (front : List Stop) (reached : Reached)
    (is : IsReached reached (copies_of front) lines) (index : ℕ) (above : reached.used ≤ index)
    (free : AreFree slot (take (index - reached.used) (drop reached.used lines))) where
  abbrev rest : List LineContent
  rest = drop reached.used lines

  abbrev count : ℕ
  count = index - reached.used

  found-at : slice_get lines index ≡ slice_get rest count
  found-at = ap (slice_get lines) (let same : index ≡ reached.used + (index - reached.used) = omega (arith, above) in
      same) ∙ sym (slice_get-drop reached.used count lines)

  -- no copy follows
  pub end-rest : (back : List Copied) → back ≡ [] →
      (index < length lines → IfSome (slice_get lines index) (λ (line : LineContent). has_toggle slot line ≡ true))
      → reached.characters + length (whole (take count rest)).columns ≡ free_end slot lines front back
  end-rest back none stops =
      let long = length-drop reached.used lines in
      let all : free_length slot rest ≡ length (whole (take count rest)).columns =
      elim (cases_lt count (length rest)) [
        | inl small ↦
            ap (free_length slot) (sym (take-append-drop (suc count) rest))
            ∙ free-inside slot count (suc count) rest (drop (suc count) rest) (slice_get lines index) free found-at
            (stops (omega (arith, small, long, above))) small (omega arith)
        | inr large ↦ free-all slot count rest free large
      ] in
      omega (
        arith,
        is.characters,
        all,
        ap (λ n. free_length slot (drop n lines)) is.used,
        ap (free_end slot lines front) none,
      )

  -- one follows, and is passed if it's free
  module _ (back : List Copied) (copy : Copied) (last : Some copy ≡ slice_get back (length back - 1)) where
    pub end-kept : index ≤ reached.used + copy.kept → IsDraft lines front back
        → (index < reached.used + copy.kept →
        IfSome (slice_get lines index) (λ (line : LineContent). has_toggle slot line ≡ true)) →
        (index ≡ reached.used + copy.kept → has_toggle slot copy.line ≡ true)
        → reached.characters + length (whole (take count rest)).columns ≡ free_end slot lines front back
    end-kept small draft stops has =
        let stop : Stop = stop_of lines reached copy in
        let behind = take (length back - 1) back in
        let follows = can-follow-next lines front back behind reached copy draft is (last_is back copy last) in
        let on = lines_on lines (front ++ stop ∷ []) behind in
        let long = length-drop reached.used lines in
        let first : lines_on lines front back ≡ take copy.kept rest ++ copy.line ∷ on =
        ap (lines_on lines front) (last_is back copy last) ∙ on-first lines front behind stop
        ∙ ap (λ n. take copy.kept (drop n lines) ++ copy.line ∷ on) (sym is.used) in
        let all : free_length slot (take copy.kept rest ++ copy.line ∷ on) ≡ length (whole (take count rest)).columns =
        elim (cases_lt count copy.kept) [
          | inl less ↦
              free-inside slot count copy.kept rest (copy.line ∷ on) (slice_get lines index) free found-at
              (stops (omega (arith, less, above))) (omega (arith, less, long, follows.there)) less
          | inr more ↦
              let same : count ≡ copy.kept = omega (arith, small, more, above) in
              ap (λ n. free_length slot (take n rest ++ copy.line ∷ on)) (sym same)
              ∙ free-until slot (take count rest) on copy.line free (has (omega (arith, same, above)))
        ] in
        omega (arith, is.characters, all, ap (free_length slot) first)

    pub end-passed : index ≡ reached.used + copy.kept → has_toggle slot copy.line ≡ false →
        (behind : List Copied) (stop : Stop) → back ≡ behind ++ stop.copy ∷ []
        → free_end slot lines front back ≡ free_end slot lines (front ++ stop ∷ []) behind
    end-passed all hasn't behind stop back_is =
        let same = last_same back behind copy stop.copy last back_is in
        let on = lines_on lines (front ++ stop ∷ []) behind in
        let kept : take count rest ≡ take stop.copy.kept (drop (used (copies_of front)) lines) =
        ap₂ (λ n m. take n (drop m lines)) (let n : index - reached.used
        ≡ stop.copy.kept = omega (arith, all, ap (λ (x : Copied). x.kept) same) in n) is.used in
        let first = ap (lines_on lines front) back_is ∙ on-first lines front behind stop
        ∙ ap (λ xs. xs ++ stop.copy.line ∷ on) (sym kept) in
        omega (
          arith,
          ap (free_length slot) first,
          free-append slot (take count rest) (stop.copy.line ∷ on) free,
          free-passes slot stop.copy.line on (ap (λ (x : Copied). has_toggle slot x.line) (sym same) ∙ hasn't),
          place-behind lines front stop,
          length-whole (made_lines (copies_of front) lines) (take stop.copy.kept (drop (used (copies_of front)) lines)),
          ap (λ xs. length (whole xs).columns) kept,
        )

-- the place behind a copy that is passed
pub passed-end : (slot : ℕ) (lines : List LineContent) (front front₂ : List Stop) (back back₂ : List Copied)
    (reached : Reached) → 0 < length back
    → ((behind : List Copied) (stop : Stop) → back ≡ behind ++ stop.copy ∷ [] →
    free_end slot lines front back ≡ free_end slot lines (front ++ stop ∷ []) behind)
    → ((behind : List Copied) (copy : Copied) → back ≡ behind ++ copy ∷ [] →
    (back₂ ≡ behind) × (front₂ ≡ front ++ stop_of lines reached copy ∷ []))
    → free_end slot lines front₂ back₂ ≡ free_end slot lines front back
passed-end slot lines front front₂ back back₂ reached some same moved =
    which (slice_get back (length back - 1)) refl where
      which : (last : Option Copied) → last ≡ slice_get back (length back - 1) →
          free_end slot lines front₂ back₂ ≡ free_end slot lines front back
      which None last = absurd (omega (arith, some, ap length (no_last back last)))
      which (Some copy) last =
          let behind = take (length back - 1) back in
          let is = moved behind copy (last_is back copy last) in
          ap₂ (λ xs ys. free_end slot lines xs ys) is.1 is.0
          ∙ sym (same behind (stop_of lines reached copy) (last_is back copy last))

-- it stands in the text
free-le : (slot : ℕ) (lines : List LineContent) → free_length slot lines ≤ length (whole lines).columns
free-le slot [] = omega arith
free-le slot (line ∷ lines) =
    let rest = free-le slot lines in
    let long = length-append line.columns (whole lines).columns in
    elim (has_toggle slot line) as (λ b. (if b then 0 else length line.columns + free_length slot lines)
    ≤ length (whole (line ∷ lines)).columns) [
      | true ↦ omega arith
      | false ↦ omega (arith, rest, long)
    ]

pub end-within : (slot : ℕ) (lines : List LineContent) (front : List Stop) (back : List Copied) →
    free_end slot lines front back ≤ length (text_at lines front back).columns
end-within slot lines front back =
    let made = made_lines (copies_of front) lines in
    let rest = lines_on lines front back in
    omega (
      arith,
      free-le slot rest,
      ap (λ xs. length (whole xs).columns)
          (drafted-append (copies_of front) (reverse back) lines),
      length-whole made rest,
    )

-- ---- a line is cleared
pub record ClearsLine (slot from to : ℕ) (lines old : List LineContent) (front : List Stop) (back : List Copied) : Type
    0 where
  pub is : IsText lines front back
  pub above : from < place_of lines front
  pub new : text_at lines front back ≡ with_cleared slot from (min to (place_of lines front)) (whole old)

pub clears-line : (slot from to column : ℕ) (lines old : List LineContent) (front : List Stop) (back : List Copied)
    (stop : Stop) (new : LineContent) → IsTaken lines front back stop
    → taken_lines lines front back stop.copy ≡ old → StandsAt lines front stop.copy from column → AreRows old →
    length (whole old).columns < 2 ^ 64 → from < to
    → new ≡ with_cleared slot column (min (length stop.copy.line.columns) (column + (to - from))) stop.copy.line
    → ClearsLine slot from to lines old (front ++ record stop { copy = record stop.copy { line = new } } ∷ []) back
clears-line slot from to column lines old front back stop new taken same stands rows small ordered new_is =
    let copies = copies_of front in
    let line = stop.copy.line in
    let before = lines_before copies stop.copy lines in
    let behind = lines_behind copies stop.copy back lines in
    let end = min (length line.columns) (column + (to - from)) in
    let start = length (whole before).columns in
    let less : column ≤ end = omega (arith, stands.inside) in
    let within : end ≤ length line.columns = omega arith in
    let makes = cleared-makes before behind old line new from column end slot same stands.place less within new_is in
    let stop₂ : Stop = record stop { copy = record stop.copy { line = new } } in
    let taken₂ : IsTaken lines front back stop₂ = record {
      stops = taken.stops;
      placed = record { reached = taken.placed.reached; start = taken.placed.start };
      there = taken.there;
    } in
    let all = ap (λ xs. length (whole xs).columns) same in
    let parts = length-whole before (line ∷ behind) in
    let part = length-append line.columns (whole behind).columns in
    let long = ap (λ (x : LineContent). length x.columns) makes.whole
    ∙ length-cleared slot from (start + end) (whole old) (omega (arith, stands.place, less))
    (omega (arith, all, parts, part, within)) in
    let one = ap (λ (x : LineContent). length x.columns) new_is ∙ length-cleared slot column end line less within in
    let ends : start + end ≡ min to (place_of lines (front ++ stop₂ ∷ [])) = omega (
      arith,
      place-behind lines front stop₂,
      one,
      stands.place,
      ordered,
    ) in
    record {
      is = record {
        draft = put-back lines front back stop₂ taken₂ (omega (arith, long, small));
        rows = subst AreRows (sym (taken-is lines front back stop₂)) (makes.rows rows);
      };
      above = omega (arith, place-behind lines front stop₂, one, stands.place, stands.inside);
      new = ap whole (taken-is lines front back stop₂) ∙ makes.whole
          ∙ ap (λ n. with_cleared slot from n (whole old)) ends;
    }

-- and the lines behind it up to the next one in which the slot is toggled
pub clears-on : (slot from at to next : ℕ) (lines : List LineContent) (front : List Stop) (back : List Copied)
    (first old new : LineContent) → from ≤ at → at < to → to ≤ length first.columns
    → old ≡ with_cleared slot from at first → at < place_of lines front →
    text_at lines front back ≡ with_cleared slot at (min to (place_of lines front)) old
    → next ≡ min to (free_end slot lines front back) → new ≡ text_at lines front back →
    new ≡ with_cleared slot from next first
clears-on slot from at to next lines front back first old new above less within old_is place here next_is new_is =
    let middle = min to (place_of lines front) in
    let end = min to (free_end slot lines front back) in
    let so_far = here ∙ ap (with_cleared slot at middle) old_is
    ∙ cleared-both slot from at middle first above (omega (arith, less, place)) (omega (arith, within)) in
    new_is ∙ sym (free-cleared slot to lines front back)
    ∙ ap (with_cleared slot middle end) so_far
    ∙ cleared-both slot from middle end first (omega (arith, above, less, place)) (omega arith) (omega (arith, within))
    ∙ ap (λ n. with_cleared slot from n first) (sym next_is)
