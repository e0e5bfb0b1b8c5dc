-- One line of a list that changes: what that makes of the text, and of what is counted.
use Rattle.line_lists.proofs.Common.{◌≡◌, ℕ, suc, ◌+◌, ◌-◌, ◌<◌, ◌≤◌, Bool, List, [], ◌∷◌, ◌++◌, Option, Some, length}
use Rattle.line_lists.proofs.Common.{map, None, set, take, drop, inl, inr, refl, sym, ap, ap₂, subst, ◌∙◌, arith}
use Rattle.line_lists.proofs.Common.{append_assoc, length-append, take-append-drop, All, slice_get, cases_lt, drop-map}
use Rattle.line_lists.proofs.Common.{changed, drop_more, length-map, map-append, take-map, PutMark, TakeMark, MarkNo}
use Rattle.line_lists.proofs.Common.{Place, after, Count, plus, LineContent, plain_line, with_mark, Insert, Remove}
use Rattle.line_lists.proofs.Common.{SetTag, Step, without_mark, AreLines, AreRows, IsCounted, count_of, spliced}
use Rattle.line_lists.proofs.Common.{CanMake, Slots, CanPlace, content_made, freed, named, numbers_in, lines_more}
use Rattle.line_lists.proofs.Common.{Holds, made, lines, piece_lines, placed, rows_more, IsAt, content_of, text_of}
use Rattle.line_lists.proofs.Common.{whole, after_text, after_removal, differing, toggled_more, tags_left_of}
use Rattle.line_lists.proofs.Common.{with_toggled, with_cleared, set_slot, StepFitsIn, PieceChange, CanChange}
use Rattle.line_lists.proofs.Common.{IsChangedBy, lines_changed, lines_freed, lines_marked, option_to_list, TagSlot}
use Rattle.line_lists.proofs.Common.{set_split, slice_get_within, ◌^◌}
use Rattle.line_lists.specs.declared.line_changes.LineChange.{LineChange}
use Rattle.line_lists.specs.declared.pieces.Growth.{Growth}
use Rattle.line_lists.proofs.ClearingLaws.{cleared-makes, length-cleared, tags-around}
use Rattle.line_lists.proofs.CountRows.{count-append, count-characters, count-parity}
use Rattle.line_lists.proofs.DraftLaws.{length-whole, take-more}
use Rattle.line_lists.proofs.EditLaws.{inserted-makes, length-text, marked-makes}
use Rattle.line_lists.proofs.FoundMarks.{last-makes}
use Rattle.line_lists.proofs.FreedLaws.{gone-without}
use Rattle.line_lists.proofs.LineStarts.{at-inside, at-within, length_at, lent, lent-inner, lent-length, lent-there}
use Rattle.line_lists.proofs.LineStarts.{start-all, start-next, start_of}
use Rattle.line_lists.proofs.MadeLaws.{text-made}
use Rattle.line_lists.proofs.RemovalLaws.{removed-makes}
use Rattle.line_lists.proofs.RowLaws.{Makes, toggled-line, toggled-makes}
use Rattle.line_lists.proofs.StandLaws.{line-some}
use Rattle.line_lists.proofs.StepTexts.{inserted-made, mark-moved, tagged-made}
use Rattle.line_lists.proofs.VecLaws.{characters-without, lines-are-without, lines-without, marks-without}
use Rattle.line_lists.proofs.VecLaws.{whole-without}
use Rattle.line_lists.proofs.WholeLaws.{length-toggled}
use Rattle.std.specs.FinMap as finite

-- a line that is lent, between those before it and those behind it
pub split-lent : (lines : List LineContent) (k : ℕ) (line : LineContent) → slice_get lines k ≡ Some line →
    take k lines ++ line ∷ drop (k + 1) lines ≡ lines
split-lent lines k line is =
    sym (ap (λ rest. take k lines ++ rest) (drop_more lines k (plain_line []) (lent-there lines k line is)
    ∙ ap (λ (l : LineContent). l ∷ drop (k + 1) lines) (lent lines k line is)))
    ∙ take-append-drop k lines

-- the same of lines without the mark of a number
split-free : (number : ℕ) (lines : List LineContent) (k : ℕ) (line : LineContent) → slice_get lines k ≡ Some line →
    map (without_mark number) (take k lines)
    ++ without_mark number line ∷ map (without_mark number) (drop (k + 1) lines) ≡ map (without_mark number) lines
split-free number lines k line is =
    sym (map-append (without_mark number) (take k lines) (line ∷ drop (k + 1) lines))
    ∙ ap (map (without_mark number)) (split-lent lines k line is)

long-free : (number : ℕ) (lines : List LineContent) →
    length (whole (map (without_mark number) lines)).columns ≡ length (whole lines).columns
long-free number lines = ap (λ (line : LineContent). length line.columns) (whole-without number lines)

-- a line in the place of another
spliced-one : (k : ℕ) (line : LineContent) (xs : List LineContent) →
    spliced k 1 (line ∷ []) xs ≡ take k xs ++ line ∷ drop (k + 1) xs
spliced-one k line xs = append_assoc (take k xs) (line ∷ []) (drop (k + 1) xs)

pub replaced-made : (at : ℕ) (line : LineContent) (xs : List LineContent) → at < length xs →
    set xs at line ≡ spliced at 1 (line ∷ []) xs
replaced-made at line xs within =
    set_split xs at line within
    ∙ ap (λ n. take at xs ++ line ∷ drop n xs) (let next : suc at ≡ at + 1 = omega arith in next)
    ∙ sym (spliced-one at line xs)

-- the mark of a number is taken from all lines, and put into one
pub marked-made : (number at : ℕ) (place : Place) (line new : LineContent) (xs written : List LineContent) →
    slice_get xs at ≡ Some line → written ≡ map (without_mark number) xs → new ≡ with_mark number place line →
    set written at new ≡ lines_marked number at place line xs
marked-made number at place line new xs written is made new_is =
    let within = slice_get_within xs at line is in
    ap₂ (λ ys y. set ys at y) made new_is
    ∙ replaced-made at (with_mark number place line) (map (without_mark number) xs)
    (omega (arith, within, length-map xs (without_mark number)))

-- where it ends can be counted
pub spliced-fits : (k start : ℕ) (line : LineContent) (xs : List LineContent) →
    start ≡ length (whole (take k xs)).columns → AreLines (spliced k 1 (line ∷ []) xs) →
    start + length line.columns < 2 ^ 64
spliced-fits k start line xs starts are =
    let new = spliced k 1 (line ∷ []) xs in
    let rest = drop (k + 1) xs in
    omega (
      arith,
      starts,
      are.counted.characters,
      count-characters new,
      ap (λ ys. length (whole ys).columns) (spliced-one k line xs),
      length-whole (take k xs) (line ∷ rest),
      length-append line.columns (whole rest).columns,
    )

-- a column behind the last of its line is the end of the text
at-last : (lines : List LineContent) (offset k column : ℕ) → IsAt lines offset k column →
    offset ≤ length (whole lines).columns → length_at lines k ≤ column → offset ≡ length (whole lines).columns
at-last lines offset k column at most past =
    elim (cases_lt (suc k) (length lines)) [
      | inl more ↦ absurd (omega (arith, past, at-inside lines offset k column at more))
      | inr less ↦
          let all : length lines ≡ suc k = omega (arith, less, at.within) in
          let end = ap (start_of lines) (sym all) ∙ start-all lines in
          omega (arith, at.behind, most, past, end, start-next lines k at.within)
    ]

-- a mark that marks nothing goes to a column of a line, or behind the last one
put-makes : (before behind old : List LineContent) (line new : LineContent) (place : Place) (number column : ℕ) →
    before ++ line ∷ behind ≡ old → AreRows old → 0 < length line.columns
    → place.offset ≡ length (whole before).columns + column → column ≤ length line.columns →
    (length line.columns ≤ column → place.offset ≡ length (whole old).columns)
    → finite.get (whole old).marks number ≡ None → new ≡ with_mark number (record place { offset = column }) line →
    Makes (with_mark number place) old (before ++ new ∷ behind)
put-makes before behind old line new place number column old_is rows some stands within ends free new_is =
    elim (cases_lt column (length line.columns)) [
      | inl inside ↦ marked-makes before behind old line new place number column old_is stands inside free new_is
      | inr past ↦
          let end = ends past in
          let last : column ≡ (column - 1) + 1 = omega (arith, some, past) in
          last-makes before behind old line new place number (column - 1) old_is rows
          (omega (arith, end, stands, some, past)) end (omega (arith, stands, some, past))
          (omega (arith, some, within)) free
          (new_is ∙ ap (λ n. with_mark number (record place { offset = n }) line) last)
    ]

-- ---- the line to which a mark goes, wherever it stood
pub marked-changed : {number : MarkNo} {place : Place} {list : List LineContent} {k column : ℕ} {here new : LineContent}
    → AreLines list → IsAt list place.offset k column → slice_get list k ≡ Some here
    → place.offset ≤ length (whole list).columns → new ≡ with_mark number.0 (record place { offset = column }) here →
    IsChangedBy (PutMark number place) list (record { taken = Some number; index = k; line = new })
marked-changed {number} {place} {list} {k} {column} {here} {new} are at is most new_is =
    let f = without_mark number.0 in
    let before = map f (take k list) in
    let behind = map f (drop (k + 1) list) in
    let old = map f list in
    let long = lent-length list k here is in
    let makes = put-makes before behind old (f here) new place number.0 column (split-free number.0 list k here is)
    (lines-are-without number.0 list are).rows (line-some list k here are.rows is)
    (omega (arith, at.behind, long-free number.0 (take k list)))
    (omega (arith, long, at-within list place.offset k column at most))
    (λ past. at-last list place.offset k column at most (omega (arith, past, long)) ∙ sym (long-free number.0 list))
    (gone-without number.0 list) (new_is ∙ sym (mark-moved number.0 (record place { offset = column }) here)) in
    let same : before ++ new ∷ behind ≡ spliced k 1 (new ∷ []) old =
    ap₂ (λ xs ys. xs ++ new ∷ ys) (sym (take-map f k list)) (sym (drop-map f (k + 1) list))
    ∙ sym (spliced-one k new old) in
    record {
      within = at.within;
      rows = subst AreRows same (makes.rows (lines-are-without number.0 list are).rows);
      whole = ap whole (sym same) ∙ makes.whole ∙ ap (with_mark number.0 place) (whole-without number.0 list)
          ∙ mark-moved number.0 place (whole list);
    }

-- ---- a line that holds an offset, and changes from there on
pub toggled-one : (at : ℕ) (slots : Slots) (old new : LineContent) → at < length old.columns →
    new.columns ≡ changed (toggled_more slots) at (at + 1) old.columns → new.marks ≡ old.marks →
    new ≡ with_toggled at slots old
toggled-one at slots old new within columns marks =
    let all = columns ∙ toggled-line at slots old.columns within in
    λ i. record { columns = all i; marks = marks i }

module _ {list : List LineContent} {offset k column : ℕ} {here : LineContent} (are : AreLines list)
    (holds : Holds list offset k column) (is : slice_get list k ≡ Some here) where
  abbrev before : List LineContent
  before = take k list

  abbrev behind : List LineContent
  behind = drop (k + 1) list

  abbrev start : ℕ
  start = length (whole before).columns

  abbrev tags_at : ℕ → Slots
  tags_at at = differing (count_of before).parity (tags_left_of (take at here.columns))

  split : before ++ here ∷ behind ≡ list
  split = split-lent list k here is

  pub column-inside : column < length here.columns
  column-inside = omega (arith, lent-inner list offset k column holds, lent-length list k here is)

  tags-there : (place at : ℕ) → place ≡ start + at → at ≤ length here.columns →
      tags_at at ≡ tags_left_of (take place (whole list).columns)
  tags-there place at stands within =
      ap (λ s. differing s (tags_left_of (take at here.columns))) (count-parity before)
      ∙ sym (tags-around before behind list here place at split stands within)

  changed-by : {step : Step} {new : LineContent} → Makes (made step) list (before ++ new ∷ behind) →
      IsChangedBy step list (record { taken = None; index = k; line = new })
  changed-by {new = new} makes = record {
    within = holds.within;
    rows = subst AreRows (sym (spliced-one k new list)) (makes.rows are.rows);
    whole = ap whole (spliced-one k new list) ∙ makes.whole;
  }

  pub inserted-changed : {text : List ℕ} {slots differ : Slots} {end : ℕ} {one new : LineContent} → lines text ≡ 0 →
      one ≡ after_text column text here → end ≡ column + length text
      → new ≡ with_toggled column differ (with_toggled end differ one) → differ ≡ differing (tags_at column) slots →
      IsChangedBy (Insert offset text slots) list (record { taken = None; index = k; line = new })
  inserted-changed {text} {slots} {differ} {end} {one} {new} free one_is end_is new_is differ_is =
      let inside = column-inside in
      let two = with_toggled end differ one in
      let long = ap (λ (line : LineContent). length line.columns) one_is
      ∙ length-text column text here.columns (omega (arith, inside)) in
      let same = length-toggled end differ one.columns in
      let first = inserted-makes before behind list here one offset column text split holds.behind inside free are.rows
      one_is in
      let second = toggled-makes before behind (before ++ one ∷ behind) one two (offset + length text) end differ refl
      (omega (arith, holds.behind, end_is)) (omega (arith, end_is, long, inside)) refl in
      let third = toggled-makes before behind (before ++ two ∷ behind) two new offset column differ refl holds.behind
      (omega (arith, same, long, inside)) new_is in
      changed-by (record {
        rows = λ rows. third.rows (second.rows (first.rows rows));
        whole = third.whole
            ∙ inserted-made offset (offset + length text) text slots differ (whole list)
            (whole (before ++ one ∷ behind)) (whole (before ++ two ∷ behind)) refl
            (differ_is ∙ ap (λ s. differing s slots) (tags-there offset column holds.behind (omega (arith, inside))))
            first.whole second.whole;
      })

  pub removed-changed : {to end : ℕ} {new : LineContent} → offset ≤ to → end ≡ column + (to - offset) →
      end < length here.columns → new ≡ after_removal column end here →
      IsChangedBy (Remove offset to) list (record { taken = None; index = k; line = new })
  removed-changed {to} {end} {new} ordered end_is within new_is =
      let makes = removed-makes before behind list here new offset column (to - offset) split holds.behind
      (omega (arith, end_is, within)) are.rows (new_is ∙ ap (λ n. after_removal column n here) end_is) in
      let all : offset + (to - offset) ≡ to = omega (arith, ordered) in
      changed-by (record {
        rows = makes.rows;
        whole = makes.whole ∙ ap (λ n. after_removal offset n (whole list)) all;
      })

  pub tagged-changed : {to end : ℕ} {slot : TagSlot} {on : Bool} {first last : Slots} {bare one new : LineContent} →
      offset < to → to ≤ length (whole list).columns → end ≡ column + (to - offset) → end < length here.columns
      → bare ≡ with_cleared slot.0 column end here → one ≡ with_toggled column first bare
      → new ≡ with_toggled end last one
      → first ≡ differing (tags_at column) (set_slot slot.0 on (tags_at column))
      → last ≡ differing (tags_at end) (set_slot slot.0 on (tags_at end)) →
      IsChangedBy (SetTag offset to slot on) list (record { taken = None; index = k; line = new })
  tagged-changed {to} {end} {slot} {on} {first} {last} {bare} {one} {new} ordered most end_is within bare_is one_is new_is
      first_is last_is =
      let inside = column-inside in
      let ends : start + end ≡ to = omega (arith, holds.behind, end_is, ordered) in
      let long = ap (λ (line : LineContent). length line.columns) bare_is
      ∙ length-cleared slot.0 column end here (omega (arith, end_is)) (omega (arith, within)) in
      let same = ap (λ (line : LineContent). length line.columns) one_is ∙ length-toggled column first bare.columns in
      let clear = cleared-makes before behind list here bare offset column end slot.0 split holds.behind
      (omega (arith, end_is)) (omega (arith, within)) bare_is in
      let begin = toggled-makes before behind (before ++ bare ∷ behind) bare one offset column first refl holds.behind
      (omega (arith, long, inside)) one_is in
      let finish = toggled-makes before behind (before ++ one ∷ behind) one new to end last refl (sym ends)
      (omega (arith, same, long, within)) new_is in
      let switch = λ (slots : Slots). differing slots (set_slot slot.0 on slots) in
      changed-by (record {
        rows = λ rows. finish.rows (begin.rows (clear.rows rows));
        whole = finish.whole ∙ ap (with_toggled to last) begin.whole
            ∙ tagged-made offset to slot on first last (length (whole list).columns) (whole list)
            (whole (before ++ bare ∷ behind)) (omega (arith, ordered)) most refl
            (λ _. first_is ∙ ap switch (tags-there offset column holds.behind (omega (arith, inside))))
            (λ _. last_is ∙ ap switch (tags-there to end (sym ends) (omega (arith, within))))
            (clear.whole ∙ ap (λ n. with_cleared slot.0 offset n (whole list)) ends);
      })

-- ---- what is made of the list
-- it's counted with those of before
spliced-counted : (k : ℕ) (line : LineContent) (xs : List LineContent) →
    IsCounted (plus (count_of xs) (count_of (line ∷ []))) → IsCounted (count_of (spliced k 1 (line ∷ []) xs))
spliced-counted k line xs all =
    let behind = drop (k + 1) xs in
    let made = ap count_of (spliced-one k line xs) ∙ count-append (take k xs) (line ∷ behind) in
    let there : count_of xs ≡ plus (plus (count_of (take k xs)) (count_of (take 1 (drop k xs)))) (count_of behind) =
    sym (ap count_of (take-append-drop (k + 1) xs)) ∙ count-append (take (k + 1) xs) behind
    ∙ ap (λ c. plus c (count_of behind)) (ap count_of (take-more k 1 xs)
    ∙ count-append (take k xs) (take 1 (drop k xs))) in
    record {
      lines = omega (arith, all.lines, ap (λ (c : Count). c.lines) made, ap (λ (c : Count). c.lines) there);
      characters = omega (
        arith,
        all.characters,
        ap (λ (c : Count). c.characters) made,
        ap (λ (c : Count). c.characters) there,
      );
      marks = omega (arith, all.marks, ap (λ (c : Count). c.marks) made, ap (λ (c : Count). c.marks) there);
    }

counted-free : (number : ℕ) (lines : List LineContent) (more : Count) → IsCounted (plus (count_of lines) more) →
    IsCounted (plus (count_of (map (without_mark number) lines)) more)
counted-free number lines more all = record {
  lines = omega (arith, all.lines, lines-without number lines);
  characters = omega (arith, all.characters, characters-without number lines);
  marks = omega (arith, all.marks, marks-without number lines);
}

counted-taken : (taken : Option MarkNo) (lines : List LineContent) (more : Count) →
    IsCounted (plus (count_of lines) more) →
    IsCounted (plus (count_of (freed (named (option_to_list taken)) lines)) more)
counted-taken None lines more all = all
counted-taken (Some number) lines more all = counted-free number.0 lines more all

length-taken : (taken : Option MarkNo) (lines : List LineContent) →
    length (freed (named (option_to_list taken)) lines) ≡ length lines
length-taken None lines = refl
length-taken (Some number) lines = length-map lines (without_mark number.0)

-- the lines with the changed one can be counted, and are a text
pub change-can : {step : Step} {list : List LineContent} (change : LineChange) → AreLines list →
    IsChangedBy step list change → IsCounted (plus (count_of list) (count_of (change.line ∷ []))) →
    CanChange list change
change-can {list = list} change are is counted =
    let all = counted-taken change.taken list (count_of (change.line ∷ [])) counted in
    let old = lines_freed change list in
    let k = change.index in
    record {
      within = omega (arith, is.within, length-taken change.taken list);
      are = record {
        some = omega (
          arith,
          ap length (spliced-one k change.line old),
          length-append (take k old) (change.line ∷ drop (k + 1) old),
        );
        rows = is.rows;
        counted = spliced-counted k change.line old all;
      };
      counted = all;
    }

pub change-new : {step : Step} {list : List LineContent} (change : LineChange) → IsChangedBy step list change →
    StepFitsIn step (length (whole list).columns) →
    content_of (lines_changed change list) ≡ after (step ∷ []) (content_of list)
change-new {step} {list} change is fits = ap text_of is.whole ∙ text-made step (whole list) fits

-- ---- marks that are taken away alone
freed-content : (numbers : List MarkNo) (lines : List LineContent) → content_of (freed (named numbers) lines)
    ≡ after (map (λ number. TakeMark number) numbers) (content_of lines)
freed-content [] lines = refl
freed-content (number ∷ numbers) lines =
    freed-content numbers (map (without_mark number.0) lines)
    ∙ ap (λ line. after (map (λ number. TakeMark number) numbers) (text_of line)) (whole-without number.0 lines)

pub taken-new : (lines : List LineContent) (change : PieceChange) → change.pieces.items ≡ [] →
    content_made change lines ≡ after (map (λ number. TakeMark number) change.taken.items) (content_of lines)
taken-new lines change none =
    ap (λ pieces. content_of (placed pieces (freed (named change.taken.items) lines))) none
    ∙ freed-content change.taken.items lines

pub taken-can : (lines : List LineContent) (change : PieceChange) → change.pieces.items ≡ [] →
    change.growth ≡ record { lines = 0; rows = 0 } → CanMake lines change
taken-can lines change none growth = record {
  can = subst (λ pieces. CanPlace pieces (freed (named change.taken.items) lines)) (sym none) tt;
  lines = ap (λ (growth : Growth). growth.lines) growth ∙ sym (ap lines_more none);
  rows = ap (λ (growth : Growth). growth.rows) growth ∙ sym (ap rows_more none);
  below = subst (λ pieces. All (λ n. n < change.bound) (numbers_in (piece_lines pieces))) (sym none)
      (λ k d less. absurd (omega (arith, less)));
}
