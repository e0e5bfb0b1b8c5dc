-- A line in two parts: its columns and its marks before a column and from it on, and those of two lines joined.
use Rattle.segments.proofs.Common.{◌≡◌, ℕ, ◌+◌, ◌-◌, ◌≤◌, min, Bool, true, false, cond, ◌&&◌, T, nat_le, nat_lt, List}
use Rattle.segments.proofs.Common.{[], ◌∷◌, ◌++◌, length, map, take, drop, refl, sym, ap, ap₂, subst, ◌∙◌, arith}
use Rattle.segments.proofs.Common.{length-take, take-append-drop, drop-append_seam, take-append_seam, nat_tests}
use Rattle.segments.proofs.Common.{append-nil, take_rest, All-filter, filter_passes, nat_cmp_total, is_sorted}
use Rattle.segments.proofs.Common.{below_all, filter, nat_cmp, OnOk, Result, Ok, Err, Place, map_marks, same_marks}
use Rattle.segments.proofs.Common.{Mark, Toggled, Column, earlier, marks_where, plain_columns, LieIn, moved_back}
use Rattle.segments.proofs.Common.{moved_on, toggled_at, columns_from, Rise, entries_of, entry_of, marks_of, with_place}
use Rattle.segments.proofs.Common.{AreKept, get_or}
use Rattle.std.specs.Result.{is_err}
use Rattle.segments.proofs.ChangeLaws.{columns_same}
use Rattle.segments.proofs.ColumnLaws.{columns-append, columns-front, columns-plain, drop-columns, take-columns}
use Rattle.segments.proofs.MarkLaws.{entries-marks_of, first_part, get-marks_of, second_part}
use Rattle.segments.proofs.MarkPlaceLaws.{Rise-placed, StandIn-placed, marks_of-placed}
use Rattle.segments.proofs.MovedLaws.{LieIn-moved_back, LieIn-moved_on, rest_alone, toggled-moved_back}
use Rattle.segments.proofs.MovedLaws.{toggled-moved_on, toggled_rest}
use Rattle.segments.proofs.ToggleLaws.{LieIn-append}
use Rattle.std.specs.FinMap as finite

zero_on : (n : ℕ) → 0 + n ≡ n
zero_on n = omega arith

-- what is read of the entries from an index on
pub rest_read : {entries read rest : List Toggled} (count : ℕ) → read ≡ entries →
    rest ≡ take (length read - count) (drop count read) → rest ≡ drop count entries
rest_read {read = read} count is found = found ∙ take_rest read count ∙ ap (drop count) is

-- the columns before one, of the entries before it, and those from it on
pub columns_before : (n to count : ℕ) (text : List ℕ) (entries : List Toggled) → LieIn n to (drop count entries) →
    columns_from 0 (take n text) (take count entries) ≡ take n (columns_from 0 text entries)
columns_before n to count text entries behind =
    let within : 0 + length (take n text) ≤ n = omega (arith, length-take n text) in
    sym (take-columns n 0 text entries ∙ ap (columns_from 0 (take n text)) (sym (take-append-drop count entries))
    ∙ columns-front 0 n to (take n text) (take count entries) (drop count entries) behind within)

pub columns_behind : (n to count : ℕ) (text : List ℕ) (entries : List Toggled) → LieIn 0 n (take count entries) →
    LieIn n to (drop count entries)
    → columns_from 0 (drop n text) (map (moved_back n) (drop count entries)) ≡ drop n (columns_from 0 text entries)
columns_behind n to count text entries before behind =
    columns_same 0 n (drop n text) (map (moved_back n) (drop count entries)) entries (λ k small.
    let turned : (0 + k) + n ≡ n + k = omega arith in
    toggled-moved_back n to n (drop count entries) (0 + k) behind (omega arith)
    ∙ ap (toggled_at (drop count entries)) turned
    ∙ toggled_rest 0 n count entries (n + k) before (omega arith))
    ∙ sym (drop-columns n 0 text entries ∙ ap (λ m. columns_from m (drop n text) entries) (zero_on n))

-- the entries from a column on, in columns from there
pub behind_lie : (n len : ℕ) (entries : List Toggled) → LieIn n len entries →
    LieIn 0 (len - n) (map (moved_back n) entries)
behind_lie n len entries lie =
    let none : n - n ≡ 0 = omega arith in
    subst (λ m. LieIn m (len - n) (map (moved_back n) entries)) none
    (LieIn-moved_back n len n entries lie (omega arith))

-- entries added behind others, and moved on
pub rest_added : (count : ℕ) (front behind both : List Toggled) → count ≡ length front → both ≡ front ++ behind →
    drop count both ≡ behind
rest_added count front behind both long is = ap₂ drop long is ∙ drop-append_seam front behind

pub rest_moved : (f : Toggled → Toggled) (count : ℕ) (front behind both : List Toggled) → count ≡ length front →
    both ≡ front ++ behind → take count both ++ map f (drop count both) ≡ front ++ map f behind
rest_moved f count front behind both long is =
    ap₂ (λ (xs ys : List Toggled). xs ++ map f ys) (ap₂ take long is
    ∙ take-append_seam front behind) (rest_added count front behind both long is)

-- the columns of two lines, of which the second begins where the first ends
module _ (first second : List ℕ) (front behind : List Toggled) (before : LieIn 0 (length first) front)
    (after : LieIn 0 (length second) behind) where
  moved_lies : LieIn (0 + length first) (length second + length first) (map (moved_on (length first)) behind)
  moved_lies = LieIn-moved_on 0 (length second) (length first) behind after

  pub joined_lie : LieIn 0 (length first + length second) (front ++ map (moved_on (length first)) behind)
  joined_lie =
      let turned : length second + length first ≡ length first + length second = omega arith in
      subst (λ to. LieIn 0 to (front ++ map (moved_on (length first)) behind)) turned
      (LieIn-append 0 (0 + length first) (length second + length first) front (map (moved_on (length first)) behind)
      (subst (λ n. LieIn 0 n front) (sym (zero_on (length first))) before) moved_lies (omega arith) (omega arith))

  pub columns_joined : columns_from 0 (first ++ second) (front ++ map (moved_on (length first)) behind)
      ≡ columns_from 0 first front ++ columns_from 0 second behind
  columns_joined =
      let len = length first in
      let moved = map (moved_on len) behind in
      columns-append 0 first second (front ++ moved)
      ∙ ap₂ (λ (xs ys : List Column). xs ++ ys)
      (columns-front 0 (0 + len) (length second + len) first front moved moved_lies (omega arith))
      (columns_same (0 + len) 0 second (front ++ moved) behind (λ k small.
      let turned : (0 + len) + k ≡ (0 + k) + len = omega arith in
      rest_alone 0 len front moved ((0 + len) + k) before (omega arith) ∙ ap (toggled_at moved) turned
      ∙ toggled-moved_on len behind (0 + k)))

pub joined_text : (first second : List ℕ) (front : List Toggled) → LieIn 0 (length first) front →
    columns_from 0 (first ++ second) front ≡ columns_from 0 first front ++ plain_columns second
joined_text first second front before =
    ap (columns_from 0 (first ++ second)) (sym (append-nil front))
    ∙ columns_joined first second front [] before tt
    ∙ ap (λ (columns : List Column). columns_from 0 first front ++ columns) (columns-plain 0 second)

-- marks at whose places a test holds
abbrev passing : (Place → Bool) → List Mark → List Mark
passing test marks = filter (λ (mark : Mark). test mark.place) marks

abbrev entries_passing : (Place → Bool) → List (ℕ × Place) → List (ℕ × Place)
entries_passing test entries = filter (λ (entry : ℕ × Place). test entry.1) entries

entries-passing : (test : Place → Bool) (marks : List Mark) →
    entries_of (passing test marks) ≡ entries_passing test (entries_of marks)
entries-passing test [] = refl
entries-passing test (mark ∷ marks) =
    elim (test mark.place) as (λ b. entries_of (cond b (mark ∷ passing test marks) (passing test marks))
    ≡ cond b (entry_of mark ∷ entries_passing test (entries_of marks)) (entries_passing test (entries_of marks))) [
      | true ↦ ap (λ es. entry_of mark ∷ es) (entries-passing test marks)
      | false ↦ entries-passing test marks
    ]

both_parts : (first rest : Bool) → T first → T rest → T (first && rest)
both_parts true rest one other = other
both_parts false rest one other = one

below-passing : (test : Place → Bool) (low : ℕ) (entries : List (ℕ × Place)) → T (below_all nat_cmp low entries) →
    T (below_all nat_cmp low (entries_passing test entries))
below-passing test low [] all = tt
below-passing test low (entry ∷ entries) all =
    let rest = below-passing test low entries (second_part _ _ all) in
    elim (test entry.1) as (λ b.
    T (below_all nat_cmp low (cond b (entry ∷ entries_passing test entries) (entries_passing test entries)))) [
      | true ↦ both_parts _ _ (first_part _ _ all) rest
      | false ↦ rest
    ]

sorted-passing : (test : Place → Bool) (entries : List (ℕ × Place)) → T (is_sorted nat_cmp entries) →
    T (is_sorted nat_cmp (entries_passing test entries))
sorted-passing test [] sorted = tt
sorted-passing test (entry ∷ entries) sorted =
    let rest = sorted-passing test entries (second_part _ _ sorted) in
    elim (test entry.1) as (λ b.
    T (is_sorted nat_cmp (cond b (entry ∷ entries_passing test entries) (entries_passing test entries)))) [
      | true ↦ both_parts _ _ (below-passing test entry.0 entries (first_part _ _ sorted)) rest
      | false ↦ rest
    ]

Rise-passing : (test : Place → Bool) (marks : List Mark) → Rise marks →
    Rise (filter (λ (mark : Mark). test mark.place) marks)
Rise-passing test marks rise = subst (λ es. T (is_sorted nat_cmp es)) (sym (entries-passing test marks))
    (sorted-passing test (entries_of marks) rise)

pub marks_of-passing : (test : Place → Bool) (marks : List Mark) → Rise marks →
    marks_of (filter (λ (mark : Mark). test mark.place) marks) ≡ marks_where test (marks_of marks)
marks_of-passing test marks rise =
    same_marks _ _ (λ q. get-marks_of (passing test marks) q (Rise-passing test marks rise)
    ∙ sym (finite.get-from_entries nat_cmp_total (entries_of (passing test marks)) q))
    ∙ ap finite.from_entries (entries-passing test marks
    ∙ ap (entries_passing test) (sym (entries-marks_of marks rise)))

-- the marks before a column, and those from it on, in columns from there
pub kept_before : (n : ℕ) {len reach long most : ℕ} {marks new : List Mark} → AreKept len reach marks → long ≡ n →
    most ≡ min reach n → new ≡ filter (λ (mark : Mark). nat_lt mark.place.offset n) marks → AreKept long most new
kept_before n {reach = reach} {long = long} {most = most} {marks = marks} kept is least passed =
    let test : Mark → Bool = λ mark. nat_lt mark.place.offset n in
    let low : (mark : Mark) → test mark ≡ true → mark.place.offset ≤ n = λ mark is. grind (arith, nat_tests) in
    subst (AreKept long most) (sym passed) (record {
      rise = Rise-passing (λ place. nat_lt place.offset n) marks kept.rise;
      stand = λ k d small.
          let other = All-filter test (λ (mark : Mark). mark.place.offset ≤ reach) marks kept.stand k d small in
          omega (arith, low (get_or (filter test marks) k d) (filter_passes test marks k d small), other, least);
      within = omega (arith, is, least);
    })

pub kept_behind : (n : ℕ) {len reach long most : ℕ} {marks new : List Mark} → AreKept len reach marks →
    long ≡ len - n → most ≡ reach - n →
    new ≡ map (with_place (earlier n)) (filter (λ (mark : Mark). nat_le n mark.place.offset) marks) →
    AreKept long most new
kept_behind n {reach = reach} {long = long} {most = most} {marks = marks} kept is least passed =
    let test : Mark → Bool = λ mark. nat_le n mark.place.offset in
    let within = kept.within in
    subst (AreKept long most) (sym passed) (record {
      rise = Rise-placed (earlier n) (filter test marks)
          (Rise-passing (λ place. nat_le n place.offset) marks kept.rise);
      stand = StandIn-placed (earlier n) (filter test marks) reach most (λ place low. omega (arith, low, least))
          (All-filter test (λ (mark : Mark). mark.place.offset ≤ reach) marks kept.stand);
      within = omega (arith, is, least, within);
    })

pub marks_of-behind : (n : ℕ) (marks : List Mark) → Rise marks
    → marks_of (map (with_place (earlier n)) (filter (λ (mark : Mark). nat_le n mark.place.offset) marks))
    ≡ map_marks (earlier n) (marks_where (λ place. nat_le n place.offset) (marks_of marks))
marks_of-behind n marks rise =
    let test : Place → Bool = λ place. nat_le n place.offset in
    marks_of-placed (earlier n) (passing test marks) (Rise-passing test marks rise)
    ∙ ap (map_marks (earlier n)) (marks_of-passing test marks rise)

-- what holds of a value that is there
pub not_refused : {A E P : Type 0} (found : Result A E) → false ≡ is_err found → OnOk found P → P
not_refused (Ok value) fine holds = holds
not_refused (Err fault) fine holds = let no : false ≡ true = fine in absurd (cc)
