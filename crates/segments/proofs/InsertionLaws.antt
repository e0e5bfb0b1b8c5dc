-- The columns of a line after an insertion and after a removal.
use Rattle.segments.proofs.Common.{◌≡◌, ℕ, suc, ◌+◌, ◌-◌, ◌<◌, ◌≤◌, List, [], ◌∷◌, ◌++◌, length, map, take, drop, refl}
use Rattle.segments.proofs.Common.{sym, ap, ap₂, ◌∙◌, arith, length-append, length-drop, slice_range, length-take-le}
use Rattle.segments.proofs.Common.{differing, inserted, removed, parity, Toggled, Column, plain_columns, toggled_first}
use Rattle.segments.proofs.Common.{toggles, without_columns, LieIn, entries_in, moved_on, odd_of, toggled_at}
use Rattle.segments.proofs.Common.{without_span, columns_from, ◌*◌, WORDS}
use Rattle.segments.proofs.ChangeLaws.{columns_same}
use Rattle.segments.proofs.ColumnLaws.{columns-append, columns-plain, drop-columns, parity-columns, take-columns}
use Rattle.segments.proofs.EntryLaws.{RiseIn-wide, front_alone, none_before}
use Rattle.segments.proofs.MovedLaws.{LieIn-moved_on, rest_alone, toggled-moved_on, toggled_front, toggled_rest}
use Rattle.segments.proofs.SpanLaws.{in_lies, span_behind, span_there, toggled_in}
use Rattle.segments.proofs.ToggleLaws.{LieIn-append}
use Rattle.std.specs.FinSet as finset

-- the entries from a column on move on by some columns
module _ (column len at count : ℕ) (entries : List Toggled) (before : LieIn 0 column (take at entries))
    (behind : LieIn column len (drop at entries)) (within : column ≤ len) where
  pub moved_lie : LieIn 0 (len + count) (take at entries ++ map (moved_on count) (drop at entries))
  moved_lie =
      LieIn-append 0 (column + count) (len + count) (take at entries) (map (moved_on count) (drop at entries))
      (RiseIn-wide (WORDS * 0) (WORDS * column) (WORDS * (column + count)) (take at entries) before (omega arith))
      (LieIn-moved_on column len count (drop at entries) behind) (omega arith) (omega arith)

  moved_none : (k : ℕ) → k < column + count → toggled_at (map (moved_on count) (drop at entries)) k ≡ finset.empty
  moved_none k small = none_before (column + count) (len + count) (map (moved_on count) (drop at entries)) k
      (LieIn-moved_on column len count (drop at entries) behind) small

  moved_front : (k : ℕ) → k < column → toggled_at (take at entries ++ map (moved_on count) (drop at entries)) k
      ≡ toggled_at entries k
  moved_front k small = front_alone (take at entries) (map (moved_on count) (drop at entries)) k
      (moved_none k (omega arith)) ∙ toggled_front column len at entries k behind small

  moved_inside : (k : ℕ) → column ≤ k → k < column + count →
      toggled_at (take at entries ++ map (moved_on count) (drop at entries)) k ≡ finset.empty
  moved_inside k above small =
      rest_alone 0 column (take at entries) (map (moved_on count) (drop at entries)) k before above ∙ moved_none k small

  moved_behind : (k : ℕ) → column ≤ k →
      toggled_at (take at entries ++ map (moved_on count) (drop at entries)) (k + count) ≡ toggled_at entries k
  moved_behind k above =
      rest_alone 0 column (take at entries) (map (moved_on count) (drop at entries)) (k + count) before (omega arith)
      ∙ toggled-moved_on count (drop at entries) k
      ∙ toggled_rest 0 column at entries k before above

  -- and then the columns of a text of so many characters stand before them
  pub columns_inserted : (text new : List ℕ) → length text ≡ len → length new ≡ count →
      columns_from 0 (inserted column new text) (take at entries ++ map (moved_on count) (drop at entries))
      ≡ inserted column (plain_columns new) (columns_from 0 text entries)
  columns_inserted text new long short =
      let after = take at entries ++ map (moved_on count) (drop at entries) in
      let front = take column text in
      let front_long : length front ≡ column = length-take-le column text (omega (arith, long)) in
      let both_long : length (front ++ new) ≡ column + count = omega (arith, length-append front new, front_long) in
      columns-append 0 (front ++ new) (drop column text) after
      ∙ ap₂ ◌++◌
      (columns-append 0 front new after
      ∙ ap₂ ◌++◌
      (columns_same 0 0 front after entries (λ k small. moved_front (0 + k) (omega (arith, front_long)))
      ∙ sym (take-columns column 0 text entries))
      (columns_same (0 + length front) (0 + length front) new after [] (λ k small.
      moved_inside (0 + length front + k) (omega (arith, front_long)) (omega (arith, front_long)))
      ∙ columns-plain (0 + length front) new))
      (columns_same (0 + length (front ++ new)) (0 + column) (drop column text) after entries (λ k small.
      let place : 0 + length (front ++ new) + k ≡ (0 + column + k) + count = omega (arith, both_long) in
      ap (toggled_at after) place ∙ moved_behind (0 + column + k) (omega arith))
      ∙ sym (drop-columns column 0 text entries))

-- what is toggled an odd number of times in the columns from one to another
gathered_parity : (from to : ℕ) (text : List ℕ) (entries : List Toggled) → from ≤ to → to ≤ length text →
    LieIn 0 (length text) entries → parity (toggles (slice_range (columns_from 0 text entries) from to))
    ≡ odd_of (entries_in from to entries)
gathered_parity from to text entries ordered within lie =
    let part = slice_range text from to in
    let long : length part ≡ to - from = length-take-le (to - from) (drop from text)
    (omega (arith, length-drop from text)) in
    ap (λ (columns : List Column). parity (toggles columns))
    (ap (λ (columns : List Column). take (to - from) columns) (drop-columns from 0 text entries)
    ∙ take-columns (to - from) (0 + from) (drop from text) entries
    ∙ columns_same (0 + from) from part entries (entries_in from to entries) (λ k small.
    let place : (0 + from) + k ≡ from + k = omega arith in
    ap (toggled_at entries) place ∙ sym (toggled_in from to entries (from + k) (omega arith) (omega (arith, long)))))
    ∙ parity-columns from to part (entries_in from to entries) (omega (arith, long))
    (in_lies from to (WORDS * 0) (WORDS * length text) entries lie)

-- the columns from one to another are taken out, and what they toggle is toggled behind them
module _ (from to len : ℕ) (entries new : List Toggled) (ordered : from ≤ to)
    (front : (at : ℕ) → at < from → toggled_at new at ≡ toggled_at entries at)
    (behind : (at : ℕ) → from ≤ at → at < from + (len - to) →
    toggled_at new at ≡ without_span from to (at + (to - from)) entries) where
  columns_behind : (first : ℕ) (rest : List ℕ) → first ≡ from → length rest ≡ len - to →
      columns_from first rest new ≡ toggled_first (odd_of (entries_in from to entries))
      (columns_from (0 + to) rest entries)
  columns_behind first [] is long = refl
  columns_behind first (character ∷ rest) is long =
      let place : first + (to - from) ≡ to = omega arith in
      let there : to ≡ 0 + to = omega arith in
      ap₂ (λ slots (columns : List Column). record { character = character; toggled = slots } ∷ columns)
      (behind first (omega arith) (omega arith)
      ∙ ap (λ n. without_span from to n entries) place
      ∙ span_there from to entries
      ∙ ap (λ n. differing (odd_of (entries_in from to entries)) (toggled_at entries n)) there)
      (columns_same (suc first) (suc (0 + to)) rest new entries (λ k small.
      let next : (suc first + k) + (to - from) ≡ suc (0 + to) + k = omega arith in
      behind (suc first + k) (omega arith) (omega arith)
      ∙ ap (λ n. without_span from to n entries) next
      ∙ span_behind from to (suc (0 + to) + k) entries (omega arith)))

  pub columns_removed : (text : List ℕ) → length text ≡ len → to ≤ length text → LieIn 0 (length text) entries →
      columns_from 0 (removed from to text) new ≡ without_columns from to (columns_from 0 text entries)
  columns_removed text long within lie =
      let front_long : length (take from text) ≡ from = length-take-le from text (omega arith) in
      columns-append 0 (take from text) (drop to text) new
      ∙ ap₂ ◌++◌
      (columns_same 0 0 (take from text) new entries (λ k small. front (0 + k) (omega (arith, front_long)))
      ∙ sym (take-columns from 0 text entries))
      (columns_behind (0 + length (take from text)) (drop to text) (omega (arith, front_long))
      (omega (arith, length-drop to text))
      ∙ ap₂ toggled_first (sym (gathered_parity from to text entries ordered within lie))
      (sym (drop-columns to 0 text entries)))
