-- Lines without toggles and marks.
use Rattle.segments.proofs.Common.{◌≡◌, ℕ, ◌+◌, ◌-◌, ◌<◌, ◌≤◌, ◌==◌, ◌&&◌, Bool, true, false, cond, min, max, nat_le}
use Rattle.segments.proofs.Common.{nat_lt, List, [], ◌∷◌, ◌++◌, None, length, map, take, drop, refl, sym, ap, ap₂, ◌∙◌}
use Rattle.segments.proofs.Common.{arith, slice_get, slice_range, nat_cmp_total, filter, reduce, eq_by_cmp, nat_cmp}
use Rattle.segments.proofs.Common.{Place, Marks, Slots, map_marks, marks_at, next_mark, previous_mark, differing}
use Rattle.segments.proofs.Common.{changed, inserted, moved, removed, set_slot, same_marks, differing-empty, counting}
use Rattle.segments.proofs.Common.{parity, presence, Mark, Toggled, Column, after_removal, after_text, characters}
use Rattle.segments.proofs.Common.{joined, line_before, line_behind, line_count, marks_where, next_toggle}
use Rattle.segments.proofs.Common.{plain_columns, plain_line, previous_toggle, toggled_first, toggled_more, toggles}
use Rattle.segments.proofs.Common.{with_toggle, without_columns, columns_from, marks_of}
use Rattle.segments.proofs.ChangeLaws.{columns_changed, columns_cleared, slots_kept}
use Rattle.segments.proofs.ColumnLaws.{characters-columns, columns-plain, drop-columns, length-columns, parity-columns}
use Rattle.segments.proofs.ColumnLaws.{presence-columns, take-columns}
use Rattle.segments.proofs.MarkLaws.{entries-marks_of, joined_none, marks_of-nil}
use Rattle.segments.proofs.MarkPlaceLaws.{len-marks, marks_of-placed}
use Rattle.segments.proofs.NextLaws.{next_column, previous_column}
use Rattle.segments.proofs.PartLaws.{marks_of-passing}
use Rattle.std.specs.FinMap as finite
use Rattle.std.specs.FinSet as set

abbrev no_slots : Slots
no_slots = set.empty

abbrev no_marks : Marks
no_marks = finite.empty

-- ---- columns
pub length-plain : (text : List ℕ) → length (plain_columns text) ≡ length text
length-plain text = ap length (sym (columns-plain 0 text)) ∙ length-columns 0 text []

pub characters-plain : (text : List ℕ) → characters (plain_columns text) ≡ text
characters-plain text = ap characters (sym (columns-plain 0 text)) ∙ characters-columns 0 text []

pub take-plain : (n : ℕ) (text : List ℕ) → take n (plain_columns text) ≡ plain_columns (take n text)
take-plain n text = ap (take n) (sym (columns-plain 0 text)) ∙ take-columns n 0 text [] ∙ columns-plain 0 (take n text)

pub drop-plain : (n : ℕ) (text : List ℕ) → drop n (plain_columns text) ≡ plain_columns (drop n text)
drop-plain n text =
    ap (drop n) (sym (columns-plain 0 text)) ∙ drop-columns n 0 text [] ∙ columns-plain (0 + n) (drop n text)

pub append-plain : (front behind : List ℕ) → plain_columns (front ++ behind)
    ≡ plain_columns front ++ plain_columns behind
append-plain [] behind = refl
append-plain (character ∷ front) behind = ap (λ (columns : List Column).
    record { character = character; toggled = set.empty } ∷ columns) (append-plain front behind)

parity-plain : (text : List ℕ) → parity (toggles (plain_columns text)) ≡ set.empty
parity-plain text = let to : length text ≡ 0 + length text = omega arith in
    ap (λ columns. parity (toggles columns)) (sym (columns-plain 0 text)) ∙ parity-columns 0 (length text) text [] to tt

presence-plain : (text : List ℕ) → presence (toggles (plain_columns text)) ≡ set.empty
presence-plain text = let to : length text ≡ 0 + length text = omega arith in
    ap (λ columns. presence (toggles columns)) (sym (columns-plain 0 text))
    ∙ presence-columns 0 (length text) text [] to tt

pub front-plain : (n : ℕ) (text : List ℕ) → parity (toggles (take n (plain_columns text))) ≡ set.empty
front-plain n text = ap (λ columns. parity (toggles columns)) (take-plain n text) ∙ parity-plain (take n text)

pub next-plain : (slot at : ℕ) (text : List ℕ) → at ≤ length text → next_toggle slot at (plain_columns text) ≡ None
next-plain slot at text within =
    ap (next_toggle slot at) (sym (columns-plain 0 text)) ∙ sym (next_column slot at text [] tt within)

pub previous-plain : (slot at : ℕ) (text : List ℕ) → at ≤ length text →
    previous_toggle slot at (plain_columns text) ≡ None
previous-plain slot at text within =
    ap (previous_toggle slot at) (sym (columns-plain 0 text)) ∙ sym (previous_column slot at text [] tt within)

-- ---- no marks
entries-none : finite.entries no_marks ≡ []
entries-none = ap finite.entries (sym marks_of-nil) ∙ entries-marks_of [] tt

pub mark-none : (index : ℕ) → slice_get (finite.entries no_marks) index ≡ None
mark-none index = ap (λ entries. slice_get entries index) entries-none

pub place-none : (number : ℕ) → finite.get no_marks number ≡ None
place-none number = finite.get-empty nat_cmp number

pub next_mark-none : (column : ℕ) → next_mark column no_marks ≡ None
next_mark-none column = ap (λ (entries : List (ℕ × Place)).
    reduce min (filter (λ offset. nat_le column offset)
    (map (λ (place : Place). place.offset) (map (λ (entry : ℕ × Place). entry.1) entries)))) entries-none

pub previous_mark-none : (column : ℕ) → previous_mark column no_marks ≡ None
previous_mark-none column = ap (λ (entries : List (ℕ × Place)).
    reduce max (filter (λ offset. nat_lt offset column)
    (map (λ (place : Place). place.offset) (map (λ (entry : ℕ × Place). entry.1) entries)))) entries-none

pub mark_at-none : (column index : ℕ) → slice_get (marks_at column no_marks) index ≡ None
mark_at-none column index = ap (λ (entries : List (ℕ × Place)).
    slice_get (map (λ entry. record { 0 = entry.0 }) (filter (λ (entry : ℕ × Place). entry.1.offset == column) entries))
    index) entries-none

placed-none : (f : Place → Place) → map_marks f finite.empty ≡ finite.empty
placed-none f = ap (map_marks f) (sym marks_of-nil) ∙ sym (marks_of-placed f [] tt) ∙ marks_of-nil

where-none : (test : Place → Bool) → marks_where test finite.empty ≡ finite.empty
where-none test = ap (marks_where test) (sym marks_of-nil) ∙ sym (marks_of-passing test [] tt) ∙ marks_of-nil

none-either : (number : ℕ) (test : Bool) → cond test None (finite.get no_marks number) ≡ finite.get no_marks number
none-either number true = sym (finite.get-empty nat_cmp number)
none-either number false = refl

pub take-none : (number : ℕ) → finite.remove no_marks number ≡ no_marks
take-none number =
    same_marks _ _ (λ q. finite.get-remove nat_cmp_total no_marks number q ∙ none-either q (eq_by_cmp nat_cmp q number))

-- ---- lines
pub sum-plain : (text : List ℕ) → line_count (plain_line text) ≡ counting 1 (length text) 0
sum-plain text =
    let long = length-plain text in let odd = parity-plain text in let any = presence-plain text in
    let none : finite.len no_marks ≡ 0 = ap finite.len (sym marks_of-nil) ∙ len-marks [] tt in
    λ i. record { lines = 1; characters = long i; marks = none i; parity = odd i; presence = any i }

pub before-plain : (n : ℕ) (text : List ℕ) → plain_line (take n text) ≡ line_before n (plain_line text)
before-plain n text = let columns = sym (take-plain n text) in let marks = sym (where-none (λ place. _)) in
    λ i. record { columns = columns i; marks = marks i }

pub behind-plain : (n : ℕ) (text : List ℕ) → plain_line (drop n text) ≡ line_behind n (plain_line text)
behind-plain n text = let columns = sym (drop-plain n text) in
    let marks = sym (ap (map_marks _) (where-none (λ place. _)) ∙ placed-none _) in
    λ i. record { columns = columns i; marks = marks i }

pub joined-plain : (front behind : List ℕ) → plain_line (front ++ behind)
    ≡ joined (plain_line front) (plain_line behind)
joined-plain front behind = let columns = append-plain front behind in
    let marks = sym (joined_none (length (plain_columns front)) no_marks) in λ i. record { columns = columns i; marks = marks i }

pub inserted-plain : (at : ℕ) (new text : List ℕ) → plain_line (inserted at new text)
    ≡ after_text at new (plain_line text)
inserted-plain at new text =
    let columns : plain_columns (inserted at new text) ≡ inserted at (plain_columns new) (plain_columns text) =
    append-plain (take at text ++ new) (drop at text)
    ∙ ap₂ (λ (xs ys : List Column). xs ++ ys)
    (append-plain (take at text) new ∙ ap (λ (xs : List Column). xs ++ plain_columns new) (sym (take-plain at text)))
    (sym (drop-plain at text)) in
    let marks = sym (placed-none (moved at (length new))) in λ i. record { columns = columns i; marks = marks i }

first-plain : (slots : Slots) (text : List ℕ) → slots ≡ set.empty →
    toggled_first slots (plain_columns text) ≡ plain_columns text
first-plain slots [] none = refl
first-plain slots (character ∷ text) none =
    ap (λ (toggled : Slots). record { character = character; toggled = toggled } ∷ plain_columns text)
    (ap (λ s. differing s set.empty) none ∙ differing-empty set.empty)

pub removed-plain : (from to : ℕ) (text : List ℕ) → plain_line (removed from to text)
    ≡ after_removal from to (plain_line text)
removed-plain from to text =
    let odd : parity (toggles (slice_range (plain_columns text) from to)) ≡ set.empty =
    ap (λ (columns : List Column). parity (toggles (take (to - from) columns))) (drop-plain from text)
    ∙ front-plain (to - from) (drop from text) in
    let columns : plain_columns (removed from to text) ≡ without_columns from to (plain_columns text) =
    append-plain (take from text) (drop to text)
    ∙ ap₂ (λ (xs ys : List Column). xs ++ ys) (sym (take-plain from text))
    (sym (ap (toggled_first _) (drop-plain to text) ∙ first-plain _ (drop to text) odd)) in
    let marks = sym (placed-none _) in λ i. record { columns = columns i; marks = marks i }

-- ---- toggles that make no difference
none_kept : (slot : ℕ) → set.empty ≡ set_slot slot false set.empty
none_kept slot = slots_kept slot false set.empty (set.contains-empty nat_cmp slot)

none-cleared : (slot : ℕ) (test : Bool) → no_slots ≡ cond test (set.remove no_slots slot) no_slots
none-cleared slot true = none_kept slot
none-cleared slot false = refl

pub set-plain : (slot at : ℕ) (text : List ℕ) → at < length text →
    plain_columns text ≡ changed (with_toggle slot false) at (at + 1) (plain_columns text)
set-plain slot at text within =
    sym (columns-plain 0 text) ∙ columns_changed at (set_slot slot false) text [] [] within (none_kept slot) (λ k other.
    refl) ∙ ap (changed (with_toggle slot false) at (at + 1)) (columns-plain 0 text)

pub toggled-plain : (slots : Slots) (at : ℕ) (text : List ℕ) → slots ≡ set.empty → at < length text →
    plain_columns text ≡ changed (toggled_more slots) at (at + 1) (plain_columns text)
toggled-plain slots at text none within =
    sym (columns-plain 0 text)
    ∙ columns_changed at (λ s. differing slots s) text [] [] within
    (sym (ap (λ s. differing s set.empty) none ∙ differing-empty set.empty)) (λ k other. refl)
    ∙ ap (changed (toggled_more slots) at (at + 1)) (columns-plain 0 text)

pub cleared-plain : (slot from to : ℕ) (text : List ℕ) → from ≤ to → to ≤ length text →
    plain_columns text ≡ changed (with_toggle slot false) from to (plain_columns text)
cleared-plain slot from to text ordered within =
    sym (columns-plain 0 text) ∙ columns_cleared slot from to text [] [] ordered within (λ at.
    none-cleared slot (nat_le from at && nat_lt at to))
    ∙ ap (changed (with_toggle slot false) from to) (columns-plain 0 text)

-- ---- with room for toggles and marks, and none of either
none-toggled : (text : List ℕ) (entries : List Toggled) → length entries ≡ 0 →
    columns_from 0 text entries ≡ plain_columns (characters (columns_from 0 text entries))
none-toggled text [] none = columns-plain 0 text ∙ ap plain_columns (sym (characters-columns 0 text []))
none-toggled text (entry ∷ entries) none = absurd (omega (arith, none))

none-marked : (marks : List Mark) → length marks ≡ 0 → marks_of marks ≡ finite.empty
none-marked [] none = marks_of-nil
none-marked (mark ∷ marks) none = absurd (omega (arith, none))

pub bare : (text : List ℕ) (entries : List Toggled) (marks : List Mark) → length entries ≡ 0 → length marks ≡ 0
    → record { columns = columns_from 0 text entries; marks = marks_of marks }
    ≡ plain_line (characters (columns_from 0 text entries))
bare text entries marks toggled marked =
    let columns = none-toggled text entries toggled in let none = none-marked marks marked in
    λ i. record { columns = columns i; marks = none i }
