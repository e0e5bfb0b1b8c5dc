-- Where a tag changes is where its slot is toggled: over the columns of a text.
use Rattle.line_lists.proofs.Common.{◌≡◌, ℕ, zero, suc, ◌+◌, ◌-◌, ◌<◌, ◌≤◌, Bool, true, false, ◌||◌, List, [], ◌∷◌}
use Rattle.line_lists.proofs.Common.{length, take, get_or, refl, sym, ap, ap₂, ◌∙◌, arith, nat_cmp_total, nat_cmp}
use Rattle.line_lists.proofs.Common.{take-suc, or_parts, length-map, get_or_from_slice_get, Cell, flag_at, is_alike}
use Rattle.line_lists.proofs.Common.{next_change, previous_change, flags, differing, next_change_is, previous_change_is}
use Rattle.line_lists.proofs.Common.{contains-differing, differing-empty, either, presence, Column, LineContent}
use Rattle.line_lists.proofs.Common.{tags_before, toggles, has_toggle, cells_of_columns, tags_left_of}
use Rattle.line_lists.proofs.PlaceRows.{flag-at, length-cells, tags-column}
use Rattle.line_lists.proofs.SearchRows.{FailIn}
use Rattle.line_lists.proofs.TagLaws.{behind-append}
use Rattle.std.specs.FinSet as set

abbrev pub no_column : Column
no_column = record { character = 0; toggled = set.empty }

abbrev pub toggles_slot : ℕ → Column → Bool
toggles_slot slot column = set.contains column.toggled slot

abbrev flags_of : ℕ → List Column → List Bool
flags_of slot columns = flags slot (cells_of_columns columns)

length-flags : (slot : ℕ) (columns : List Column) → length (flags_of slot columns) ≡ length columns
length-flags slot columns = length-map (cells_of_columns columns) (λ (cell : Cell). set.contains cell.tags slot)
    ∙ length-cells set.empty columns

flag-is : (slot : ℕ) (columns : List Column) (at : ℕ) → at < length columns →
    flag_at (flags_of slot columns) at ≡ set.contains (tags_before at columns) slot
flag-is slot columns at within =
    get_or_from_slice_get (flags_of slot columns) at (set.contains (tags_before at columns) slot) false
    (flag-at slot (cells_of_columns columns) at (tags_before at columns) (tags-column columns at within))

before-next : (columns : List Column) (at : ℕ) → suc at < length columns →
    tags_before (suc at) columns ≡ differing (tags_before at columns) (get_or columns (suc at) no_column).toggled
before-next columns at within =
    let one : suc at + 1 ≡ suc (suc at) = omega arith in
    let here : suc at ≡ at + 1 = omega arith in
    ap (λ n. tags_left_of (take n columns)) one
    ∙ ap tags_left_of (take-suc columns (suc at) no_column within)
    ∙ behind-append (take (suc at) columns) (get_or columns (suc at) no_column ∷ [])
    ∙ ap₂ (λ n s. differing (tags_left_of (take n columns)) s) here
    (differing-empty (get_or columns (suc at) no_column).toggled)

flag-next : (slot : ℕ) (columns : List Column) (at : ℕ) → suc at < length columns
    → flag_at (flags_of slot columns) (suc at)
    ≡ either (flag_at (flags_of slot columns) at) (toggles_slot slot (get_or columns (suc at) no_column))
flag-next slot columns at within =
    let less : at < length columns = omega arith in
    flag-is slot columns (suc at) within
    ∙ ap (λ s. set.contains s slot) (before-next columns at within)
    ∙ contains-differing (tags_before at columns) (get_or columns (suc at) no_column).toggled slot
    ∙ ap (λ b. either b (toggles_slot slot (get_or columns (suc at) no_column))) (sym (flag-is slot columns at less))

either_off : (b : Bool) → either b false ≡ b
either_off true = refl
either_off false = refl

alike_itself : (b : Bool) → is_alike b b ≡ true
alike_itself true = refl
alike_itself false = refl

unlike_turned : (b : Bool) → is_alike b (either b true) ≡ false
unlike_turned true = refl
unlike_turned false = refl

unlike_turned_back : (b : Bool) → is_alike (either b true) b ≡ false
unlike_turned_back true = refl
unlike_turned_back false = refl

-- no toggle between: the same flag
same-flag : (slot : ℕ) (columns : List Column) (at m to : ℕ) → to ≤ length columns → at + m < to →
    FailIn no_column (toggles_slot slot) columns (suc at) to
    → flag_at (flags_of slot columns) (at + m) ≡ flag_at (flags_of slot columns) at
same-flag slot columns at zero to within less free =
    ap (flag_at (flags_of slot columns)) (let same : at + 0 ≡ at = omega arith in same)
same-flag slot columns at (suc m) to within less free =
    let next : at + suc m ≡ suc (at + m) = omega arith in
    let inside : suc (at + m) < length columns = omega arith in
    ap (flag_at (flags_of slot columns)) next
    ∙ flag-next slot columns (at + m) inside
    ∙ ap₂ either (same-flag slot columns at m to within (omega arith) free)
    (free (suc (at + m)) (omega arith) (omega arith))
    ∙ either_off (flag_at (flags_of slot columns) at)

pub next-change-is : (slot : ℕ) (columns : List Column) (at end : ℕ) → at < end → end ≤ length columns →
    FailIn no_column (toggles_slot slot) columns (suc at) end
    → (end < length columns → toggles_slot slot (get_or columns end no_column) ≡ true) →
    next_change (flags_of slot columns) at ≡ end
next-change-is slot columns at end above within free stops =
    let all = flags_of slot columns in
    let long = length-flags slot columns in
    next_change_is all at end above (omega (arith, long, within))
    (λ k more less.
    let back : at + (k - at) ≡ k = omega arith in
    ap (is_alike (flag_at all at)) (ap (flag_at all) (sym back)
    ∙ same-flag slot columns at (k - at) end within (omega (arith, back)) free) ∙ alike_itself (flag_at all at))
    (λ less.
    let inside : end < length columns = omega (arith, less, long) in
    let last : suc (end - 1) ≡ end = omega arith in
    let back : at + (end - 1 - at) ≡ end - 1 = omega arith in
    ap (is_alike (flag_at all at))
    (ap (flag_at all) (sym last) ∙ flag-next slot columns (end - 1) (omega (arith, inside, last))
    ∙ ap₂ either (ap (flag_at all) (sym back)
    ∙ same-flag slot columns at (end - 1 - at) end within (omega (arith, back)) free)
    (ap (λ n. toggles_slot slot (get_or columns n no_column)) last ∙ stops inside))
    ∙ unlike_turned (flag_at all at))

pub previous-change-is : (slot : ℕ) (columns : List Column) (at start : ℕ) → start < at → at ≤ length columns →
    FailIn no_column (toggles_slot slot) columns (suc start) at
    → (0 < start → toggles_slot slot (get_or columns start no_column) ≡ true) →
    previous_change (flags_of slot columns) at ≡ start
previous-change-is slot columns at start below within free stops =
    let all = flags_of slot columns in
    let long = length-flags slot columns in
    let end : start + (at - 1 - start) ≡ at - 1 = omega arith in
    let last : flag_at all (at - 1) ≡ flag_at all start = ap (flag_at all) (sym end)
    ∙ same-flag slot columns start (at - 1 - start) at within (omega (arith, end)) free in
    previous_change_is all at start below (omega (arith, long, within))
    (λ k more less.
    let back : start + (k - start) ≡ k = omega arith in
    ap₂ is_alike last (ap (flag_at all) (sym back)
    ∙ same-flag slot columns start (k - start) at within (omega (arith, back)) free)
    ∙ alike_itself (flag_at all start))
    (λ some.
    let first : suc (start - 1) ≡ start = omega arith in
    let turned : flag_at all start ≡ either (flag_at all (start - 1)) true =
    ap (flag_at all) (sym first) ∙ flag-next slot columns (start - 1) (omega (arith, first))
    ∙ ap (either (flag_at all (start - 1))) (ap (λ n. toggles_slot slot (get_or columns n no_column)) first
    ∙ stops some) in
    ap (λ b. is_alike b (flag_at all (start - 1))) (last ∙ turned) ∙ unlike_turned_back (flag_at all (start - 1)))

-- ---- a line in which a slot is toggled
pub presence-cons : (slot : ℕ) (column : Column) (columns : List Column) →
    set.contains (presence (toggles (column ∷ columns))) slot
    ≡ (toggles_slot slot column || set.contains (presence (toggles columns)) slot)
presence-cons slot column columns = set.contains-union nat_cmp_total column.toggled (presence (toggles columns)) slot

none-toggled : (slot : ℕ) (columns : List Column) (i : ℕ) → set.contains (presence (toggles columns)) slot ≡ false →
    i < length columns → toggles_slot slot (get_or columns i no_column) ≡ false
none-toggled slot [] i is within = absurd (omega arith)
none-toggled slot (column ∷ columns) zero is within = (or_parts _ _ (sym (presence-cons slot column columns) ∙ is)).0
none-toggled slot (column ∷ columns) (suc i) is within =
    none-toggled slot columns i (or_parts _ _ (sym (presence-cons slot column columns) ∙ is)).1 (omega arith)

pub no-toggle : (slot : ℕ) (line : LineContent) (i : ℕ) → has_toggle slot line ≡ false → i < length line.columns →
    toggles_slot slot (get_or line.columns i no_column) ≡ false
no-toggle slot line i is within = none-toggled slot line.columns i is within

all-fail : (slot : ℕ) (columns : List Column) → FailIn no_column (toggles_slot slot) columns 0 (length columns) →
    set.contains (presence (toggles columns)) slot ≡ false
all-fail slot [] free = set.contains-empty nat_cmp slot
all-fail slot (column ∷ columns) free =
    presence-cons slot column columns
    ∙ ap₂ (λ a b. a || b) (free 0 (omega arith) (omega arith))
    (all-fail slot columns (λ i more less. free (suc i) (omega arith) (omega arith)))

pub some-toggle : {A : Type 0} (slot : ℕ) (line : LineContent) → has_toggle slot line ≡ true →
    FailIn no_column (toggles_slot slot) line.columns 0 (length line.columns) → A
some-toggle slot line some free = absurd (let no : false ≡ true = sym (all-fail slot line.columns free) ∙ some in cc)
