-- Each step on columns is that step on the cells.
use Rattle.line_lists.proofs.Common.{◌≡◌, ℕ, zero, suc, ◌+◌, ◌-◌, ◌<◌, ◌≤◌, ◌==◌, Bool, true, false, cond, get_or, List}
use Rattle.line_lists.proofs.Common.{[], ◌∷◌, ◌++◌, length, map, take, drop, refl, sym, ap, ap₂, ◌∙◌, arith}
use Rattle.line_lists.proofs.Common.{length-drop, append_assoc, length-append, slice_range, nat_cmp, take-append_seam}
use Rattle.line_lists.proofs.Common.{take-nil, drop-append_seam, drop_more, get_or_default, length-map, length-take-le}
use Rattle.line_lists.proofs.Common.{split_between, Cell, Slots, differing, changed, inserted, removed, cells_of}
use Rattle.line_lists.proofs.Common.{set_slot, with_slot, without_slots, contains-set_slot, differing-associative}
use Rattle.line_lists.proofs.Common.{differing-empty, empty-differing, same_slots, Column, plain_columns, tags_before}
use Rattle.line_lists.proofs.Common.{toggled_first, without_columns, with_toggle, cells_from, cells_of_columns}
use Rattle.line_lists.proofs.Common.{columns_bare, columns_inserted, columns_tagged, switched, tags_left_of}
use Rattle.line_lists.proofs.Common.{toggled_before}
use Rattle.line_lists.proofs.SlotLaws.{differing-again, differing-back, differing-self}
use Rattle.line_lists.proofs.TagLaws.{behind-append, behind-cleared, behind-plain, cells-append, cells-cleared}
use Rattle.line_lists.proofs.TagLaws.{cells-plain, cells-toggled}
use Rattle.std.specs.FinSet as set

abbrev cells : List Column → List Cell
cells columns = cells_of_columns columns

toggled-seam : (xs ys : List Column) (slots : Slots) (n : ℕ) → n ≡ length xs →
    toggled_before n slots (xs ++ ys) ≡ xs ++ toggled_first slots ys
toggled-seam xs ys slots n is =
    ap (λ k. toggled_before k slots (xs ++ ys)) is
    ∙ ap₂ (λ front back. front ++ toggled_first slots back) (take-append_seam xs ys) (drop-append_seam xs ys)

cells-front : (xs ys : List Column) → cells (xs ++ ys) ≡ cells xs ++ cells_from (tags_left_of xs) ys
cells-front xs ys =
    cells-append set.empty xs ys ∙ ap (λ s. cells xs ++ cells_from s ys) (empty-differing (tags_left_of xs))

-- slots that are toggled at the two ends of a part are switched in it, and those at its end behind it
pub cells-between : (front middle back : List Column) (first last : Slots) (from to : ℕ) → from ≡ length front →
    to ≡ length front + length middle
    → cells (toggled_before from first (toggled_before to last (front ++ middle ++ back)))
    ≡ cells front ++ cells_from (differing (tags_left_of front) first) middle
    ++ cells_from (differing (differing (differing (tags_left_of front) first) (tags_left_of middle)) last) back
cells-between front middle back first last from to from_is to_is =
    let on = differing (tags_left_of front) first in
    ap (λ columns. cells (toggled_before from first columns))
    (toggled-seam (front ++ middle) back last to (to_is ∙ sym (length-append front middle))
    ∙ append_assoc front middle (toggled_first last back))
    ∙ ap cells (toggled-seam front (middle ++ toggled_first last back) first from from_is)
    ∙ cells-front front (toggled_first first (middle ++ toggled_first last back))
    ∙ ap (λ part. cells front ++ part)
    (cells-toggled (tags_left_of front) first (middle ++ toggled_first last back)
    ∙ cells-append on middle (toggled_first last back)
    ∙ ap (λ part. cells_from on middle ++ part) (cells-toggled (differing on (tags_left_of middle)) last back))
    ∙ sym (append_assoc (cells front) (cells_from on middle)
    (cells_from (differing (differing on (tags_left_of middle)) last) back))

take-cells : (n : ℕ) (on : Slots) (xs : List Column) → take n (cells_from on xs) ≡ cells_from on (take n xs)
take-cells zero on xs = refl
take-cells (suc n) on [] = refl
take-cells (suc n) on (x ∷ xs) =
    ap (λ (rest : List Cell). record { character = x.character; tags = differing on x.toggled } ∷ rest)
    (take-cells n (differing on x.toggled) xs)

drop-cells : (n : ℕ) (on : Slots) (xs : List Column) → drop n (cells_from on xs)
    ≡ cells_from (differing on (tags_left_of (take n xs))) (drop n xs)
drop-cells zero on xs = ap (λ s. cells_from s xs) (sym (differing-empty on))
drop-cells (suc n) on [] = refl
drop-cells (suc n) on (x ∷ xs) =
    drop-cells n (differing on x.toggled) xs
    ∙ ap (λ s. cells_from s (drop n xs)) (differing-associative on x.toggled (tags_left_of (take n xs)))

-- the cells behind an offset
pub cells-drop : (n : ℕ) (xs : List Column) → drop n (cells xs) ≡ cells_from (tags_left_of (take n xs)) (drop n xs)
cells-drop n xs =
    drop-cells n set.empty xs ∙ ap (λ s. cells_from s (drop n xs)) (empty-differing (tags_left_of (take n xs)))

pub cells-slice : (from to : ℕ) (xs : List Column) → slice_range (cells xs) from to
    ≡ cells_from (tags_left_of (take from xs)) (slice_range xs from to)
cells-slice from to xs =
    ap (take (to - from)) (cells-drop from xs) ∙ take-cells (to - from) (tags_left_of (take from xs)) (drop from xs)

pub take-slice : {A : Type 0} (from to : ℕ) (xs : List A) → from ≤ to →
    take to xs ≡ take from xs ++ slice_range xs from to
take-slice zero to xs ordered = ap (λ n. take n xs) (let same : to ≡ to - 0 = omega arith in same)
take-slice (suc from) zero xs ordered = absurd (omega arith)
take-slice (suc from) (suc to) [] ordered = sym (take-nil (suc to - suc from))
take-slice (suc from) (suc to) (x ∷ xs) ordered =
    ap (λ rest. x ∷ rest) (take-slice from to xs (omega arith))
    ∙ ap (λ n. x ∷ (take from xs ++ take n (drop from xs))) (let same : to - from ≡ suc to - suc from = omega arith in
    same)

-- the slots behind a part
behind-slice : (from to : ℕ) (xs : List Column) → from ≤ to →
    tags_left_of (take to xs) ≡ differing (tags_left_of (take from xs)) (tags_left_of (slice_range xs from to))
behind-slice from to xs ordered =
    ap tags_left_of (take-slice from to xs ordered) ∙ behind-append (take from xs) (slice_range xs from to)

length-slice : {A : Type 0} (from to : ℕ) (xs : List A) → from ≤ to → to ≤ length xs →
    length (slice_range xs from to) ≡ to - from
length-slice from to xs ordered within = length-take-le (to - from) (drop from xs) (omega (arith, length-drop from xs))

pub cells-removed : (from to : ℕ) (xs : List Column) → from ≤ to →
    cells (without_columns from to xs) ≡ removed from to (cells xs)
cells-removed from to xs ordered =
    cells-front (take from xs) _
    ∙ ap₂ (λ front back. front ++ back) (sym (take-cells from set.empty xs))
    (cells-toggled (tags_left_of (take from xs)) (tags_left_of (slice_range xs from to)) (drop to xs)
    ∙ ap (λ s. cells_from s (drop to xs)) (sym (behind-slice from to xs ordered))
    ∙ sym (cells-drop to xs))

pub cells-inserted : (at : ℕ) (text : List ℕ) (slots : Slots) (xs : List Column) → at ≤ length xs →
    cells (columns_inserted at text slots xs) ≡ inserted at (cells_of text slots) (cells xs)
cells-inserted at text slots xs within =
    let before = tags_left_of (take at xs) in
    let differ = differing before slots in
    let on : differing before differ ≡ slots = differing-again before slots in
    let back : differing (differing (differing before differ) (tags_left_of (plain_columns text))) differ ≡ before =
    ap₂ (λ s t. differing (differing s t) differ) on (behind-plain text)
    ∙ ap (λ s. differing s differ) (differing-empty slots) ∙ differing-back before slots in
    cells-between (take at xs) (plain_columns text) (drop at xs) differ differ at (at + length text)
    (sym (length-take-le at xs within))
    (let long = length-take-le at xs within in let all : length (plain_columns text)
    ≡ length text = length-map text _ in omega (arith, long, all))
    ∙ ap₂ (λ s t. cells (take at xs) ++ cells_from s (plain_columns text) ++ cells_from t (drop at xs)) on back
    ∙ ap₂ (λ front part. front ++ part ++ cells_from before (drop at xs)) (sym (take-cells at set.empty xs))
    (cells-plain slots text)
    ∙ ap (λ part. take at (cells xs) ++ cells_of text slots ++ part) (sym (cells-drop at xs))

pub cells-tagged : (from to slot : ℕ) (on : Bool) (xs : List Column) → from ≤ to → to ≤ length xs
    → cells (columns_tagged from to slot on xs) ≡ changed (with_slot slot on) from to (cells xs)
cells-tagged from to slot on xs ordered within =
    let before = tags_left_of (take from xs) in
    let middle = slice_range xs from to in
    let behind = tags_left_of (take to xs) in
    let bare = map (with_toggle slot false) middle in
    let first = switched (set_slot slot on) from xs in
    let last = switched (set_slot slot on) to xs in
    let is_on : differing before first ≡ set_slot slot on before = differing-again before (set_slot slot on before) in
    let back : differing (differing (differing before first) (tags_left_of bare)) last ≡ behind =
    ap (λ s. differing (differing s (tags_left_of bare)) last) is_on
    ∙ ap (λ s. differing s last) (behind-cleared slot on before middle
    ∙ ap (set_slot slot on) (sym (behind-slice from to xs ordered)))
    ∙ differing-back behind (set_slot slot on behind) in
    cells-between (take from xs) bare (drop to xs) first last from to
    (sym (length-take-le from xs (omega arith)))
    (let long = length-take-le from xs (omega arith) in let all = length-map middle (with_toggle slot false) in
    let part = length-slice from to xs ordered within in omega (arith, long, all, part))
    ∙ ap₂ (λ s t. cells (take from xs) ++ cells_from s bare ++ cells_from t (drop to xs)) is_on back
    ∙ ap₂ (λ front part. front ++ part ++ cells_from behind (drop to xs)) (sym (take-cells from set.empty xs))
    (cells-cleared slot on before middle ∙ ap (map (with_slot slot on)) (sym (cells-slice from to xs)))
    ∙ ap (λ part. take from (cells xs) ++ map (with_slot slot on) (slice_range (cells xs) from to) ++ part)
    (sym (cells-drop to xs))

-- one column alone
pub slice-one : (at : ℕ) (xs : List Column) (x : Column) → at < length xs → x ≡ get_or xs at x →
    slice_range xs at (at + 1) ≡ x ∷ []
slice-one at xs x within is =
    ap (λ n. take n (drop at xs)) (let same : (at + 1) - at ≡ 1 = omega arith in same)
    ∙ ap (take 1) (drop_more xs at x within) ∙ ap (λ y. y ∷ []) (sym is)

bare_one : (before : Slots) (x : Column) → cells_from (differing before (differing before x.toggled)) (x ∷ [])
    ≡ map without_slots (cells_from before (x ∷ []))
bare_one before x = ap (λ tags. record { character = x.character; tags = tags } ∷ [])
    (ap (λ s. differing s x.toggled) (differing-again before x.toggled) ∙ differing-self x.toggled)

pub cells-bare : (at : ℕ) (xs : List Column) → at < length xs →
    cells (columns_bare at xs) ≡ changed without_slots at (at + 1) (cells xs)
cells-bare at xs within =
    let x : Column = get_or xs at (record { character = 0; toggled = set.empty }) in
    let is : x ≡ get_or xs at x = get_or_default xs at (record { character = 0; toggled = set.empty }) x within in
    let before = tags_left_of (take at xs) in
    let middle = slice_range xs at (at + 1) in
    let here = tags_before at xs in
    let behind : here ≡ differing before (tags_left_of middle) = behind-slice at (at + 1) xs (omega arith) in
    let one : middle ≡ x ∷ [] = slice-one at xs x within is in
    let alone : here ≡ differing before x.toggled = behind ∙ ap (λ part. differing before (tags_left_of part)) one
    ∙ ap (differing before) (differing-empty x.toggled) in
    let back : differing (differing (differing before here) (tags_left_of middle)) here ≡ here =
    ap (λ s. differing (differing s (tags_left_of middle)) here) (let same : differing before here
    ≡ tags_left_of middle = ap (differing before) behind ∙ differing-again before (tags_left_of middle) in same)
    ∙ ap (λ s. differing s here) (differing-self (tags_left_of middle)) ∙ empty-differing here in
    ap (λ columns. cells (toggled_before at here (toggled_before (at + 1) here columns)))
    (split_between xs at (at + 1) (omega arith) ∙ sym (append_assoc (take at xs) middle (drop (at + 1) xs)))
    ∙ cells-between (take at xs) middle (drop (at + 1) xs) here here at (at + 1)
    (sym (length-take-le at xs (omega arith)))
    (let long = length-take-le at xs (omega arith) in let part = ap length one in omega (arith, long, part))
    ∙ ap₂ (λ part t. cells (take at xs) ++ part ++ cells_from t (drop (at + 1) xs))
    (ap₂ (λ s part. cells_from (differing before s) part) alone one ∙ bare_one before x
    ∙ ap (λ part. map without_slots (cells_from before part)) (sym one)) back
    ∙ ap₂ (λ front part. front ++ map without_slots part ++ cells_from here (drop (at + 1) xs))
    (sym (take-cells at set.empty xs)) (sym (cells-slice at (at + 1) xs))
    ∙ ap (λ part. take at (cells xs) ++ map without_slots (slice_range (cells xs) at (at + 1)) ++ part)
    (sym (cells-drop (at + 1) xs))

none_of : (same : Bool) → cond same false false ≡ false
none_of true = refl
none_of false = refl

set_none : (slot : ℕ) → set_slot slot false set.empty ≡ set.empty
set_none slot =
    same_slots _ _ (λ q. contains-set_slot slot false set.empty q
    ∙ ap (cond (q == slot) false) (set.contains-empty nat_cmp q) ∙ none_of (q == slot)
    ∙ sym (set.contains-empty nat_cmp q))

pub cells-cleared_all : (slot : ℕ) (xs : List Column) → cells (map (with_toggle slot false) xs)
    ≡ map (with_slot slot false) (cells xs)
cells-cleared_all slot xs = ap (λ s. cells_from s (map (with_toggle slot false) xs)) (sym (set_none slot))
    ∙ cells-cleared slot false set.empty xs
