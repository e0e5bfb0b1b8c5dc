-- Runs of flags: where they end and begin, cell by cell, and what fixes an answer.
use Rattle.text_model.proofs.Common.{◌≡◌, ℕ, ◌+◌, ◌-◌, ◌<◌, ◌≤◌, Bool, true, false, not, List, length, get_or, take}
use Rattle.text_model.proofs.Common.{drop, refl, sym, ap, ap₂, ◌∙◌, arith, length-drop, prefix_len, suffix_len}
use Rattle.text_model.proofs.Common.{get_or-map, get_or-drop, get_or-take, length-map, length-take-le, drop-map}
use Rattle.text_model.proofs.Common.{take-map, take_rest, prefix_len-drop_yes, prefix_len-drop_no, prefix_len_is}
use Rattle.text_model.proofs.Common.{prefix_len-le-length, suffix_len-take_yes, suffix_len-take_no, suffix_len_is, Cell}
use Rattle.text_model.proofs.Common.{is_alike, flag_at, next_change, previous_change, flags}
use mathlib.Core.Bool.{beq}
use Rattle.std.specs.FinSet as set

pub alike_same : (has on : Bool) → beq has on ≡ true → is_alike on has ≡ true
alike_same true true is = refl
alike_same true false is = is
alike_same false true is = is
alike_same false false is = refl

pub alike_other : (has on : Bool) → beq has on ≡ false → is_alike on has ≡ false
alike_other true true is = is
alike_other true false is = refl
alike_other false true is = refl
alike_other false false is = is

not_true : (b : Bool) → not b ≡ true → b ≡ false
not_true true is = absurd (let no : false ≡ true = is in cc)
not_true false is = refl

not_false : (b : Bool) → not b ≡ false → b ≡ true
not_false true is = refl
not_false false is = absurd (let no : true ≡ false = is in cc)

itself : (flag : Bool) → is_alike flag flag ≡ true
itself true = refl
itself false = refl

pub flag_of : (cells : List Cell) (slot i : ℕ) (cell : Cell) → i < length cells → cell ≡ get_or cells i cell →
    get_or (flags slot cells) i false ≡ set.contains cell.tags slot
flag_of cells slot i cell within is =
    get_or-map (λ (x : Cell). set.contains x.tags slot) cells i cell false within
    ∙ ap (λ (x : Cell). set.contains x.tags slot) (sym is)

-- the run from the front: one cell more, and its end
pub first_more : (cells : List Cell) (slot i : ℕ) (on has : Bool) (cell : Cell) (whole : ℕ) → i < length cells →
    cell ≡ get_or cells i cell → has ≡ set.contains cell.tags slot → not (beq has on) ≡ false
    → whole ≡ i + prefix_len (is_alike on) (drop i (flags slot cells)) →
    whole ≡ (i + 1) + prefix_len (is_alike on) (drop (i + 1) (flags slot cells))
first_more cells slot i on has cell whole within is has_is same whole_is =
    let alike = ap (is_alike on) (flag_of cells slot i cell within is ∙ sym has_is)
    ∙ alike_same has on (not_false (beq has on) same) in
    let small : i < length (flags slot cells) = rw (length-map cells (λ (x : Cell). set.contains x.tags slot)) within in
    omega (arith, whole_is, prefix_len-drop_yes (is_alike on) (flags slot cells) i false small alike)

pub first_stops : (cells : List Cell) (slot i : ℕ) (on has : Bool) (cell : Cell) (whole : ℕ) → i < length cells →
    cell ≡ get_or cells i cell → has ≡ set.contains cell.tags slot → not (beq has on) ≡ true
    → whole ≡ i + prefix_len (is_alike on) (drop i (flags slot cells)) → i ≡ whole
first_stops cells slot i on has cell whole within is has_is other whole_is =
    let unlike = ap (is_alike on) (flag_of cells slot i cell within is ∙ sym has_is)
    ∙ alike_other has on (not_true (beq has on) other) in
    let small : i < length (flags slot cells) = rw (length-map cells (λ (x : Cell). set.contains x.tags slot)) within in
    omega (arith, whole_is, prefix_len-drop_no (is_alike on) (flags slot cells) i false small unlike)

-- the run from the back: one cell more, and its end
pub last_more : (cells : List Cell) (slot n : ℕ) (on has : Bool) (cell : Cell) (whole : ℕ) → 0 < n → n ≤ length cells →
    cell ≡ get_or cells (n - 1) cell → has ≡ set.contains cell.tags slot → beq has on ≡ true
    → n + whole ≡ length cells + suffix_len (is_alike on) (take n (flags slot cells)) →
    (n - 1) + whole ≡ length cells + suffix_len (is_alike on) (take (n - 1) (flags slot cells))
last_more cells slot n on has cell whole some within is has_is same whole_is =
    let alike = ap (is_alike on) (flag_of cells slot (n - 1) cell (omega arith) is ∙ sym has_is)
    ∙ alike_same has on same in
    let small : n ≤ length (flags slot cells) = rw (length-map cells (λ (x : Cell). set.contains x.tags slot)) within in
    omega (arith, whole_is, suffix_len-take_yes (is_alike on) (flags slot cells) n false some small alike)

pub last_stops : (cells : List Cell) (slot n : ℕ) (on has : Bool) (cell : Cell) (whole : ℕ) → 0 < n → n ≤ length cells →
    cell ≡ get_or cells (n - 1) cell → has ≡ set.contains cell.tags slot → beq has on ≡ false
    → n + whole ≡ length cells + suffix_len (is_alike on) (take n (flags slot cells)) → n + whole ≡ length cells
last_stops cells slot n on has cell whole some within is has_is other whole_is =
    let unlike = ap (is_alike on) (flag_of cells slot (n - 1) cell (omega arith) is ∙ sym has_is)
    ∙ alike_other has on other in
    let small : n ≤ length (flags slot cells) = rw (length-map cells (λ (x : Cell). set.contains x.tags slot)) within in
    omega (arith, whole_is, suffix_len-take_no (is_alike on) (flags slot cells) n false some small unlike)

-- a change is behind the place that it is looked for from, and at the length at most
pub next_change-above : (flags : List Bool) (at : ℕ) → at < length flags → at < next_change flags at
next_change-above flags at within =
    omega (arith, prefix_len-drop_yes (is_alike (flag_at flags at)) flags at false within (itself (flag_at flags at)))

pub next_change-le : (flags : List Bool) (at : ℕ) → at ≤ length flags → next_change flags at ≤ length flags
next_change-le flags at within =
    omega (arith, prefix_len-le-length (is_alike (flag_at flags at)) (drop at flags), length-drop at flags)

pub previous_change-below : (flags : List Bool) (at : ℕ) → 0 < at → at ≤ length flags → previous_change flags at < at
previous_change-below flags at some within =
    omega (
      arith,
      suffix_len-take_yes (is_alike (flag_at flags (at - 1))) flags at false some within
          (itself (flag_at flags (at - 1))),
    )

-- what fixes the next change: every flag up to it is like the one at the place, and the one there isn't
pub next_change_is : (flags : List Bool) (at end : ℕ) → at < end → end ≤ length flags →
    ((k : ℕ) → at ≤ k → k < end → is_alike (flag_at flags at) (flag_at flags k) ≡ true)
    → (end < length flags → is_alike (flag_at flags at) (flag_at flags end) ≡ false) → next_change flags at ≡ end
next_change_is flags at end above within alike stops =
    let p = is_alike (flag_at flags at) in
    let rest = drop at flags in
    let count = end - at in
    let found : prefix_len p rest ≡ count =
    prefix_len_is p rest count false (omega (arith, length-drop at flags))
    (λ k below. ap p (get_or-drop at flags k false) ∙ alike (at + k) (omega arith) (omega arith))
    (λ more. ap p (get_or-drop at flags count false
    ∙ ap (λ n. get_or flags n false) (let same : at + count ≡ end = omega arith in same))
    ∙ stops (omega (arith, more, length-drop at flags))) in
    omega (arith, found)

-- what fixes the change before a place: every flag from it on is like the one before the place, and the one before it
-- isn't
pub previous_change_is : (flags : List Bool) (at start : ℕ) → start < at → at ≤ length flags →
    ((k : ℕ) → start ≤ k → k < at → is_alike (flag_at flags (at - 1)) (flag_at flags k) ≡ true)
    → (0 < start → is_alike (flag_at flags (at - 1)) (flag_at flags (start - 1)) ≡ false) →
    previous_change flags at ≡ start
previous_change_is flags at start below within alike stops =
    let p = is_alike (flag_at flags (at - 1)) in
    let front = take at flags in
    let long : length front ≡ at = length-take-le at flags within in
    let found : suffix_len p front ≡ length front - start =
    suffix_len_is p front start false (omega (arith, long))
    (λ k above more. ap p (get_or-take at flags k false (omega (arith, more, long)))
    ∙ alike k above (omega (arith, more, long)))
    (λ some. ap p (get_or-take at flags (start - 1) false (omega arith)) ∙ stops some) in
    omega (arith, found, long)

-- the two as the run of flags from a place on, and the run back from it
pub next_change_found : (cells now : List Cell) (slot at : ℕ) (has : Bool) (cell : Cell) (count : ℕ) →
    at < length cells → now ≡ cells → cell ≡ get_or cells at cell → has ≡ set.contains cell.tags slot
    → count ≡ prefix_len (is_alike has) (flags slot (take (length now - at) (drop at now))) →
    at + count ≡ next_change (flags slot cells) at
next_change_found cells now slot at has cell count within same is has_is count_is =
    let on : has ≡ flag_at (flags slot cells) at = has_is ∙ sym (flag_of cells slot at cell within is) in
    let rest : flags slot (take (length now - at) (drop at now)) ≡ drop at (flags slot cells) =
    ap (λ xs. flags slot (take (length xs - at) (drop at xs))) same ∙ ap (flags slot) (take_rest cells at)
    ∙ sym (drop-map (λ (x : Cell). set.contains x.tags slot) at cells) in
    ap (λ n. at + n) (count_is ∙ ap₂ (λ b xs. prefix_len (is_alike b) xs) on rest)

pub previous_change_found : (cells now : List Cell) (slot at : ℕ) (has : Bool) (cell : Cell) (count : ℕ) → 0 < at →
    at ≤ length cells → now ≡ cells → cell ≡ get_or cells (at - 1) cell → has ≡ set.contains cell.tags slot
    → count ≡ suffix_len (is_alike has) (flags slot (take at now)) → at - count ≡ previous_change (flags slot cells) at
previous_change_found cells now slot at has cell count some within same is has_is count_is =
    let on : has ≡ flag_at (flags slot cells) (at - 1) = has_is
    ∙ sym (flag_of cells slot (at - 1) cell (omega arith) is) in
    let front : flags slot (take at now) ≡ take at (flags slot cells) =
    ap (λ xs. flags slot (take at xs)) same ∙ sym (take-map (λ (x : Cell). set.contains x.tags slot) at cells) in
    ap (λ n. at - n) (count_is ∙ ap₂ (λ b xs. suffix_len (is_alike b) xs) on front)
