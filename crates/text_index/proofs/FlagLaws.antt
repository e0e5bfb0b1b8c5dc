-- Where flags change, and what that is in a part of a list of flags.
use Rattle.text_index.proofs.Common.{Part, shown_flags, ◌≡◌, ℕ, zero, suc, ◌+◌, ◌-◌, ◌<◌, ◌≤◌, min, max, Bool, true}
use Rattle.text_index.proofs.Common.{false, cond, not, List, [], ◌∷◌, ◌++◌, length, take, drop, get_or, None, Some}
use Rattle.text_index.proofs.Common.{refl, sym, ap, ap₂, ◌∙◌, arith, lt-ltb, le-ltb, length-drop, reverse, slice_range}
use Rattle.text_index.proofs.Common.{slice_get, nat_lt, if◌then◌else◌, prefix_len, suffix_len, take-append-drop}
use Rattle.text_index.proofs.Common.{take-take, drop-take, drop-drop, reverse-append, length-reverse, length-take-le}
use Rattle.text_index.proofs.Common.{get_or-take, get_or-drop, get_or-reverse, length-map, prefix_len_passes}
use Rattle.text_index.proofs.Common.{prefix_len_stops, prefix_len-le-length, suffix_len-le-length, ltb-true, ltb-false}
use Rattle.text_index.proofs.Common.{is_alike, flag_at, next_change, previous_change, Cell, flags, IsView, first_tagged}
use Rattle.text_index.proofs.Common.{last_tagged}
use Rattle.std.proofs.lemmas.Option.{get_or_from_slice_get}
use Rattle.std.specs.FinSet as set

-- how many pass at the front of a front
prefix-front : (test : Bool → Bool) (xs ys : List Bool) →
    prefix_len test xs ≡ min (length xs) (prefix_len test (xs ++ ys))
prefix-front test [] ys = omega arith
prefix-front test (x ∷ xs) ys =
    let rest = prefix-front test xs ys in
    elim (test x) as (λ b. cond b (1 + prefix_len test xs) 0
    ≡ min (suc (length xs)) (cond b (1 + prefix_len test (xs ++ ys)) 0)) [
      | true ↦ omega (arith, rest)
      | false ↦ omega arith
    ]

prefix-part : (test : Bool → Bool) (flags : List Bool) (start end : ℕ) → end ≤ length flags → start ≤ end
    → prefix_len test (slice_range flags start end) ≡ min (end - start) (prefix_len test (drop start flags))
prefix-part test flags start end within ordered =
    let rest = drop start flags in
    let long : length (take (end - start) rest)
    ≡ end - start = length-take-le (end - start) rest (omega (arith, length-drop start flags)) in
    prefix-front test (take (end - start) rest) (drop (end - start) rest)
    ∙ ap₂ (λ n xs. min n (prefix_len test xs)) long (take-append-drop (end - start) rest)

-- and at the back of a back
suffix-back : (test : Bool → Bool) (xs ys : List Bool) →
    suffix_len test ys ≡ min (length ys) (suffix_len test (xs ++ ys))
suffix-back test xs ys =
    prefix-front test (reverse ys) (reverse xs)
    ∙ ap₂ (λ n zs. min n (prefix_len test zs)) (length-reverse ys) (sym (reverse-append xs ys))

none-taken : (n : ℕ) → take {A = Bool} n [] ≡ []
none-taken zero = refl
none-taken (suc n) = refl

part-of-front : (flags : List Bool) (start end : ℕ) → start ≤ end →
    slice_range flags start end ≡ drop start (take end flags)
part-of-front flags zero end ordered = ap (λ k. take k flags) (let e : end - 0 ≡ end = omega arith in e)
part-of-front flags (suc start) zero ordered = absurd (omega arith)
part-of-front [] (suc start) (suc end) ordered = none-taken (suc end - suc start)
part-of-front (flag ∷ flags) (suc start) (suc end) ordered =
    ap (λ k. take k (drop start flags)) (let e : suc end - suc start ≡ end - start = omega arith in e)
    ∙ part-of-front flags start end (omega arith)

suffix-part : (test : Bool → Bool) (flags : List Bool) (start end : ℕ) → end ≤ length flags → start ≤ end
    → suffix_len test (slice_range flags start end) ≡ min (end - start) (suffix_len test (take end flags))
suffix-part test flags start end within ordered =
    let front = take end flags in
    let long : length (drop start front) ≡ end - start = length-drop start front
    ∙ omega (arith, length-take-le end flags within) in
    ap (suffix_len test) (part-of-front flags start end ordered)
    ∙ suffix-back test (take start front) (drop start front)
    ∙ ap₂ (λ n xs. min n (suffix_len test xs)) long (take-append-drop start front)

pub length-part : (flags : List Bool) (start end : ℕ) → end ≤ length flags → start ≤ end →
    length (slice_range flags start end) ≡ end - start
length-part flags start end within ordered =
    length-take-le (end - start) (drop start flags) (omega (arith, length-drop start flags))

-- ---- a flag and a change of a part

pub part-flag : (flags : List Bool) (start end place : ℕ) (flag : Bool) → start + place < end →
    slice_get flags (start + place) ≡ Some flag → flag ≡ flag_at (slice_range flags start end) place
part-flag flags start end place flag within is =
    sym (get_or-take (end - start) (drop start flags) place false (omega arith) ∙ get_or-drop start flags place false
    ∙ get_or_from_slice_get flags (start + place) flag false is)

same-flag : (flags : List Bool) (start end place : ℕ) → start + place < end →
    flag_at (slice_range flags start end) place ≡ flag_at flags (start + place)
same-flag flags start end place within =
    get_or-take (end - start) (drop start flags) place false (omega arith) ∙ get_or-drop start flags place false

part-drop : (flags : List Bool) (start end place : ℕ) → start + place ≤ end →
    drop place (slice_range flags start end) ≡ slice_range flags (start + place) end
part-drop flags start end place within =
    let rest = end - (start + place) in
    ap (λ n. drop place (take n (drop start flags))) (let e : end - start ≡ place + rest = omega arith in e)
    ∙ drop-take place rest (drop start flags)
    ∙ ap (take rest) (drop-drop place start flags)

pub part-next : (flags : List Bool) (start end place : ℕ) → end ≤ length flags → start + place < end
    → min (next_change flags (start + place)) end - start ≡ next_change (slice_range flags start end) place
part-next flags start end place within inside =
    let test = is_alike (flag_at flags (start + place)) in
    let run : prefix_len (is_alike (flag_at (slice_range flags start end) place))
    (drop place (slice_range flags start end))
    ≡ min (end - (start + place)) (prefix_len test (drop (start + place) flags)) =
    ap₂ (λ flag xs. prefix_len (is_alike flag) xs) (same-flag flags start end place inside)
    (part-drop flags start end place (omega arith))
    ∙ prefix-part test flags (start + place) end within (omega arith) in
    omega (arith, run)

part-take : (flags : List Bool) (start end place : ℕ) → start + place ≤ end →
    take place (slice_range flags start end) ≡ slice_range flags start (start + place)
part-take flags start end place within =
    take-take place (end - start) (drop start flags) (omega arith)
    ∙ ap (λ n. take n (drop start flags)) (let e : place ≡ start + place - start = omega arith in e)

pub part-previous : (flags : List Bool) (start end place : ℕ) → end ≤ length flags → 0 < place → start + place ≤ end
    → max (previous_change flags (start + place)) start - start ≡ previous_change (slice_range flags start end) place
part-previous flags start end place within some inside =
    let test = is_alike (flag_at flags (start + place - 1)) in
    let before : flag_at (slice_range flags start end) (place - 1) ≡ flag_at flags (start + place - 1) =
    same-flag flags start end (place - 1) (omega arith)
    ∙ ap (flag_at flags) (let e : start + (place - 1) ≡ start + place - 1 = omega arith in e) in
    let run : suffix_len (is_alike (flag_at (slice_range flags start end) (place - 1)))
    (take place (slice_range flags start end))
    ≡ min (start + place - start) (suffix_len test (take (start + place) flags)) =
    ap₂ (λ flag xs. suffix_len (is_alike flag) xs) before (part-take flags start end place inside)
    ∙ suffix-part test flags start (start + place) (omega arith) (omega arith) in
    omega (arith, run)

-- ---- up to a change all flags are alike, and there is another one

pub next-alike : (flags : List Bool) (at k : ℕ) → at ≤ k → k < next_change flags at →
    is_alike (flag_at flags at) (flag_at flags k) ≡ true
next-alike flags at k from below =
    let test = is_alike (flag_at flags at) in
    ap test (sym (get_or-drop at flags (k - at) false
    ∙ ap (flag_at flags) (let e : at + (k - at) ≡ k = omega arith in e)))
    ∙ prefix_len_passes test (drop at flags) (k - at) false (omega arith)

pub next-other : (flags : List Bool) (at : ℕ) → next_change flags at < length flags →
    is_alike (flag_at flags at) (flag_at flags (next_change flags at)) ≡ false
next-other flags at within =
    let test = is_alike (flag_at flags at) in
    ap test (sym (get_or-drop at flags (prefix_len test (drop at flags)) false))
    ∙ prefix_len_stops test (drop at flags) false (omega (arith, length-drop at flags))

suffix-passes : (test : Bool → Bool) (xs : List Bool) (k : ℕ) → length xs - suffix_len test xs ≤ k → k < length xs →
    test (get_or xs k false) ≡ true
suffix-passes test xs k from below =
    let back = length xs - 1 - k in
    ap test (sym (get_or-reverse xs back false (omega arith)
    ∙ ap (λ n. get_or xs n false) (let e : length xs - 1 - back ≡ k = omega arith in e)))
    ∙ prefix_len_passes test (reverse xs) back false (omega arith)

suffix-stops : (test : Bool → Bool) (xs : List Bool) → 0 < length xs - suffix_len test xs →
    test (get_or xs (length xs - suffix_len test xs - 1) false) ≡ false
suffix-stops test xs some =
    let back = suffix_len test xs in
    ap test (sym (get_or-reverse xs back false (omega arith)
    ∙ ap (λ n. get_or xs n false) (let e : length xs - 1 - back ≡ length xs - back - 1 = omega arith in e)))
    ∙ prefix_len_stops test (reverse xs) false (omega (arith, length-reverse xs))

pub previous-alike : (flags : List Bool) (at k : ℕ) → at ≤ length flags → previous_change flags at ≤ k → k < at →
    is_alike (flag_at flags (at - 1)) (flag_at flags k) ≡ true
previous-alike flags at k within from below =
    let test = is_alike (flag_at flags (at - 1)) in
    let long : length (take at flags) ≡ at = length-take-le at flags within in
    ap test (sym (get_or-take at flags k false below))
    ∙ suffix-passes test (take at flags) k (omega (arith, long)) (omega (arith, long))

pub previous-other : (flags : List Bool) (at : ℕ) → at ≤ length flags → 0 < previous_change flags at →
    is_alike (flag_at flags (at - 1)) (flag_at flags (previous_change flags at - 1)) ≡ false
previous-other flags at within some =
    let test = is_alike (flag_at flags (at - 1)) in
    let front = take at flags in
    let long : length front ≡ at = length-take-le at flags within in
    ap test (sym (get_or-take at flags (previous_change flags at - 1) false (omega arith))
    ∙ ap (λ n. get_or front (n - suffix_len test front - 1) false) (sym long))
    ∙ suffix-stops test front (omega (arith, long))

-- ---- the first flag that is set, and the place behind the last

first-found : (part : List Bool) (at : ℕ) → prefix_len not part ≡ at → at < length part → first_tagged part ≡ Some at
first-found part at is within =
    ap (λ n. cond (nat_lt n (length part)) (Some n) None) is
    ∙ ap (λ b. cond b (Some at) None) (lt-ltb at (length part) within)

first-none : (part : List Bool) → prefix_len not part ≡ length part → first_tagged part ≡ None
first-none part is =
    ap (λ n. cond (nat_lt n (length part)) (Some n) None) is
    ∙ ap (λ b. cond b (Some (length part)) None) (le-ltb (length part) (length part) (omega arith))

last-found : (part : List Bool) (behind : ℕ) → suffix_len not part ≡ behind → behind < length part →
    last_tagged part ≡ Some (length part - behind)
last-found part behind is within =
    ap (λ n. if nat_lt n (length part) then Some (length part - n) else None) is
    ∙ ap (λ b. if b then Some (length part - behind) else None) (lt-ltb behind (length part) within)

last-none : (part : List Bool) → suffix_len not part ≡ length part → last_tagged part ≡ None
last-none part is =
    ap (λ n. if nat_lt n (length part) then Some (length part - n) else None) is
    ∙ ap (λ b. if b then Some (length part - length part) else None) (le-ltb (length part) (length part) (omega arith))

unset : (flag : Bool) → not flag ≡ true → flag ≡ false
unset true is = sym is
unset false is = refl

set_there : (flag : Bool) → not flag ≡ false → flag ≡ true
set_there true is = refl
set_there false is = sym is

pub first-set : (flags : List Bool) (at : ℕ) → first_tagged flags ≡ Some at →
    (at < length flags) × (flag_at flags at ≡ true) × ((k : ℕ) → k < at → flag_at flags k ≡ false)
first-set flags at is =
    let n = prefix_len not flags in
    elim (nat_lt n (length flags)) as (λ b. nat_lt n (length flags) ≡ b →
    (at < length flags) × (flag_at flags at ≡ true) × ((k : ℕ) → k < at → flag_at flags k ≡ false)) [
      | true ↦ λ yes.
          let within : n < length flags = ltb-true n (length flags) yes in
          let found : Some n ≡ Some at = sym (first-found flags n refl within) ∙ is in
          let here : n ≡ at = cc in (
            omega arith,
            ap (flag_at flags) (sym here) ∙ set_there (flag_at flags n) (prefix_len_stops not flags false within),
            λ k below. unset (flag_at flags k) (prefix_len_passes not flags k false (omega arith)),
          )
      | false ↦ λ no.
          let all : n ≡ length flags = omega (arith, ltb-false n (length flags) no, prefix_len-le-length not flags) in
          absurd (let none : Some at ≡ None = sym is ∙ first-none flags all in cc)
    ] refl

pub first-unset : (flags : List Bool) → first_tagged flags ≡ None → (k : ℕ) → k < length flags → flag_at flags k ≡ false
first-unset flags is k below =
    let n = prefix_len not flags in
    elim (nat_lt n (length flags)) as (λ b. nat_lt n (length flags) ≡ b → flag_at flags k ≡ false) [
      | true ↦ λ yes. absurd (let some : None ≡ Some n = sym is
          ∙ first-found flags n refl (ltb-true n (length flags) yes) in cc)
      | false ↦ λ no. unset (flag_at flags k)
          (prefix_len_passes not flags k false (omega (arith, ltb-false n (length flags) no)))
    ] refl

pub last-set : (flags : List Bool) (at : ℕ) → last_tagged flags ≡ Some at
    → (0 < at) × (at ≤ length flags) × (flag_at flags (at - 1) ≡ true)
    × ((k : ℕ) → at ≤ k → k < length flags → flag_at flags k ≡ false)
last-set flags at is =
    let n = suffix_len not flags in
    elim (nat_lt n (length flags)) as (λ b. nat_lt n (length flags) ≡ b
    → (0 < at) × (at ≤ length flags) × (flag_at flags (at - 1) ≡ true)
    × ((k : ℕ) → at ≤ k → k < length flags → flag_at flags k ≡ false)) [
      | true ↦ λ yes.
          let within : n < length flags = ltb-true n (length flags) yes in
          let found : Some (length flags - n) ≡ Some at = sym (last-found flags n refl within) ∙ is in
          let here : length flags - n ≡ at = cc in (
            omega arith,
            omega arith,
            ap (λ place. flag_at flags (place - 1)) (sym here)
                ∙ set_there (flag_at flags (length flags - n - 1)) (suffix-stops not flags (omega arith)),
            λ k from below. unset (flag_at flags k) (suffix-passes not flags k (omega arith) below),
          )
      | false ↦ λ no.
          let all : n ≡ length flags = omega (arith, ltb-false n (length flags) no, suffix_len-le-length not flags) in
          absurd (let none : Some at ≡ None = sym is ∙ last-none flags all in cc)
    ] refl

pub last-unset : (flags : List Bool) → last_tagged flags ≡ None → (k : ℕ) → k < length flags → flag_at flags k ≡ false
last-unset flags is k below =
    let n = suffix_len not flags in
    elim (nat_lt n (length flags)) as (λ b. nat_lt n (length flags) ≡ b → flag_at flags k ≡ false) [
      | true ↦ λ yes. absurd (let some : None ≡ Some (length flags - n) = sym is
          ∙ last-found flags n refl (ltb-true n (length flags) yes) in cc)
      | false ↦ λ no. unset (flag_at flags k)
          (suffix-passes not flags k (omega (arith, ltb-false n (length flags) no)) below)
    ] refl

-- a view's end is within the flags of a slot
pub flags-within : (part : Part) (slot : ℕ) → IsView part → part.end ≤ length (flags slot part.content.cells)
flags-within part slot view =
    omega (
      arith,
      view.behind.within,
      length-map part.content.cells (λ (cell : Cell). cell.character),
      length-map part.content.cells (λ (cell : Cell). set.contains cell.tags slot),
    )

pub length-shown_flags : (part : Part) (slot : ℕ) → IsView part → length (shown_flags slot part) ≡ part.end - part.start
length-shown_flags part slot view =
    length-part (flags slot part.content.cells) part.start part.end (flags-within part slot view) view.ordered
