-- The ranges of flags: what walks over them, place by place.
use Rattle.text_index.proofs.Common.{◌≡◌, ℕ, zero, suc, ◌+◌, ◌-◌, ◌<◌, ◌≤◌, Bool, true, false, cond, not, List, [], ◌∷◌}
use Rattle.text_index.proofs.Common.{Some, None, length, drop, refl, sym, subst, ap, ap₂, ◌∙◌, arith, lt-ltb, le-ltb}
use Rattle.text_index.proofs.Common.{nat_le, filter, find, IfSome, prefix_len, last_or, le-leb, lt-leb, leb-true}
use Rattle.text_index.proofs.Common.{is_alike, flag_at, next_change, is_set, ranges_behind, tag_ranges, begins_from}
use Rattle.text_index.proofs.Common.{begins_before, ranges_from, next_range, previous_range, and_later, begins}
use Rattle.text_index.proofs.Common.{TagRange, ◌&&◌, Option}

-- whether a range begins at a place of flags behind another flag
abbrev starts : Bool → List Bool → ℕ → Bool
starts before [] at = false
starts before (flag ∷ flags) zero = flag && not before
starts before (flag ∷ flags) (suc at) = starts flag flags at

-- the range that begins at a place, of flags of which so many stand before it
abbrev range_in : ℕ → List Bool → ℕ → TagRange
range_in place flags at = record { start = place; end = place + prefix_len is_set (drop at flags) }

same-range : (a b c d : ℕ) → a ≡ c → b ≡ d → (let r : TagRange = record { start = a; end = b } in r)
    ≡ record { start = c; end = d }
same-range a b c d starts ends = λ i. record { start = starts i; end = ends i }

-- ---- the first range from a place on

find-low : (before : Bool) (at p q : ℕ) (flags : List Bool) → p ≤ at → q ≤ at →
    find (begins_from p) (ranges_behind before at flags) ≡ find (begins_from q) (ranges_behind before at flags)
find-low before at p q [] low lower = refl
find-low before at p q (false ∷ flags) low lower = find-low false (suc at) p q flags (omega arith) (omega arith)
find-low true at p q (true ∷ flags) low lower = find-low true (suc at) p q flags (omega arith) (omega arith)
find-low false at p q (true ∷ flags) low lower = rw (le-leb p at low) (rw (le-leb q at lower) refl)

find-none : (before : Bool) (at place : ℕ) (flags : List Bool) → at + length flags ≤ place →
    find (begins_from place) (ranges_behind before at flags) ≡ None
find-none before at place [] behind = refl
find-none before at place (false ∷ flags) behind = find-none false (suc at) place flags (omega arith)
find-none true at place (true ∷ flags) behind = find-none true (suc at) place flags (omega arith)
find-none false at place (true ∷ flags) behind =
    rw (lt-leb place at (omega arith)) (find-none true (suc at) place flags (omega arith))

find-step : (before : Bool) (at : ℕ) (flags : List Bool) (k place : ℕ) → place ≡ at + k → k < length flags
    → find (begins_from place) (ranges_behind before at flags)
    ≡ cond (starts before flags k) (Some (range_in place flags k))
    (find (begins_from (suc place)) (ranges_behind before at flags))
find-step before at [] k place is within = absurd (omega arith)
find-step before at (false ∷ flags) zero place is within =
    find-low false (suc at) place (suc place) flags (omega arith) (omega arith)
find-step before at (false ∷ flags) (suc k) place is within =
    find-step false (suc at) flags k place (omega arith) (omega arith)
find-step true at (true ∷ flags) zero place is within =
    find-low true (suc at) place (suc place) flags (omega arith) (omega arith)
find-step true at (true ∷ flags) (suc k) place is within =
    find-step true (suc at) flags k place (omega arith) (omega arith)
find-step false at (true ∷ flags) zero place is within =
    rw (le-leb place at (omega arith))
    (ap Some (same-range at (suc at + prefix_len is_set flags) place (place + (1 + prefix_len is_set flags))
    (omega arith) (omega arith)))
find-step false at (true ∷ flags) (suc k) place is within =
    rw (lt-leb place at (omega arith)) (rw (lt-leb (suc place) at (omega arith))
    (find-step true (suc at) flags k place (omega arith) (omega arith)))

next-found-after : (n : ℕ) (flags : List Bool) (place start : ℕ) → place + n ≡ start → start < length flags
    → ((k : ℕ) → place ≤ k → k < start → starts false flags k ≡ false) → starts false flags start ≡ true →
    next_range flags place ≡ Some (range_in start flags start)
next-found-after zero flags place start is within none some =
    let here : place ≡ start = omega arith in
    ap (next_range flags) here ∙ find-step false 0 flags start start (omega arith) within
    ∙ ap (λ b. cond b (Some (range_in start flags start)) (next_range flags (suc start))) some
next-found-after (suc n) flags place start is within none some =
    find-step false 0 flags place place (omega arith) (omega arith)
    ∙ ap (λ b. cond b (Some (range_in place flags place)) (next_range flags (suc place)))
    (none place (omega arith) (omega arith))
    ∙ next-found-after n flags (suc place) start (omega arith) within (λ k from below. none k (omega arith) below) some

next-none-after : (n : ℕ) (flags : List Bool) (place : ℕ) → place + n ≡ length flags →
    ((k : ℕ) → place ≤ k → k < length flags → starts false flags k ≡ false) → next_range flags place ≡ None
next-none-after zero flags place is none = find-none false 0 place flags (omega arith)
next-none-after (suc n) flags place is none =
    find-step false 0 flags place place (omega arith) (omega arith)
    ∙ ap (λ b. cond b (Some (range_in place flags place)) (next_range flags (suc place)))
    (none place (omega arith) (omega arith))
    ∙ next-none-after n flags (suc place) (omega arith) (λ k from below. none k (omega arith) below)

-- ---- the last range before a place

filter-none : (before : Bool) (at place : ℕ) (flags : List Bool) → place ≤ at →
    filter (begins_before place) (ranges_behind before at flags) ≡ []
filter-none before at place [] behind = refl
filter-none before at place (false ∷ flags) behind = filter-none false (suc at) place flags (omega arith)
filter-none true at place (true ∷ flags) behind = filter-none true (suc at) place flags (omega arith)
filter-none false at place (true ∷ flags) behind =
    rw (le-ltb at place behind) (filter-none true (suc at) place flags (omega arith))

last-none-before : (before : Bool) (at place : ℕ) (found : Option TagRange) (flags : List Bool) → place ≤ at →
    last_or found (filter (begins_before place) (ranges_behind before at flags)) ≡ found
last-none-before before at place found flags behind = ap (last_or found) (filter-none before at place flags behind)

last-step : (before : Bool) (at : ℕ) (found : Option TagRange) (flags : List Bool) (k place : ℕ) → place ≡ at + k →
    k < length flags
    → last_or found (filter (begins_before (suc place)) (ranges_behind before at flags))
    ≡ cond (starts before flags k) (Some (range_in place flags k))
    (last_or found (filter (begins_before place) (ranges_behind before at flags)))
last-step before at found [] k place is within = absurd (omega arith)
last-step before at found (false ∷ flags) zero place is within =
    last-none-before false (suc at) (suc place) found flags (omega arith)
    ∙ sym (last-none-before false (suc at) place found flags (omega arith))
last-step before at found (false ∷ flags) (suc k) place is within =
    last-step false (suc at) found flags k place (omega arith) (omega arith)
last-step true at found (true ∷ flags) zero place is within =
    last-none-before true (suc at) (suc place) found flags (omega arith)
    ∙ sym (last-none-before true (suc at) place found flags (omega arith))
last-step true at found (true ∷ flags) (suc k) place is within =
    last-step true (suc at) found flags k place (omega arith) (omega arith)
last-step false at found (true ∷ flags) zero place is within =
    rw (lt-ltb at (suc place) (omega arith)) (last-none-before true (suc at) (suc place) _ flags (omega arith)
    ∙ ap Some (same-range at (suc at + prefix_len is_set flags) place (place + (1 + prefix_len is_set flags))
    (omega arith) (omega arith)))
last-step false at found (true ∷ flags) (suc k) place is within =
    rw (lt-ltb at (suc place) (omega arith)) (rw (lt-ltb at place (omega arith))
    (last-step true (suc at) (Some (record { start = at; end = suc at + prefix_len is_set flags })) flags k place
    (omega arith) (omega arith)))

previous-found-after : (n : ℕ) (flags : List Bool) (place start : ℕ) → suc start + n ≡ place → place ≤ length flags
    → ((k : ℕ) → start < k → k < place → starts false flags k ≡ false) → starts false flags start ≡ true →
    previous_range flags place ≡ Some (range_in start flags start)
previous-found-after zero flags place start is within none some =
    let here : place ≡ suc start = omega arith in
    ap (previous_range flags) here ∙ last-step false 0 None flags start start (omega arith) (omega arith)
    ∙ ap (λ b. cond b (Some (range_in start flags start)) (previous_range flags start)) some
previous-found-after (suc n) flags zero start is within none some = absurd (omega arith)
previous-found-after (suc n) flags (suc place) start is within none some =
    last-step false 0 None flags place place (omega arith) (omega arith)
    ∙ ap (λ b. cond b (Some (range_in place flags place)) (previous_range flags place))
    (none place (omega arith) (omega arith))
    ∙ previous-found-after n flags place start (omega arith) (omega arith) (λ k above below. none k above (omega arith))
    some

previous-none-after : (flags : List Bool) (place : ℕ) → place ≤ length flags →
    ((k : ℕ) → k < place → starts false flags k ≡ false) → previous_range flags place ≡ None
previous-none-after flags zero within none = last-none-before false 0 0 None flags (omega arith)
previous-none-after flags (suc place) within none =
    last-step false 0 None flags place place (omega arith) (omega arith)
    ∙ ap (λ b. cond b (Some (range_in place flags place)) (previous_range flags place)) (none place (omega arith))
    ∙ previous-none-after flags place (omega arith) (λ k below. none k (omega arith))

-- ---- by where ranges begin

begins-behind : (before : Bool) (flags : List Bool) (k : ℕ) →
    starts before flags (suc k) ≡ flag_at flags (suc k) && not (flag_at flags k)
begins-behind before [] k = refl
begins-behind before (flag ∷ []) zero = refl
begins-behind before (flag ∷ next ∷ flags) zero = refl
begins-behind before (flag ∷ flags) (suc k) = begins-behind flag flags k

and-true : (flag : Bool) → flag && true ≡ flag
and-true true = refl
and-true false = refl

starts-begins : (flags : List Bool) (place : ℕ) → starts false flags place ≡ begins flags place
starts-begins [] zero = refl
starts-begins (flag ∷ flags) zero = and-true flag
starts-begins flags (suc before) = begins-behind false flags before

pub no-begin : (flags : List Bool) (place : ℕ) → flag_at flags place ≡ false → begins flags place ≡ false
no-begin flags zero unset = unset
no-begin flags (suc before) unset = ap (λ b. b && not (flag_at flags before)) unset

and-false : (flag : Bool) → flag && false ≡ false
and-false true = refl
and-false false = refl

pub no-begin-behind : (flags : List Bool) (place : ℕ) → 0 < place → flag_at flags (place - 1) ≡ true →
    begins flags place ≡ false
no-begin-behind flags zero some set = absurd (omega arith)
no-begin-behind flags (suc before) some set =
    let here : flag_at flags before ≡ true = ap (flag_at flags) (let e : before ≡ suc before - 1 = omega arith in e)
    ∙ set in
    ap (λ b. flag_at flags (suc before) && not b) here ∙ and-false (flag_at flags (suc before))

pub begin : (flags : List Bool) (place : ℕ) → flag_at flags place ≡ true →
    (0 < place → flag_at flags (place - 1) ≡ false) → begins flags place ≡ true
begin flags zero set unset = set
begin flags (suc before) set unset =
    let here : flag_at flags before ≡ false = ap (flag_at flags) (let e : before ≡ suc before - 1 = omega arith in e)
    ∙ unset (omega arith) in
    ap₂ (λ a b. a && not b) set here

-- the range that begins at a flag that is set goes to the next change
range-there : (flags : List Bool) (start : ℕ) → flag_at flags start ≡ true →
    range_in start flags start ≡ record { start = start; end = next_change flags start }
range-there flags start set = same-range start (start + prefix_len is_set (drop start flags)) start
    (next_change flags start) refl (ap (λ b. start + prefix_len (is_alike b) (drop start flags)) (sym set))

pub begun-set : (flags : List Bool) (start : ℕ) → begins flags start ≡ true → flag_at flags start ≡ true
begun-set flags zero is = is
begun-set flags (suc before) is =
    elim (flag_at flags (suc before)) as (λ b. b && not (flag_at flags before) ≡ true →
    b ≡ true) [ true ↦ λ _. refl | false ↦ λ no. no ] is

pub next-found : (flags : List Bool) (place start : ℕ) → place ≤ start → start < length flags →
    ((k : ℕ) → place ≤ k → k < start → begins flags k ≡ false)
    → begins flags start ≡ true → Some (record { start = start; end = next_change flags start })
    ≡ next_range flags place
next-found flags place start from within none some =
    sym (next-found-after (start - place) flags place start (omega arith) within (λ k low high. starts-begins flags k
    ∙ none k low high) (starts-begins flags start ∙ some)
    ∙ ap Some (range-there flags start (begun-set flags start some)))

pub next-none : (flags : List Bool) (place : ℕ) → place ≤ length flags →
    ((k : ℕ) → place ≤ k → k < length flags → begins flags k ≡ false) → None ≡ next_range flags place
next-none flags place within none = sym (next-none-after (length flags - place) flags place (omega arith) (λ k low high.
    starts-begins flags k ∙ none k low high))

pub previous-found : (flags : List Bool) (place start : ℕ) → start < place → place ≤ length flags →
    ((k : ℕ) → start < k → k < place → begins flags k ≡ false)
    → begins flags start ≡ true → Some (record { start = start; end = next_change flags start })
    ≡ previous_range flags place
previous-found flags place start before within none some =
    sym (previous-found-after (place - suc start) flags place start (omega arith) within (λ k low high.
    starts-begins flags k ∙ none k low high) (starts-begins flags start ∙ some)
    ∙ ap Some (range-there flags start (begun-set flags start some)))

pub previous-none : (flags : List Bool) (place : ℕ) → place ≤ length flags →
    ((k : ℕ) → k < place → begins flags k ≡ false) → None ≡ previous_range flags place
previous-none flags place within none =
    sym (previous-none-after flags place within (λ k high. starts-begins flags k ∙ none k high))

-- ---- the ranges from a place on: the first of them, and those from its end on

from-all : (before : Bool) (at place : ℕ) (flags : List Bool) → place ≤ at →
    filter (begins_from place) (ranges_behind before at flags) ≡ ranges_behind before at flags
from-all before at place [] low = refl
from-all before at place (false ∷ flags) low = from-all false (suc at) place flags (omega arith)
from-all true at place (true ∷ flags) low = from-all true (suc at) place flags (omega arith)
from-all false at place (true ∷ flags) low =
    rw (le-leb place at low) (ap (λ rest. record { start = at; end = suc at + prefix_len is_set flags } ∷ rest)
    (from-all true (suc at) place flags (omega arith)))

from-run : (at place : ℕ) (flags : List Bool) → place ≤ at + prefix_len is_set flags →
    filter (begins_from place) (ranges_behind true at flags) ≡ ranges_behind true at flags
from-run at place [] low = refl
from-run at place (false ∷ flags) low = from-all false (suc at) place flags (omega arith)
from-run at place (true ∷ flags) low = from-run (suc at) place flags (omega arith)

-- the ranges that come behind one, among some
abbrev with_later : List TagRange → Option TagRange → List TagRange
with_later ranges None = []
with_later ranges (Some range) = range ∷ filter (begins_from range.end) ranges

abbrev EndsAbove : ℕ → Option TagRange → Type 0
EndsAbove at None = Unit {0}
EndsAbove at (Some range) = at < range.end

found-above : (before : Bool) (at low place : ℕ) (flags : List Bool) → low ≤ at →
    EndsAbove low (find (begins_from place) (ranges_behind before at flags))
found-above before at low place [] below = tt
found-above before at low place (false ∷ flags) below = found-above false (suc at) low place flags (omega arith)
found-above true at low place (true ∷ flags) below = found-above true (suc at) low place flags (omega arith)
found-above false at low place (true ∷ flags) below =
    elim (nat_le place at) as (λ b.
    EndsAbove low (cond b (Some (record { start = at; end = suc at + prefix_len is_set flags }))
    (find (begins_from place) (ranges_behind true (suc at) flags)))) [
      | true ↦ let e : low < suc at + prefix_len is_set flags = omega arith in e
      | false ↦ found-above true (suc at) low place flags (omega arith)
    ]

-- a range before those that are looked at is passed
with_later-behind : (ranges : List TagRange) (first : TagRange) (found : Option TagRange) →
    EndsAbove first.start found → with_later ranges found ≡ with_later (first ∷ ranges) found
with_later-behind ranges first None above = refl
with_later-behind ranges first (Some range) above = rw (lt-leb range.end first.start above) refl

from-step : (before : Bool) (at place : ℕ) (flags : List Bool)
    → filter (begins_from place) (ranges_behind before at flags)
    ≡ with_later (ranges_behind before at flags) (find (begins_from place) (ranges_behind before at flags))
from-step before at place [] = refl
from-step before at place (false ∷ flags) = from-step false (suc at) place flags
from-step true at place (true ∷ flags) = from-step true (suc at) place flags
from-step false at place (true ∷ flags) =
    let first : TagRange = record { start = at; end = suc at + prefix_len is_set flags } in
    let ranges = ranges_behind true (suc at) flags in
    elim (nat_le place at) as (λ b. nat_le place at ≡ b →
    cond b (first ∷ filter (begins_from place) ranges) (filter (begins_from place) ranges)
    ≡ with_later (first ∷ ranges) (cond b (Some first) (find (begins_from place) ranges))) [
      | true ↦ λ low.
          ap (λ rest. first ∷ rest) (from-all true (suc at) place flags (omega (arith, leb-true place at low))
          ∙ sym (rw (lt-leb first.end at (omega arith)) (from-run (suc at) first.end flags (omega arith))))
      | false ↦ λ _.
          from-step true (suc at) place flags
          ∙ with_later-behind ranges first (find (begins_from place) ranges)
          (found-above true (suc at) at place flags (omega arith))
    ] refl

-- For who lists ranges: those from a place on are the first of them, and then those from its end on.
pub ranges_from-step : (flags : List Bool) (place : ℕ) →
    ranges_from flags place ≡ and_later flags (next_range flags place)
ranges_from-step flags place =
    from-step false 0 place flags
    ∙ elim (next_range flags place) as (λ found. with_later (tag_ranges flags) found
    ≡ and_later flags found) [ None ↦ refl | Some range ↦ refl ]

pub ranges_from-first : (flags : List Bool) → ranges_from flags 0 ≡ tag_ranges flags
ranges_from-first flags = from-all false 0 0 flags (omega arith)

-- ---- the character behind a range hasn't the tag

run-unset : (flags : List Bool) → flag_at flags (prefix_len is_set flags) ≡ false
run-unset [] = refl
run-unset (false ∷ flags) = refl
run-unset (true ∷ flags) =
    let next : 1 + prefix_len is_set flags ≡ suc (prefix_len is_set flags) = omega arith in
    ap (flag_at (true ∷ flags)) next ∙ run-unset flags

found-unset : (all : List Bool) (before : Bool) (at place : ℕ) (flags : List Bool) →
    ((k : ℕ) → flag_at all (at + k) ≡ flag_at flags k) →
    IfSome (find (begins_from place) (ranges_behind before at flags)) (λ range. flag_at all range.end ≡ false)
found-unset all before at place [] same = tt
found-unset all before at place (false ∷ flags) same =
    found-unset all false (suc at) place flags (λ k.
    let next : suc at + k ≡ at + suc k = omega arith in ap (flag_at all) next ∙ same (suc k))
found-unset all true at place (true ∷ flags) same =
    found-unset all true (suc at) place flags (λ k.
    let next : suc at + k ≡ at + suc k = omega arith in ap (flag_at all) next ∙ same (suc k))
found-unset all false at place (true ∷ flags) same =
    let run = prefix_len is_set flags in
    elim (nat_le place at) as (λ b.
    IfSome (cond b (Some (record { start = at; end = suc at + run }))
    (find (begins_from place) (ranges_behind true (suc at) flags))) (λ range. flag_at all range.end ≡ false)) [
      | true ↦
          let next : suc at + run ≡ at + suc run = omega arith in
          ap (flag_at all) next ∙ same (suc run) ∙ run-unset flags
      | false ↦ found-unset all true (suc at) place flags (λ k.
          let next : suc at + k ≡ at + suc k = omega arith in ap (flag_at all) next ∙ same (suc k))
    ]

-- For who goes on at a range's end.
pub range-unset : (flags : List Bool) (place : ℕ) (found : Option TagRange) → found ≡ next_range flags place →
    IfSome found (λ range. flag_at flags range.end ≡ false)
range-unset flags place found is =
    subst (λ r. IfSome r (λ range. flag_at flags range.end ≡ false)) (sym is)
    (found-unset flags false 0 place flags (λ k. let same : 0 + k ≡ k = omega arith in ap (flag_at flags) same))
