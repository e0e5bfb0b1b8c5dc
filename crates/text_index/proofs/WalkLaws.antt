-- What a walk over the ranges of flags meets, change by change.
use Rattle.text_index.proofs.Common.{◌≡◌, ℕ, ◌-◌, ◌<◌, ◌≤◌, Bool, true, false, not, List, length, Some, None, refl, sym}
use Rattle.text_index.proofs.Common.{ap, ◌∙◌, arith, nat_lt, option_map, false≢true, ltb-true, ltb-false, get_or_past}
use Rattle.text_index.proofs.Common.{is_alike, flag_at, next_change, previous_change, begins, next_range}
use Rattle.text_index.proofs.Common.{previous_range, first_tagged, last_tagged, TagRange, Option}
use Rattle.text_model.proofs.ChangeLaws.{next_change_is, previous_change-below}
use Rattle.text_index.proofs.FlagLaws.{next-alike, next-other, previous-alike, previous-other, first-set, first-unset}
use Rattle.text_index.proofs.FlagLaws.{last-set, last-unset}
use Rattle.text_index.proofs.RangeLaws.{begin, no-begin, no-begin-behind, next-found, next-none, previous-found}
use Rattle.text_index.proofs.RangeLaws.{previous-none}

on : (flag other : Bool) → flag ≡ true → is_alike flag other ≡ true → other ≡ true
on flag other set alike = ap (λ b. is_alike b other) (sym set) ∙ alike

on-other : (flag other : Bool) → flag ≡ true → is_alike flag other ≡ false → other ≡ false
on-other flag other set unlike = ap (λ b. is_alike b other) (sym set) ∙ unlike

not-true : (flag : Bool) → not flag ≡ true → flag ≡ false
not-true true is = sym is
not-true false is = refl

not-false : (flag : Bool) → not flag ≡ false → flag ≡ true
not-false true is = refl
not-false false is = sym is

off : (flag other : Bool) → flag ≡ false → is_alike flag other ≡ true → other ≡ false
off flag other unset alike = not-true other (ap (λ b. is_alike b other) (sym unset) ∙ alike)

off-other : (flag other : Bool) → flag ≡ false → is_alike flag other ≡ false → other ≡ true
off-other flag other unset unlike = not-false other (ap (λ b. is_alike b other) (sym unset) ∙ unlike)

-- ---- a range that begins before a place

-- within a run no range begins
pub range-passed : (flags : List Bool) (place change k : ℕ) → 0 < place → flag_at flags (place - 1) ≡ true →
    change ≡ next_change flags (place - 1) → place ≤ k → k < change
    → begins flags k ≡ false
range-passed flags place change k some set is from below =
    no-begin-behind flags k (omega arith) (on (flag_at flags (place - 1)) (flag_at flags (k - 1)) set
    (next-alike flags (place - 1) (k - 1) (omega arith) (omega (arith, is, below, from, some))))

pub unset-there : (flags : List Bool) (at : ℕ) → flag_at flags at ≡ true → flag_at flags (next_change flags at) ≡ false
unset-there flags at set =
    let change = next_change flags at in
    elim (nat_lt change (length flags)) as (λ b. nat_lt change (length flags) ≡ b → flag_at flags change ≡ false) [
      | true ↦ λ yes. on-other (flag_at flags at) (flag_at flags change) set
          (next-other flags at (ltb-true change (length flags) yes))
      | false ↦ λ no. get_or_past flags change false (ltb-false change (length flags) no)
    ] refl

-- the flag at its end isn't set
pub range-ends : (flags : List Bool) (at change : ℕ) → flag_at flags at ≡ true → change ≡ next_change flags at →
    flag_at flags change ≡ true → begins flags change ≡ true
range-ends flags at change set is there =
    absurd (false≢true (sym (ap (flag_at flags) is ∙ unset-there flags at set) ∙ there))

-- ---- the next place at which a range begins

pub start-passed : (flags : List Bool) (place from change k : ℕ) →
    ((j : ℕ) → place ≤ j → j < from → begins flags j ≡ false) → flag_at flags from ≡ false
    → change ≡ next_change flags from → place ≤ k → k < change → begins flags k ≡ false
start-passed flags place from change k passed unset is low high =
    elim (nat_lt k from) as (λ b. nat_lt k from ≡ b → begins flags k ≡ false) [
      | true ↦ λ yes. passed k low (ltb-true k from yes)
      | false ↦ λ no.
          no-begin flags k (off (flag_at flags from) (flag_at flags k) unset
          (next-alike flags from k (ltb-false k from no) (let e : k
          < next_change flags from = omega (arith, is, high) in e)))
    ] refl

pub start-here : (flags : List Bool) (from change : ℕ) → flag_at flags from ≡ false → change ≡ next_change flags from →
    from < change → change < length flags
    → begins flags change ≡ true
start-here flags from change unset is above within =
    begin flags change
    (ap (flag_at flags) is ∙ off-other (flag_at flags from) (flag_at flags (next_change flags from)) unset
    (next-other flags from (let e : next_change flags from < length flags = omega (arith, is, within) in e)))
    (λ some. off (flag_at flags from) (flag_at flags (change - 1)) unset
    (next-alike flags from (change - 1) (omega arith) (let e : change - 1
    < next_change flags from = omega (arith, is, above) in e)))

pub next-there : (flags : List Bool) (place start end : ℕ) → place ≤ start → start < length flags →
    ((k : ℕ) → place ≤ k → k < start → begins flags k ≡ false)
    → begins flags start ≡ true → end ≡ next_change flags start →
    Some (record { start = start; end = end }) ≡ next_range flags place
next-there flags place start end from within none some is =
    ap (λ n. Some (let r : TagRange = record { start = start; end = n } in r)) is
    ∙ next-found flags place start from within none some

-- ---- the last character before a place

pub tagged-passed : (flags : List Bool) (place change k : ℕ) → place ≤ length flags →
    flag_at flags (place - 1) ≡ false → change ≡ previous_change flags place → change ≤ k → k < place
    → flag_at flags k ≡ false
tagged-passed flags place change k within unset is from below =
    off (flag_at flags (place - 1)) (flag_at flags k) unset
    (previous-alike flags place k within (let e : previous_change flags place ≤ k = omega (arith, is, from) in
    e) below)

pub tagged-here : (flags : List Bool) (place change : ℕ) → place ≤ length flags → flag_at flags (place - 1) ≡ false →
    change ≡ previous_change flags place → 0 < change
    → flag_at flags (change - 1) ≡ true
tagged-here flags place change within unset is some =
    ap (λ n. flag_at flags (n - 1)) is
    ∙ off-other (flag_at flags (place - 1)) (flag_at flags (previous_change flags place - 1)) unset
    (previous-other flags place within (let e : 0 < previous_change flags place = omega (arith, is, some) in e))

-- the range whose last character before a place is known
before-here : (flags : List Bool) (behind : ℕ) → 0 < behind → behind ≤ length flags →
    flag_at flags (behind - 1) ≡ true → begins flags (previous_change flags behind) ≡ true
before-here flags behind some within set =
    let start = previous_change flags behind in
    begin flags start
    (on (flag_at flags (behind - 1)) (flag_at flags start) set
    (previous-alike flags behind start within (omega arith) (previous_change-below flags behind some within)))
    (λ more. on-other (flag_at flags (behind - 1)) (flag_at flags (start - 1)) set
    (previous-other flags behind within more))

before-passed : (flags : List Bool) (place behind k : ℕ) → behind ≤ place → behind ≤ length flags →
    flag_at flags (behind - 1) ≡ true
    → ((j : ℕ) → behind ≤ j → j < place → flag_at flags j ≡ false) → previous_change flags behind < k → k < place →
    begins flags k ≡ false
before-passed flags place behind k below within set unset above high =
    elim (nat_lt k behind) as (λ b. nat_lt k behind ≡ b → begins flags k ≡ false) [
      | true ↦ λ yes.
          no-begin-behind flags k (omega arith)
          (on (flag_at flags (behind - 1)) (flag_at flags (k - 1)) set
          (previous-alike flags behind (k - 1) within (omega arith) (omega (arith, ltb-true k behind yes))))
      | false ↦ λ no. no-begin flags k (unset k (ltb-false k behind no) high)
    ] refl

pub previous-there : (flags : List Bool) (place behind start end : ℕ) → 0 < behind → behind ≤ place →
    place ≤ length flags → flag_at flags (behind - 1) ≡ true
    → ((k : ℕ) → behind ≤ k → k < place → flag_at flags k ≡ false) → start ≡ previous_change flags behind →
    end ≡ next_change flags start
    → Some (record { start = start; end = end }) ≡ previous_range flags place
previous-there flags place behind start end some below within set unset start_is end_is =
    ap (λ n. Some (let r : TagRange = record { start = start; end = n } in r)) end_is
    ∙ previous-found flags place start (omega (arith, start_is, previous_change-below flags behind some (omega arith)))
    within
    (λ k above high. before-passed flags place behind k below (omega arith) set unset
    (let e : previous_change flags behind < k = omega (arith, start_is, above) in e) high)
    (ap (begins flags) start_is ∙ before-here flags behind some (omega arith) set)

-- the range ends where the last character is that has the tag, if that is known to be so
pub end-known : (flags : List Bool) (behind start : ℕ) → 0 < behind → behind ≤ length flags →
    flag_at flags (behind - 1) ≡ true → (behind < length flags → flag_at flags behind ≡ false)
    → start ≡ previous_change flags behind → behind ≡ next_change flags start
end-known flags behind start some within set unset is =
    let from = previous_change flags behind in
    let below : from < behind = previous_change-below flags behind some within in
    let begun : flag_at flags from ≡ true = on (flag_at flags (behind - 1)) (flag_at flags from) set
    (previous-alike flags behind from within (omega arith) below) in
    sym (ap (next_change flags) is
    ∙ next_change_is flags from behind below within
    (λ k low high. ap (λ b. is_alike b (flag_at flags k)) begun
    ∙ on (flag_at flags (behind - 1)) (flag_at flags k) set (previous-alike flags behind k within low high))
    (λ more. ap (λ b. is_alike b (flag_at flags behind)) begun ∙ unset more))

pub previous-nowhere : (flags : List Bool) (place : ℕ) → place ≤ length flags →
    ((k : ℕ) → k < place → flag_at flags k ≡ false) → None ≡ previous_range flags place
previous-nowhere flags place within unset = previous-none flags place within (λ k high. no-begin flags k (unset k high))

-- ---- where a tag begins and ends in all

abbrev start_of : Option TagRange → Option ℕ
start_of found = option_map (λ (range : TagRange). range.start) found

abbrev end_of : Option TagRange → Option ℕ
end_of found = option_map (λ (range : TagRange). range.end) found

first-is : (flags : List Bool) (found : Option ℕ) → first_tagged flags ≡ found → start_of (next_range flags 0) ≡ found
first-is flags None is =
    ap start_of (sym (next-none flags 0 (omega arith) (λ k low high. no-begin flags k (first-unset flags is k high))))
first-is flags (Some at) is =
    let there = first-set flags at is in
    ap start_of (sym (next-found flags 0 at (omega arith) there.0 (λ k low high. no-begin flags k (there.2 k high))
    (begin flags at there.1 (λ some. there.2 (at - 1) (omega arith)))))

pub first-start : (flags : List Bool) (found : Option TagRange) → found ≡ next_range flags 0 →
    start_of found ≡ first_tagged flags
first-start flags found is = ap start_of is ∙ first-is flags (first_tagged flags) refl

last-is : (flags : List Bool) (found : Option ℕ) → last_tagged flags ≡ found →
    end_of (previous_range flags (length flags)) ≡ found
last-is flags None is = ap end_of (sym (previous-nowhere flags (length flags) (omega arith) (last-unset flags is)))
last-is flags (Some at) is =
    let there = last-set flags at is in
    let start = previous_change flags at in
    let below : start < at = previous_change-below flags at there.0 there.1 in
    let set : flag_at flags start ≡ true = on (flag_at flags (at - 1)) (flag_at flags start) there.2
    (previous-alike flags at start there.1 (omega arith) below) in
    ap end_of (sym (previous-there flags (length flags) at start (next_change flags start) there.0 there.1 (omega arith)
    there.2 there.3 refl refl))
    ∙ ap Some (next_change_is flags start at below there.1
    (λ k from high. ap (λ b. is_alike b (flag_at flags k)) set
    ∙ on (flag_at flags (at - 1)) (flag_at flags k) there.2 (previous-alike flags at k there.1 from high))
    (λ more. ap (λ b. is_alike b (flag_at flags at)) set ∙ there.3 at (omega arith) more))

pub last-end : (flags : List Bool) (found : Option TagRange) → found ≡ previous_range flags (length flags) →
    end_of found ≡ last_tagged flags
last-end flags found is = ap end_of is ∙ last-is flags (last_tagged flags) refl
