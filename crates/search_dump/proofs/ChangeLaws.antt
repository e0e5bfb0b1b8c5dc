-- Where the tags of a view change next.
use Rattle.search_dump.proofs.Common.{outlook, Outlook, slot_at, ◌≡◌, ℕ, zero, suc, inl, inr, ◌+◌, ◌-◌, ◌<◌, ◌≤◌, ◌&&◌}
use Rattle.search_dump.proofs.Common.{◌||◌, ◌==◌, min, Bool, true, false, ◌≢◌, List, [], ◌∷◌, length, drop, set, refl}
use Rattle.search_dump.proofs.Common.{sym, subst, ap, ap₂, ◌∙◌, arith, not, slice_index_or, list_any, prefix_len}
use Rattle.search_dump.proofs.Common.{cases_Bool, cases_eq, cases_lt, cond-false, cond-true, false≢true, lt-ltb}
use Rattle.search_dump.proofs.Common.{true≢false, drop-drop, drop_more, get_or-set_other, get_or-set_same, length-set}
use Rattle.search_dump.proofs.Common.{flag_at, is_alike, next_change, tag_ranges, shown_flags, TagRange, next-alike}
use Rattle.search_dump.proofs.Common.{next-other, AreAhead, IsKnown, IsNearest, change_after, flag_before, flags}
use Rattle.search_dump.proofs.DumpLaws.{begins-is, ends-is}

-- one row more
pub nearest-more : (next : List ℕ) (rows place nearest later : ℕ) → IsNearest next rows place nearest →
    later ≡ min nearest (slice_index_or next rows 0) → IsNearest next (rows + 1) place later
nearest-more next rows place nearest later before is_later =
    record {
      within = omega (arith, before.within);
      each = λ at below.
          elim (cases_eq at rows) [
            | inl same ↦ omega (arith, ap (λ n. slice_index_or next n 0) same)
            | inr other ↦ omega (arith, before.each at (omega arith))
          ];
      reached = elim (cases_lt (slice_index_or next rows 0) nearest) [
        | inl less ↦ inr (rows, (omega arith), omega arith)
        | inr more ↦ elim before.reached [
          | inl at-place ↦ inl (omega arith)
          | inr row ↦ inr (row.0, (omega (arith, row.1)), row.2 ∙ omega arith)
        ]
      ];
    }

-- ---- the flags between two changes

same-flags : (a b : Bool) → is_alike a b ≡ true → b ≡ a
same-flags true b is = is
same-flags false true is = absurd (false≢true is)
same-flags false false is = refl

other-flag : (a b : Bool) → is_alike a b ≡ false → b ≡ not a
other-flag true b is = is
other-flag false true is = refl
other-flag false false is = absurd (true≢false is)

prefix-drop : {A : Type 0} (test : A → Bool) (n : ℕ) (xs : List A) → n ≤ prefix_len test xs →
    prefix_len test xs ≡ n + prefix_len test (drop n xs)
prefix-drop test zero xs within = let e : prefix_len test xs ≡ 0 + prefix_len test xs = omega arith in e
prefix-drop test (suc n) [] within = absurd (omega arith)
prefix-drop test (suc n) (x ∷ xs) within =
    elim (cases_Bool (test x)) [
      | inl is-it ↦
          let on : prefix_len test (x ∷ xs)
          ≡ 1 + prefix_len test xs = cond-true (test x) (1 + prefix_len test xs) 0 is-it in
          omega (arith, on, prefix-drop test n xs (omega (arith, on, within)))
      | inr is-not ↦ absurd (omega (arith, cond-false (test x) (1 + prefix_len test xs) 0 is-not, within))
    ]

pub flag-same : (flags : List Bool) (at k : ℕ) → at ≤ k → k < next_change flags at → flag_at flags k ≡ flag_at flags at
flag-same flags at k from below = same-flags (flag_at flags at) (flag_at flags k) (next-alike flags at k from below)

-- the next change is one for all places up to it
pub next-same : (flags : List Bool) (at k : ℕ) → at ≤ k → k < next_change flags at →
    next_change flags k ≡ next_change flags at
next-same flags at k from below =
    let test = is_alike (flag_at flags at) in
    ap (λ b. k + prefix_len (is_alike b) (drop k flags)) (flag-same flags at k from below)
    ∙ ap (λ xs. k + prefix_len test xs) (sym (drop-drop (k - at) at flags
    ∙ ap (λ n. drop n flags) (let e : at + (k - at) ≡ k = omega arith in e)))
    ∙ omega (arith, prefix-drop test (k - at) (drop at flags) (omega arith))

-- whether a tag begins or ends at a place
abbrev pub turns : List Bool → ℕ → Bool
turns flags place = list_any (λ (range : TagRange). range.start == place) (tag_ranges flags)
    || list_any (λ (range : TagRange). range.end == place) (tag_ranges flags)

turns-is : (flags : List Bool) (place : ℕ) → turns flags place
    ≡ ((flag_at flags place && not (flag_before flags place)) || (flag_before flags place && not (flag_at flags place)))
turns-is flags place = ap₂ (λ a b. a || b) (begins-is flags place) (ends-is flags place)

before-at : (flags : List Bool) (place : ℕ) → 0 < place → flag_before flags place ≡ flag_at flags (place - 1)
before-at flags place some = ap (λ b. b && flag_at flags (place - 1)) (lt-ltb 0 place some)

no-turn : (flag : Bool) → ((flag && not flag) || (flag && not flag)) ≡ false
no-turn true = refl
no-turn false = refl

a-turn : (flag : Bool) → ((not flag && not flag) || (flag && not (not flag))) ≡ true
a-turn true = refl
a-turn false = refl

pub quiet-between : (flags : List Bool) (at k : ℕ) → at < k → k < next_change flags at → turns flags k ≡ false
quiet-between flags at k from below =
    turns-is flags k
    ∙ ap₂ (λ a b. (a && not b) || (b && not a)) (flag-same flags at k (omega arith) below)
    (before-at flags k (omega arith) ∙ flag-same flags at (k - 1) (omega arith) (omega arith))
    ∙ no-turn (flag_at flags at)

pub turns-there : (flags : List Bool) (at : ℕ) → at < next_change flags at → next_change flags at < length flags →
    turns flags (next_change flags at) ≡ true
turns-there flags at above within =
    let there = next_change flags at in
    turns-is flags there
    ∙ ap₂ (λ a b. (a && not b) || (b && not a))
    (other-flag (flag_at flags at) (flag_at flags there) (next-other flags at within))
    (before-at flags there (omega arith) ∙ flag-same flags at (there - 1) (omega arith) (omega arith))
    ∙ a-turn (flag_at flags at)

-- a flag is as it was up to the next change, and other there
pub flag-upto : (flags : List Bool) (at k : ℕ) → at < k → k ≤ next_change flags at →
    flag_before flags k ≡ flag_at flags at
flag-upto flags at k from upto =
    before-at flags k (omega arith) ∙ flag-same flags at (k - 1) (omega arith) (omega arith)

pub flag-other : (flags : List Bool) (at k : ℕ) → next_change flags at ≡ k → k < length flags →
    flag_at flags k ≡ not (flag_at flags at)
flag-other flags at k is within =
    ap (flag_at flags) (sym is)
    ∙ other-flag (flag_at flags at) (flag_at flags (next_change flags at)) (next-other flags at (omega (arith, is)))

-- what is known at a place is known behind it
pub ahead-on : (outlook : Outlook) (place later : ℕ) (next : List ℕ) →
    AreAhead outlook place next → place ≤ later →
    AreAhead outlook later next
ahead-on outlook place later next ahead from =
    record {
      rows = ahead.rows;
      each = λ at within above.
          let known = ahead.each at within (omega arith) in
          known ∙ sym (next-same (shown_flags (slot_at outlook at) outlook.part) place later from
          (omega (arith, known)));
    }

-- one row is looked up
module _ {outlook : Outlook} {place change : ℕ} {old new : List ℕ} (at : ℕ)
    (ahead : AreAhead outlook place old) (within : at < length outlook.tags) (is : new ≡ set old at change)
    (known : change ≡ change_after outlook.part place (slot_at outlook at)) where
  pub put-known : IsKnown outlook place new at
  put-known =
      ap (λ xs. slice_index_or xs at 0) is ∙ get_or-set_same old at change 0 (omega (arith, within, ahead.rows)) ∙ known

  put-there : (other : ℕ) → other ≡ at → IsKnown outlook place new other
  put-there other same = subst (IsKnown outlook place new) (sym same) put-known

  put-apart : (other : ℕ) → other ≢ at → slice_index_or new other 0 ≡ slice_index_or old other 0
  put-apart other apart = ap (λ xs. slice_index_or xs other 0) is ∙ get_or-set_other old at other change 0 apart

  pub put-keeps : (other : ℕ) → IsKnown outlook place old other →
      IsKnown outlook place new other
  put-keeps other was =
      elim (cases_eq other at) [
        | inl same ↦ put-there other same
        | inr apart ↦ put-apart other apart ∙ was
      ]

  pub put-ahead : AreAhead outlook place new
  put-ahead =
      record {
        rows = ap length is ∙ length-set old at change ∙ ahead.rows;
        each = λ other inside above.
            elim (cases_eq other at) [
              | inl same ↦ put-there other same
              | inr apart ↦ put-keeps other (ahead.each other inside (omega (arith, above, put-apart other apart)))
            ];
      }

alike-itself : (flag : Bool) → is_alike flag flag ≡ true
alike-itself true = refl
alike-itself false = refl

-- a change stands behind its place
pub next-above : (flags : List Bool) (at : ℕ) → at < length flags → at < next_change flags at
next-above flags at within =
    let test = is_alike (flag_at flags at) in
    let run : prefix_len test (drop at flags) ≡ 1 + prefix_len test (drop (at + 1) flags) =
    ap (prefix_len test) (drop_more flags at false within)
    ∙ cond-true (test (flag_at flags at)) (1 + prefix_len test (drop (at + 1) flags)) 0
    (alike-itself (flag_at flags at)) in
    omega (arith, run)

-- ---- from stop to stop

quiet-flag : (a b : Bool) → ((a && not b) || (b && not a)) ≡ false → b ≡ a
quiet-flag true true is = refl
quiet-flag true false is = absurd (true≢false is)
quiet-flag false true is = absurd (true≢false is)
quiet-flag false false is = refl

-- a flag that doesn't turn at a place is the one before it
pub quiet-same : (flags : List Bool) (place : ℕ) → turns flags place ≡ false →
    flag_before flags place ≡ flag_at flags place
quiet-same flags place is =
    quiet-flag (flag_at flags place) (flag_before flags place) (sym (turns-is flags place) ∙ is)

flag-stays : (flags : List Bool) (place n : ℕ) → ((k : ℕ) → place < k → k < n + place + 1 → turns flags k ≡ false) →
    flag_at flags (n + place) ≡ flag_at flags place
flag-stays flags place zero quiet = ap (flag_at flags) (omega arith)
flag-stays flags place (suc n) quiet =
    sym (quiet-same flags (suc n + place) (quiet (suc n + place) (omega arith) (omega arith)))
    ∙ before-at flags (suc n + place) (omega arith)
    ∙ ap (flag_at flags) (let e : suc n + place - 1 ≡ n + place = omega arith in e)
    ∙ flag-stays flags place n (λ k low high. quiet k low (omega arith))

-- nor does it turn up to another place: there it is the one before
pub quiet-upto : (flags : List Bool) (place next : ℕ) → place < next →
    ((k : ℕ) → place < k → k < next → turns flags k ≡ false) → flag_before flags next ≡ flag_at flags place
quiet-upto flags place next above quiet =
    before-at flags next (omega arith)
    ∙ ap (flag_at flags) (let e : next - 1 ≡ next - 1 - place + place = omega arith in e)
    ∙ flag-stays flags place (next - 1 - place) (λ k low high. quiet k low (omega arith))
