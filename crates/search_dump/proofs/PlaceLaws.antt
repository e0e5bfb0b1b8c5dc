-- The first of some places in the order of a search, and those that pass a test.
use Rattle.search_dump.proofs.Common.{◌≡◌, ℕ, zero, suc, inl, inr, ◌+◌, ◌-◌, ◌<◌, ◌≤◌, Bool, true, false, None, Some}
use Rattle.search_dump.proofs.Common.{List, [], ◌∷◌, ◌++◌, reverse, refl, sym, ap, ◌∙◌, arith, find, range_with_len}
use Rattle.search_dump.proofs.Common.{cases_eq, reverse-append, Direction, Forward, Back, places, ordered, cases_order}
use Rattle.search_dump.proofs.Common.{true≢false, subst, Option, cond}

-- the least place that passes, of those from one to before another
pub record IsLeast (test : ℕ → Bool) (low high at : ℕ) : Type 0 where
  pub above : low ≤ at
  pub below : at < high
  pub passes : test at ≡ true
  pub none : (k : ℕ) → low ≤ k → k < at → test k ≡ false

-- the greatest
pub record IsGreatest (test : ℕ → Bool) (low high at : ℕ) : Type 0 where
  pub above : low ≤ at
  pub below : at < high
  pub passes : test at ≡ true
  pub none : (k : ℕ) → at < k → k < high → test k ≡ false

abbrev pub NonePasses : (ℕ → Bool) → ℕ → ℕ → Type 0
NonePasses test low high = (k : ℕ) → low ≤ k → k < high → test k ≡ false

-- ---- from the least

-- what a search from the least finds
abbrev IsFirst : (ℕ → Bool) → ℕ → ℕ → Option ℕ → Type 0
IsFirst test low high (Some at) = IsLeast test low high at
IsFirst test low high None = NonePasses test low high

none-from : (test : ℕ → Bool) (low high : ℕ) → test low ≡ false → NonePasses test (low + 1) high →
    NonePasses test low high
none-from test low high is-not none k above below =
    elim (cases_eq low k) [
      | inl same ↦ ap test (sym same) ∙ is-not
      | inr other ↦ none k (omega arith) below
    ]

first-step : (test : ℕ → Bool) (low high : ℕ) (passes : Bool) (later : Option ℕ) → low < high → test low ≡ passes →
    IsFirst test (low + 1) high later → IsFirst test low high (cond passes (Some low) later)
first-step test low high true later some is rest =
    record { above = omega arith; below = some; passes = is; none = λ k above below. absurd (omega arith) }
first-step test low high false (Some at) some is rest = record {
  above = omega (arith, rest.above);
  below = rest.below;
  passes = rest.passes;
  none = none-from test low at is rest.none;
}
first-step test low high false None some is rest = none-from test low high is rest

first-found : (test : ℕ → Bool) (n low high : ℕ) → n ≡ high - low →
    IsFirst test low high (find test (range_with_len low n))
first-found test zero low high is = λ k above below. absurd (omega arith)
first-found test (suc n) low high is =
    first-step test low high (test low) (find test (range_with_len (low + 1) n)) (omega arith) refl
    (first-found test n (low + 1) high (omega arith))

first-is : (test : ℕ → Bool) (low high at : ℕ) (found : Option ℕ) → IsFirst test low high found →
    IsLeast test low high at → found ≡ Some at
first-is test low high at None none is = absurd (true≢false (sym is.passes ∙ none at is.above is.below))
first-is test low high at (Some other) found is =
    elim (cases_order other at) [
      | inl same ↦ ap Some same
      | inr apart ↦ elim apart [
        | inl before ↦ absurd (true≢false (sym found.passes ∙ is.none other found.above before))
        | inr behind ↦ absurd (true≢false (sym is.passes ∙ found.none at is.above behind))
      ]
    ]

first-none : (test : ℕ → Bool) (low high : ℕ) (found : Option ℕ) → IsFirst test low high found →
    NonePasses test low high → found ≡ None
first-none test low high None found none = refl
first-none test low high (Some at) found none =
    absurd (true≢false (sym found.passes ∙ none at found.above found.below))

first : (test : ℕ → Bool) (low high : ℕ) → IsFirst test low high (find test (places low high))
first test low high = first-found test (high - low) low high refl

pub find-least : (test : ℕ → Bool) (low high at : ℕ) → IsLeast test low high at → find test (places low high) ≡ Some at
find-least test low high at = first-is test low high at (find test (places low high)) (first test low high)

pub find-none : (test : ℕ → Bool) (low high : ℕ) → NonePasses test low high → find test (places low high) ≡ None
find-none test low high = first-none test low high (find test (places low high)) (first test low high)

pub least-find : (test : ℕ → Bool) (low high at : ℕ) → find test (places low high) ≡ Some at → IsLeast test low high at
least-find test low high at found = subst (IsFirst test low high) found (first test low high)

pub none-find : (test : ℕ → Bool) (low high : ℕ) → find test (places low high) ≡ None → NonePasses test low high
none-find test low high found = subst (IsFirst test low high) found (first test low high)

-- ---- from the greatest

abbrev down : ℕ → ℕ → List ℕ
down low zero = []
down low (suc n) = (low + n) ∷ down low n

range-last : (low n : ℕ) → range_with_len low (suc n) ≡ range_with_len low n ++ (low + n) ∷ []
range-last low zero = ap (λ k. k ∷ []) (omega arith)
range-last low (suc n) =
    ap (λ xs. low ∷ xs) (range-last (low + 1) n ∙ ap (λ k. range_with_len (low + 1) n ++ k ∷ []) (omega arith))

reverse-range : (low n : ℕ) → reverse (range_with_len low n) ≡ down low n
reverse-range low zero = refl
reverse-range low (suc n) = ap reverse (range-last low n) ∙ reverse-append (range_with_len low n) ((low + n) ∷ [])
    ∙ ap (λ xs. (low + n) ∷ xs) (reverse-range low n)

-- what a search from the greatest finds
abbrev IsLast : (ℕ → Bool) → ℕ → ℕ → Option ℕ → Type 0
IsLast test low high (Some at) = IsGreatest test low high at
IsLast test low high None = NonePasses test low high

none-to : (test : ℕ → Bool) (low at high : ℕ) → suc at ≡ high → test at ≡ false → NonePasses test low at →
    NonePasses test low high
none-to test low at high next is-not none k above below =
    elim (cases_eq at k) [
      | inl same ↦ ap test (sym same) ∙ is-not
      | inr other ↦ none k above (omega arith)
    ]

last-step : (test : ℕ → Bool) (low at high : ℕ) (passes : Bool) (later : Option ℕ) → low ≤ at → suc at ≡ high →
    test at ≡ passes → IsLast test low at later → IsLast test low high (cond passes (Some at) later)
last-step test low at high true later some next is rest =
    record { above = some; below = omega arith; passes = is; none = λ k above below. absurd (omega arith) }
last-step test low at high false (Some other) some next is rest = record {
  above = rest.above;
  below = omega (arith, rest.below);
  passes = rest.passes;
  none = none-to test (suc other) at high next is rest.none;
}
last-step test low at high false None some next is rest = none-to test low at high next is rest

last-found : (test : ℕ → Bool) (n low high : ℕ) → n ≡ high - low → IsLast test low high (find test (down low n))
last-found test zero low high is = λ k above below. absurd (omega arith)
last-found test (suc n) low high is =
    last-step test low (low + n) high (test (low + n)) (find test (down low n)) (omega arith) (omega arith) refl
    (last-found test n low (low + n) (omega arith))

last-is : (test : ℕ → Bool) (low high at : ℕ) (found : Option ℕ) → IsLast test low high found →
    IsGreatest test low high at → found ≡ Some at
last-is test low high at None none is = absurd (true≢false (sym is.passes ∙ none at is.above is.below))
last-is test low high at (Some other) found is =
    elim (cases_order other at) [
      | inl same ↦ ap Some same
      | inr apart ↦ elim apart [
        | inl before ↦ absurd (true≢false (sym is.passes ∙ found.none at before is.below))
        | inr behind ↦ absurd (true≢false (sym found.passes ∙ is.none other behind found.below))
      ]
    ]

last-none : (test : ℕ → Bool) (low high : ℕ) (found : Option ℕ) → IsLast test low high found →
    NonePasses test low high → found ≡ None
last-none test low high None found none = refl
last-none test low high (Some at) found none =
    absurd (true≢false (sym found.passes ∙ none at found.above found.below))

last : (test : ℕ → Bool) (low high : ℕ) → IsLast test low high (find test (reverse (places low high)))
last test low high =
    subst (λ xs. IsLast test low high (find test xs)) (sym (reverse-range low (high - low)))
    (last-found test (high - low) low high refl)

pub find-greatest : (test : ℕ → Bool) (low high at : ℕ) → IsGreatest test low high at →
    find test (reverse (places low high)) ≡ Some at
find-greatest test low high at = last-is test low high at (find test (reverse (places low high))) (last test low high)

pub find-none-back : (test : ℕ → Bool) (low high : ℕ) → NonePasses test low high →
    find test (reverse (places low high)) ≡ None
find-none-back test low high = last-none test low high (find test (reverse (places low high))) (last test low high)

pub greatest-find : (test : ℕ → Bool) (low high at : ℕ) → find test (reverse (places low high)) ≡ Some at →
    IsGreatest test low high at
greatest-find test low high at found = subst (IsLast test low high) found (last test low high)

pub none-find-back : (test : ℕ → Bool) (low high : ℕ) → find test (reverse (places low high)) ≡ None →
    NonePasses test low high
none-find-back test low high found = subst (IsLast test low high) found (last test low high)

-- ---- in the order of a search

pub none-ordered : (direction : Direction) (test : ℕ → Bool) (low high : ℕ) → NonePasses test low high →
    find test (ordered direction (places low high)) ≡ None
none-ordered Forward test low high none = find-none test low high none
none-ordered Back test low high none = find-none-back test low high none

-- what is found lies between the ends and passes
pub record IsFound (test : ℕ → Bool) (low high at : ℕ) : Type 0 where
  pub above : low ≤ at
  pub below : at < high
  pub passes : test at ≡ true

pub found-ordered : (direction : Direction) (test : ℕ → Bool) (low high at : ℕ) →
    find test (ordered direction (places low high)) ≡ Some at → IsFound test low high at
found-ordered Forward test low high at found =
    let least = least-find test low high at found in
    record { above = least.above; below = least.below; passes = least.passes }
found-ordered Back test low high at found =
    let greatest = greatest-find test low high at found in
    record { above = greatest.above; below = greatest.below; passes = greatest.passes }

range-add : (low n m : ℕ) → range_with_len low (n + m) ≡ range_with_len low n ++ range_with_len (low + n) m
range-add low zero m =
    ap (range_with_len low) (let e : 0 + m ≡ m = omega arith in e)
    ∙ ap (λ k. range_with_len k m) (let e : low ≡ low + 0 = omega arith in e)
range-add low (suc n) m =
    ap (range_with_len low) (let e : suc n + m ≡ suc (n + m) = omega arith in e)
    ∙ ap (λ xs. low ∷ xs) (range-add (low + 1) n m
    ∙ ap (λ k. range_with_len (low + 1) n ++ range_with_len k m) (let e : low + 1 + n ≡ low + suc n = omega arith in
    e))

pub places-split : (low middle high : ℕ) → low ≤ middle → middle ≤ high →
    places low high ≡ places low middle ++ places middle high
places-split low middle high first second =
    ap (range_with_len low) (let e : high - low ≡ (middle - low) + (high - middle) = omega arith in e)
    ∙ range-add low (middle - low) (high - middle)
    ∙ ap (λ k. range_with_len low (middle - low) ++ range_with_len k (high - middle)) (let e : low + (middle - low)
    ≡ middle = omega arith in e)

pub places-none : (low high : ℕ) → high ≤ low → places low high ≡ []
places-none low high past = ap (range_with_len low) (let e : high - low ≡ 0 = omega arith in e)

pub reverse-split : (low middle high : ℕ) → low ≤ middle → middle ≤ high →
    reverse (places low high) ≡ reverse (places middle high) ++ reverse (places low middle)
reverse-split low middle high first second =
    ap reverse (places-split low middle high first second) ∙ reverse-append (places low middle) (places middle high)
