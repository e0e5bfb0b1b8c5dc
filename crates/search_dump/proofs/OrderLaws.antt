-- The places that pass a test, in the order of a search.
use Rattle.search_dump.proofs.Common.{◌≡◌, ℕ, zero, suc, inl, inr, ◌+◌, ◌-◌, ◌<◌, ◌≤◌, ◌&&◌, Bool, true, false, None}
use Rattle.search_dump.proofs.Common.{Some, cond, List, [], ◌∷◌, ◌++◌, reverse, refl, sym, ap, ◌∙◌, arith, nat_le}
use Rattle.search_dump.proofs.Common.{filter, find, range_with_len, cases_Bool, cases_lt, cond-true, cond-false, le-leb}
use Rattle.search_dump.proofs.Common.{lt-leb, append-nil, reverse-append, filter-append, none-some, Direction, Forward}
use Rattle.search_dump.proofs.Common.{Back, places, ordered}
use Rattle.search_dump.proofs.PlaceLaws.{NonePasses, greatest-find, least-find, places-none, places-split}

pub filter-none : {A : Type 0} (test : A → Bool) (xs : List A) → find test xs ≡ None → filter test xs ≡ []
filter-none test [] none = refl
filter-none test (x ∷ xs) none =
    elim (cases_Bool (test x)) [
      | inl is-it ↦ absurd (none-some x (sym none ∙ cond-true (test x) (Some x) (find test xs) is-it))
      | inr is-not ↦
          cond-false (test x) (x ∷ filter test xs) (filter test xs) is-not
          ∙ filter-none test xs (sym (cond-false (test x) (Some x) (find test xs) is-not) ∙ none)
    ]

pub filter-both : {A : Type 0} (first second : A → Bool) (xs : List A) →
    filter second (filter first xs) ≡ filter (λ x. first x && second x) xs
filter-both first second [] = refl
filter-both first second (x ∷ xs) =
    elim (first x) as (λ b. filter second (cond b (x ∷ filter first xs) (filter first xs))
    ≡ cond (b && second x) (x ∷ filter (λ y. first y && second y) xs) (filter (λ y. first y && second y) xs)) [
      | true ↦ ap (λ ys. cond (second x) (x ∷ ys) ys) (filter-both first second xs)
      | false ↦ filter-both first second xs
    ]

reverse-more : {A : Type 0} (x : A) (xs : List A) → reverse (x ∷ xs) ≡ reverse xs ++ x ∷ []
reverse-more x xs = reverse-append (x ∷ []) xs

filter-reverse : {A : Type 0} (test : A → Bool) (xs : List A) → filter test (reverse xs) ≡ reverse (filter test xs)
filter-reverse test [] = refl
filter-reverse test (x ∷ xs) =
    ap (filter test) (reverse-more x xs) ∙ filter-append test (reverse xs) (x ∷ [])
    ∙ ap (λ ys. ys ++ filter test (x ∷ [])) (filter-reverse test xs)
    ∙ elim (test x) as (λ b. reverse (filter test xs) ++ cond b (x ∷ []) []
    ≡ reverse (cond b (x ∷ filter test xs) (filter test xs))) [
      | true ↦ sym (reverse-more x (filter test xs))
      | false ↦ append-nil (reverse (filter test xs))
    ]

pub filter-ordered : (direction : Direction) (test : ℕ → Bool) (xs : List ℕ) →
    filter test (ordered direction xs) ≡ ordered direction (filter test xs)
filter-ordered Forward test xs = refl
filter-ordered Back test xs = filter-reverse test xs

range-agree : (first second : ℕ → Bool) (n low high : ℕ) → low + n ≡ high →
    ((k : ℕ) → low ≤ k → k < high → first k ≡ second k) →
    filter first (range_with_len low n) ≡ filter second (range_with_len low n)
range-agree first second zero low high is agree = refl
range-agree first second (suc n) low high is agree =
    ap (λ b. cond b (low ∷ filter first (range_with_len (low + 1) n)) (filter first (range_with_len (low + 1) n)))
    (agree low (omega arith) (omega arith))
    ∙ ap (λ ys. cond (second low) (low ∷ ys) ys)
    (range-agree first second n (low + 1) high (omega arith) (λ k above below. agree k (omega arith) below))

-- tests that agree on some places keep the same of them
pub places-agree : (first second : ℕ → Bool) (low high : ℕ) → ((k : ℕ) → low ≤ k → k < high → first k ≡ second k) →
    filter first (places low high) ≡ filter second (places low high)
places-agree first second low high agree =
    range-agree first second (high - low) low (low + (high - low)) refl (λ k above below. agree k above (omega arith))

nothing-of : {A : Type 0} (xs : List A) → filter (λ k. false) xs ≡ []
nothing-of [] = refl
nothing-of (x ∷ xs) = nothing-of xs

pub places-pass-none : (test : ℕ → Bool) (low high : ℕ) → NonePasses test low high → filter test (places low high) ≡ []
places-pass-none test low high none = places-agree test (λ k. false) low high none ∙ nothing-of (places low high)

-- fewer places, by a test of more
pub places-from : (test : ℕ → Bool) (low middle high : ℕ) → low ≤ middle →
    filter (λ k. nat_le middle k && test k) (places low high) ≡ filter test (places middle high)
places-from test low middle high within =
    elim (cases_lt high middle) [
      | inl past ↦
          places-pass-none (λ k. nat_le middle k && test k) low high (λ k above below.
          ap (λ b. b && test k) (lt-leb middle k (omega arith)))
          ∙ sym (ap (filter test) (places-none middle high (omega arith)))
      | inr inside ↦
          ap (filter (λ k. nat_le middle k && test k)) (places-split low middle high within inside)
          ∙ filter-append (λ k. nat_le middle k && test k) (places low middle) (places middle high)
          ∙ ap (λ xs. xs ++ filter (λ k. nat_le middle k && test k) (places middle high))
          (places-pass-none (λ k. nat_le middle k && test k) low middle (λ k above below.
          ap (λ b. b && test k) (lt-leb middle k below)))
          ∙ places-agree (λ k. nat_le middle k && test k) test middle high (λ k above below.
          ap (λ b. b && test k) (le-leb middle k above))
    ]

one-place : (at : ℕ) → places at (at + 1) ≡ at ∷ []
one-place at = ap (range_with_len at) (let e : at + 1 - at ≡ 1 = omega arith in e)

pick : (test : ℕ → Bool) (low at high : ℕ) → low ≤ at → at < high → test at ≡ true →
    filter test (places low high) ≡ filter test (places low at) ++ at ∷ filter test (places (at + 1) high)
pick test low at high above below passes =
    ap (filter test) (places-split low at high above (omega arith)
    ∙ ap (λ xs. places low at ++ xs) (places-split at (at + 1) high (omega arith) (omega arith)
    ∙ ap (λ xs. xs ++ places (at + 1) high) (one-place at)))
    ∙ filter-append test (places low at) (at ∷ places (at + 1) high)
    ∙ ap (λ xs. filter test (places low at) ++ xs)
    (cond-true (test at) (at ∷ filter test (places (at + 1) high)) (filter test (places (at + 1) high)) passes)

-- the places behind the first that passes
abbrev pub behind_low : Direction → ℕ → ℕ → ℕ
behind_low Forward low at = at + 1
behind_low Back low at = low

abbrev pub behind_high : Direction → ℕ → ℕ → ℕ
behind_high Forward high at = high
behind_high Back high at = at

abbrev pub behind_first : Direction → ℕ → ℕ → ℕ → List ℕ
behind_first direction low high at =
    ordered direction (places (behind_low direction low at) (behind_high direction high at))

pub first-of : (direction : Direction) (test : ℕ → Bool) (low high at : ℕ) →
    find test (ordered direction (places low high)) ≡ Some at
    → filter test (ordered direction (places low high)) ≡ at ∷ filter test (behind_first direction low high at)
first-of Forward test low high at found =
    let least = least-find test low high at found in
    pick test low at high least.above least.below least.passes
    ∙ ap (λ xs. xs ++ at ∷ filter test (places (at + 1) high)) (places-pass-none test low at least.none)
first-of Back test low high at found =
    let greatest = greatest-find test low high at found in
    filter-reverse test (places low high)
    ∙ ap reverse (pick test low at high greatest.above greatest.below greatest.passes
    ∙ ap (λ xs. filter test (places low at) ++ at ∷ xs)
    (places-pass-none test (at + 1) high (λ k above below. greatest.none k (omega arith) below)))
    ∙ reverse-append (filter test (places low at)) (at ∷ [])
    ∙ ap (λ xs. at ∷ xs) (sym (filter-reverse test (places low at)))
