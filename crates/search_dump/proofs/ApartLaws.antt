-- Matches that share no character with one that is listed before.
use Rattle.search_dump.proofs.Common.{◌≡◌, ℕ, inl, inr, ◌||◌, Bool, true, false, cond, List, [], ◌∷◌, ◌++◌, refl, sym}
use Rattle.search_dump.proofs.Common.{ap, ◌∙◌, not, filter, list_any, cases_Bool, or_left, or_right, list_any-append}
use Rattle.search_dump.proofs.Common.{All-head, All-tail, All-weaker, apart, shares, or-false, or-true}
use Rattle.std.specs.List.{All}

-- those that share a character with one of the last listed are left out before
pub apart-behind : (len : ℕ) (last kept xs : List ℕ) → apart len (kept ++ last) xs
    ≡ apart len kept (filter (λ x. not (list_any (shares len x) last)) xs)
apart-behind len last kept [] = refl
apart-behind len last kept (x ∷ xs) =
    let rest = filter (λ y. not (list_any (shares len y) last)) xs in
    ap (λ b. cond b (apart len (kept ++ last) xs) (x ∷ apart len (x ∷ kept ++ last) xs))
    (list_any-append (shares len x) kept last)
    ∙ elim (list_any (shares len x) last) as (λ b.
    cond (list_any (shares len x) kept || b) (apart len (kept ++ last) xs) (x ∷ apart len (x ∷ kept ++ last) xs)
    ≡ apart len kept (cond (not b) (x ∷ rest) rest)) [
      | true ↦ ap (λ b. cond b (apart len (kept ++ last) xs) (x ∷ apart len (x ∷ kept ++ last) xs))
          (or-true (list_any (shares len x) kept)) ∙ apart-behind len last kept xs
      | false ↦
          ap (λ b. cond b (apart len (kept ++ last) xs) (x ∷ apart len (x ∷ kept ++ last) xs))
          (or-false (list_any (shares len x) kept))
          ∙ ap (λ ys. cond (list_any (shares len x) kept) ys (x ∷ apart len (x ∷ kept ++ last) xs))
          (apart-behind len last kept xs)
          ∙ ap (λ ys. cond (list_any (shares len x) kept) (apart len kept rest) (x ∷ ys))
          (apart-behind len last (x ∷ kept) xs)
    ]

-- what is kept behind some matches
pub kept_by : ℕ → List ℕ → List ℕ → List ℕ
kept_by len kept [] = kept
kept_by len kept (x ∷ xs) = cond (list_any (shares len x) kept) (kept_by len kept xs) (kept_by len (x ∷ kept) xs)

pub apart-append : (len : ℕ) (kept xs ys : List ℕ) → apart len kept (xs ++ ys)
    ≡ apart len kept xs ++ apart len (kept_by len kept xs) ys
unfolding kept_by
apart-append len kept [] ys = refl
apart-append len kept (x ∷ xs) ys =
    elim (list_any (shares len x) kept) as (λ b.
    cond b (apart len kept (xs ++ ys)) (x ∷ apart len (x ∷ kept) (xs ++ ys))
    ≡ cond b (apart len kept xs) (x ∷ apart len (x ∷ kept) xs)
    ++ apart len (cond b (kept_by len kept xs) (kept_by len (x ∷ kept) xs)) ys) [
      | true ↦ apart-append len kept xs ys
      | false ↦ ap (λ zs. x ∷ zs) (apart-append len (x ∷ kept) xs ys)
    ]

-- the first one kept says what the others do, where each of these passes a test only if the first does
pub kept_by-any : (len : ℕ) (test : ℕ → Bool) (kept xs : List ℕ) →
    All (λ x. test x ≡ true → list_any test kept ≡ true) xs → list_any test (kept_by len kept xs) ≡ list_any test kept
unfolding kept_by
kept_by-any len test kept [] all = refl
kept_by-any len test kept (x ∷ xs) all =
    elim (list_any (shares len x) kept) as (λ b.
    list_any test (cond b (kept_by len kept xs) (kept_by len (x ∷ kept) xs)) ≡ list_any test kept) [
      | true ↦ kept_by-any len test kept xs (All-tail (λ y. test y ≡ true → list_any test kept ≡ true) x xs all)
      | false ↦
          kept_by-any len test (x ∷ kept) xs (All-weaker (λ y. test y ≡ true →
          list_any test kept ≡ true) (λ y. test y ≡ true → (test x || list_any test kept) ≡ true)
          (λ y one is. or_right (test x) (list_any test kept) (one is)) xs
          (All-tail (λ y. test y ≡ true → list_any test kept ≡ true) x xs all))
          ∙ elim (cases_Bool (test x)) [
            | inl is-it ↦ or_left (test x) (list_any test kept) is-it
                ∙ sym (All-head (λ y. test y ≡ true → list_any test kept ≡ true) x xs all is-it)
            | inr is-not ↦ ap (λ b. b || list_any test kept) is-not
          ]
    ]

pub kept_by-first : (len x : ℕ) (xs : List ℕ) → kept_by len [] (x ∷ xs) ≡ kept_by len (x ∷ []) xs
unfolding kept_by
kept_by-first len x xs = refl
