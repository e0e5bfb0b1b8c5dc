-- First elements that pass a test, and moves by their places.
use Rattle.name_list.proofs.Common.{◌≡◌, ◌≢◌, ℕ, zero, suc, ◌+◌, ◌-◌, ◌<◌, ◌⊎◌, Bool, true, false, cond, not, nat_lt}
use Rattle.name_list.proofs.Common.{if◌then◌else◌, Option, None, Some, List, [], ◌∷◌, ◌++◌, length, map, slice_get}
use Rattle.name_list.proofs.Common.{refl, sym, ap, ◌∙◌, inl, inr, arith, lt-ltb, le-ltb, position, find, insert, remove}
use Rattle.name_list.proofs.Common.{position_or_len, option_map, option_and_then, option_map_or, cases_lt, nat_tests}
use Rattle.name_list.proofs.Common.{insert_end, length-remove, none-some, same_Some, slice_get_within, move_index}
use Rattle.name_list.proofs.Common.{without, put_behind, put_before}

one_more : (n len : ℕ) → cond (nat_lt (1 + n) (suc len)) (Some (1 + n)) None
    ≡ option_map (λ i. suc i) (cond (nat_lt n len) (Some n) None)
one_more n len = elim (cases_lt n len) [
  | inl below ↦ ap (λ b. cond b (Some (1 + n)) None) (lt-ltb (1 + n) (suc len) (omega arith))
      ∙ ap (λ k. Some k) (let e : 1 + n ≡ suc n = omega arith in e)
      ∙ ap (λ b. option_map (λ i. suc i) (cond b (Some n) None)) (sym (lt-ltb n len below))
  | inr above ↦ ap (λ b. cond b (Some (1 + n)) None) (le-ltb (1 + n) (suc len) (omega arith))
      ∙ ap (λ b. option_map (λ i. suc i) (cond b (Some n) None)) (sym (le-ltb n len above))
]

next_place : (i j at : ℕ) → at ≡ suc j → j ≢ i → suc (if nat_lt j i then j else j - 1)
    ≡ (if nat_lt at (suc i) then at else at - 1)
next_place i j at e other = grind (arith, nat_tests)

module _ {A : Type 0} (test : A → Bool) where
  pub position-cons : (x : A) (xs : List A) → position test (x ∷ xs)
      ≡ cond (test x) (Some 0) (option_map (λ i. suc i) (position test xs))
  position-cons x xs = by (test x) refl
    where
      by : (b : Bool) → test x ≡ b → position test (x ∷ xs)
          ≡ cond (test x) (Some 0) (option_map (λ i. suc i) (position test xs))
      by true is = ap (λ b. cond (nat_lt (cond (not b) (1 + position_or_len test xs) 0) (suc (length xs)))
          (Some (cond (not b) (1 + position_or_len test xs) 0)) None) is
          ∙ ap (λ b. cond b (Some 0) None) (lt-ltb 0 (suc (length xs)) (omega arith))
          ∙ ap (λ b. cond b (Some 0) (option_map (λ i. suc i) (position test xs))) (sym is)
      by false is = ap (λ b. cond (nat_lt (cond (not b) (1 + position_or_len test xs) 0) (suc (length xs)))
          (Some (cond (not b) (1 + position_or_len test xs) 0)) None) is
          ∙ one_more (position_or_len test xs) (length xs)
          ∙ ap (λ b. cond b (Some 0) (option_map (λ i. suc i) (position test xs))) (sym is)

  -- the places behind the first element
  cons_is : (b : Bool) (o : Option ℕ) (i : ℕ) → cond b (Some 0) (option_map (λ k. suc k) o) ≡ Some i →
      ((b ≡ true) × (i ≡ 0)) ⊎ ((j : ℕ) × (b ≡ false) × (o ≡ Some j) × (i ≡ suc j))
  cons_is true o i is = inl (refl, same_Some i 0 (sym is))
  cons_is false None i is = absurd (none-some i is)
  cons_is false (Some j) i is = inr (j, refl, refl, same_Some i (suc j) (sym is))

  pub position_cases : (x : A) (xs : List A) (i : ℕ) → position test (x ∷ xs) ≡ Some i →
      ((test x ≡ true) × (i ≡ 0)) ⊎ ((j : ℕ) × (test x ≡ false) × (position test xs ≡ Some j) × (i ≡ suc j))
  position_cases x xs i is = cons_is (test x) (position test xs) i (sym (position-cons x xs) ∙ is)

  pub position_within : (xs : List A) (i : ℕ) → position test xs ≡ Some i → i < length xs
  position_within [] i is = absurd (none-some i is)
  position_within (x ∷ xs) i is = elim (position_cases x xs i is)
      [ inl here ↦ omega arith | inr (j, fails, rest, e) ↦ let within = position_within xs j rest in omega arith ]

  pub position-passes : (xs : List A) (i : ℕ) (x : A) → position test xs ≡ Some i → slice_get xs i ≡ Some x →
      test x ≡ true
  position-passes [] i x is here = absurd (none-some i is)
  position-passes (y ∷ xs) i x is here = elim (position_cases y xs i is) [
    | inl (passes, e) ↦ ap test (same_Some x y (sym here ∙ ap (slice_get (y ∷ xs)) e)) ∙ passes
    | inr (j, fails, rest, e) ↦ position-passes xs j x rest (sym (ap (slice_get (y ∷ xs)) e) ∙ here)
  ]

  -- where an element passes there is a first that does
  pub position-some : (xs : List A) (at : ℕ) (x : A) → slice_get xs at ≡ Some x → test x ≡ true →
      (i : ℕ) × (position test xs ≡ Some i)
  position-some [] at x is passes = absurd (none-some x is)
  position-some (y ∷ xs) zero x is passes = (
    0,
    position-cons y xs
        ∙ ap (λ b. cond b (Some 0) (option_map (λ i. suc i) (position test xs))) (ap test (same_Some y x is) ∙ passes),
  )
  position-some (y ∷ xs) (suc at) x is passes = let rest = position-some xs at x is passes in
      by (test y) rest.0 rest.1 (position-cons y xs)
    where
      by : (b : Bool) (i : ℕ) → position test xs ≡ Some i →
          position test (y ∷ xs) ≡ cond b (Some 0) (option_map (λ i. suc i) (position test xs)) →
          (i : ℕ) × (position test (y ∷ xs) ≡ Some i)
      by true i rest e = (0, e)
      by false i rest e = (suc i, e ∙ ap (option_map (λ i. suc i)) rest)

  pub find-position : (xs : List A) → find test xs ≡ option_and_then (slice_get xs) (position test xs)
  find-position [] = refl
  find-position (x ∷ xs) = by (find-position xs) (test x) refl
    where
      over : (o : Option ℕ) → option_and_then (slice_get xs) o
          ≡ option_and_then (slice_get (x ∷ xs)) (option_map (λ i. suc i) o)
      over None = refl
      over (Some i) = refl

      by : find test xs ≡ option_and_then (slice_get xs) (position test xs) → (b : Bool) → test x ≡ b →
          find test (x ∷ xs) ≡ option_and_then (slice_get (x ∷ xs)) (position test (x ∷ xs))
      by rest true is = ap (λ b. cond b (Some x) (find test xs)) is
          ∙ ap (λ b. option_and_then (slice_get (x ∷ xs))
          (cond b (Some 0) (option_map (λ i. suc i) (position test xs)))) (sym is)
          ∙ ap (option_and_then (slice_get (x ∷ xs))) (sym (position-cons x xs))
      by rest false is = ap (λ b. cond b (Some x) (find test xs)) is ∙ rest ∙ over (position test xs)
          ∙ ap (λ b. option_and_then (slice_get (x ∷ xs))
          (cond b (Some 0) (option_map (λ i. suc i) (position test xs)))) (sym is)
          ∙ ap (option_and_then (slice_get (x ∷ xs))) (sym (position-cons x xs))

  pub first_is : (xs : List A) (i : ℕ) → position test xs ≡ Some i → (x : A) × (slice_get xs i ≡ Some x)
  first_is [] i is = absurd (none-some i is)
  first_is (x ∷ xs) i is = elim (position_cases x xs i is) [
    | inl (passes, e) ↦ (x, ap (slice_get (x ∷ xs)) e)
    | inr (j, fails, rest, e) ↦ let found = first_is xs j rest in (found.0, ap (slice_get (x ∷ xs)) e ∙ found.1)
  ]

  pub none_found : (xs : List A) → find test xs ≡ None → position test xs ≡ None
  none_found xs none = by (position test xs) refl
    where
      by : (o : Option ℕ) → position test xs ≡ o → o ≡ None
      by None is = refl
      by (Some i) is = absurd (none-some _ (sym none ∙ find-position xs ∙ ap (option_and_then (slice_get xs)) is
          ∙ (first_is xs i is).1))

  pub found_at : (xs : List A) (i : ℕ) → position test xs ≡ Some i → find test xs ≡ slice_get xs i
  found_at xs i is = find-position xs ∙ ap (option_and_then (slice_get xs)) is

  pub not_found : (xs : List A) → position test xs ≡ None → find test xs ≡ None
  not_found xs is = find-position xs ∙ ap (option_and_then (slice_get xs)) is

  -- the first that passes is taken out at its place
  pub without-remove : (xs : List A) (i : ℕ) → position test xs ≡ Some i → without test xs ≡ remove xs i
  without-remove [] i is = absurd (none-some i is)
  without-remove (x ∷ xs) i is = elim (position_cases x xs i is) [
    | inl (passes, e) ↦ ap (λ b. if b then xs else x ∷ without test xs) passes ∙ ap (remove (x ∷ xs)) (sym e)
    | inr (j, fails, rest, e) ↦ ap (λ b. if b then xs else x ∷ without test xs) fails
        ∙ ap (λ ys. x ∷ ys) (without-remove xs j rest) ∙ ap (remove (x ∷ xs)) (sym e)
  ]

  pub without_none : (xs : List A) → position test xs ≡ None → without test xs ≡ xs
  without_none [] is = refl
  without_none (x ∷ xs) is = by (without_none xs) (test x) refl (sym (position-cons x xs) ∙ is)
    where
      rest : (o : Option ℕ) → option_map (λ i. suc i) o ≡ None → o ≡ None
      rest None e = refl
      rest (Some i) e = absurd (none-some (suc i) (sym e))

      by : (position test xs ≡ None → without test xs ≡ xs) → (b : Bool) → test x ≡ b →
          cond (test x) (Some 0) (option_map (λ i. suc i) (position test xs)) ≡ None → without test (x ∷ xs) ≡ x ∷ xs
      by old true passes e =
          absurd (none-some 0 (sym e ∙ ap (λ b. cond b (Some 0) (option_map (λ i. suc i) (position test xs))) passes))
      by old false fails e = ap (λ b. if b then xs else x ∷ without test xs) fails
          ∙ ap (λ ys. x ∷ ys)
          (old (rest (position test xs) (ap (λ b. cond b (Some 0) (option_map (λ i. suc i) (position test xs)))
          (sym fails) ∙ e)))

  -- what was put last is what is taken out, if nothing before it passes
  pub without-push : (xs : List A) (x : A) → position test xs ≡ None → test x ≡ true → without test (xs ++ x ∷ []) ≡ xs
  without-push [] x none passes = ap (λ b. if b then [] else x ∷ []) passes
  without-push (y ∷ xs) x none passes =
      by (test y) refl (sym (position-cons y xs) ∙ none) (λ rest. without-push xs x rest passes)
    where
      rest_none : (o : Option ℕ) → option_map (λ i. suc i) o ≡ None → o ≡ None
      rest_none None e = refl
      rest_none (Some i) e = absurd (none-some (suc i) (sym e))

      by : (b : Bool) → test y ≡ b → cond (test y) (Some 0) (option_map (λ i. suc i) (position test xs)) ≡ None →
          (position test xs ≡ None → without test (xs ++ x ∷ []) ≡ xs) → without test (y ∷ xs ++ x ∷ []) ≡ y ∷ xs
      by true found e rest =
          absurd (none-some 0 (sym e ∙ ap (λ b. cond b (Some 0) (option_map (λ i. suc i) (position test xs))) found))
      by false fails e rest = ap (λ b. if b then xs ++ x ∷ [] else y ∷ without test (xs ++ x ∷ [])) fails
          ∙ ap (λ ys. y ∷ ys)
          (rest (rest_none (position test xs)
          (ap (λ b. cond b (Some 0) (option_map (λ i. suc i) (position test xs))) (sym fails) ∙ e)))

  pub put_behind-insert : (new : A) (xs : List A) (i : ℕ) → position test xs ≡ Some i →
      put_behind test new xs ≡ insert xs (i + 1) new
  put_behind-insert new [] i is = absurd (none-some i is)
  put_behind-insert new (x ∷ xs) i is = elim (position_cases x xs i is) [
    | inl (passes, e) ↦ ap (λ b. if b then x ∷ new ∷ xs else x ∷ put_behind test new xs) passes
        ∙ ap (λ k. insert (x ∷ xs) k new) (let one : 1 ≡ i + 1 = omega arith in one)
    | inr (j, fails, rest, e) ↦ ap (λ b. if b then x ∷ new ∷ xs else x ∷ put_behind test new xs) fails
        ∙ ap (λ ys. x ∷ ys) (put_behind-insert new xs j rest)
        ∙ ap (λ k. insert (x ∷ xs) k new) (let one : suc (j + 1) ≡ i + 1 = omega arith in one)
  ]

  pub put_before-insert : (new : A) (xs : List A) (i : ℕ) → position test xs ≡ Some i →
      put_before test new xs ≡ insert xs i new
  put_before-insert new [] i is = absurd (none-some i is)
  put_before-insert new (x ∷ xs) i is = elim (position_cases x xs i is) [
    | inl (passes, e) ↦ ap (λ b. if b then new ∷ x ∷ xs else x ∷ put_before test new xs) passes
        ∙ ap (λ k. insert (x ∷ xs) k new) (sym e)
    | inr (j, fails, rest, e) ↦ ap (λ b. if b then new ∷ x ∷ xs else x ∷ put_before test new xs) fails
        ∙ ap (λ ys. x ∷ ys) (put_before-insert new xs j rest) ∙ ap (λ k. insert (x ∷ xs) k new) (sym e)
  ]

  -- the first that passes, once another element was taken out
  pub position-remove : (xs : List A) (i at : ℕ) → position test xs ≡ Some at → at ≢ i →
      position test (remove xs i) ≡ Some (if nat_lt at i then at else at - 1)
  position-remove [] i at is other = absurd (none-some at is)
  position-remove (x ∷ xs) zero at is other = elim (position_cases x xs at is) [
    | inl (passes, e) ↦ absurd (other e)
    | inr (j, fails, rest, e) ↦ rest ∙ ap (λ k. Some k) (let d : j
        ≡ (if nat_lt at 0 then at else at - 1) = grind (arith, nat_tests) in d)
  ]
  position-remove (x ∷ xs) (suc i) at is other = position-cons x (remove xs i) ∙ elim (position_cases x xs at is) [
    | inl (passes, e) ↦ ap (λ b. cond b (Some 0) (option_map (λ k. suc k) (position test (remove xs i)))) passes
        ∙ ap (λ k. Some k) (let d : 0 ≡ (if nat_lt at (suc i) then at else at - 1) = grind (arith, nat_tests) in d)
    | inr (j, fails, rest, e) ↦
        ap (λ b. cond b (Some 0) (option_map (λ k. suc k) (position test (remove xs i)))) fails
        ∙ ap (option_map (λ k. suc k)) (position-remove xs i j rest (λ d. other (e ∙ ap suc d)))
        ∙ ap (λ k. Some k) (next_place i j at e (λ d. other (e ∙ ap suc d)))
  ]

pub position-map : {A B : Type 0} (f : A → B) (test : B → Bool) (xs : List A) →
    position test (map f xs) ≡ position (λ x. test (f x)) xs
position-map f test [] = refl
position-map f test (x ∷ xs) = position-cons test (f x) (map f xs)
    ∙ ap (λ o. cond (test (f x)) (Some 0) (option_map (λ i. suc i) o)) (position-map f test xs)
    ∙ sym (position-cons (λ x. test (f x)) x xs)

-- what is taken out and put back
pub insert-remove : {A : Type 0} (xs : List A) (i : ℕ) (x : A) → slice_get xs i ≡ Some x → insert (remove xs i) i x ≡ xs
insert-remove [] i x is = absurd (none-some x is)
insert-remove (y ∷ xs) zero x is = ap (λ z. z ∷ xs) (same_Some x y (sym is))
insert-remove (y ∷ xs) (suc i) x is = ap (λ zs. y ∷ zs) (insert-remove xs i x is)

pub moved_at : {A : Type 0} (xs : List A) (from to : ℕ) (x : A) → slice_get xs from ≡ Some x →
    move_index xs from to ≡ insert (remove xs from) to x
moved_at xs from to x is = ap (λ o. option_map_or (λ y. insert (remove xs from) to y) o xs) is

pub moved_last : {A : Type 0} (xs : List A) (from : ℕ) (x : A) → slice_get xs from ≡ Some x →
    move_index xs from (length xs - 1) ≡ remove xs from ++ x ∷ []
moved_last xs from x is =
    let within = slice_get_within xs from x is in
    moved_at xs from (length xs - 1) x is
    ∙ ap (λ k. insert (remove xs from) k x) (let e : length xs - 1
    ≡ length (remove xs from) = omega (arith, length-remove xs from within) in e) ∙ insert_end (remove xs from) x
