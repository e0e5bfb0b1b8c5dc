-- Elements by their places: after a push, a write, a removal, an insertion and a move.
use Rattle.name_list.proofs.Common.{◌≡◌, ℕ, zero, suc, ◌+◌, ◌-◌, ◌<◌, ◌≤◌, ◌≢◌, ◌⊎◌, nat_lt, if◌then◌else◌, Some, List}
use Rattle.name_list.proofs.Common.{[], ◌∷◌, ◌++◌, length, map, slice_get, slice_set, Contains, refl, sym, ap, ◌∙◌, inl}
use Rattle.name_list.proofs.Common.{inr, arith, lt-ltb, le-ltb, insert, remove, option_map, cases_lt, cases_eq}
use Rattle.name_list.proofs.Common.{nat_tests, none-some, same_Some, slice_get-map, slice_get-get_or, slice_get_within}
use Rattle.name_list.proofs.Common.{get_or_from_slice_get, length-remove, AreApart}

-- it stands somewhere in the list
abbrev pub Stands : {A : Type 0} → List A → A → Type 0
Stands xs x = (at : ℕ) × (slice_get xs at ≡ Some x)

pub stands_from_Contains : {A : Type 0} (xs : List A) (x : A) → Contains xs x → Stands xs x
stands_from_Contains xs x (at, within, is) = (at, slice_get-get_or xs at x within ∙ ap (λ y. Some y) is)

pub Contains-from_stands : {A : Type 0} (xs : List A) (x : A) → Stands xs x → Contains xs x
Contains-from_stands xs x (at, is) = (at, slice_get_within xs at x is, get_or_from_slice_get xs at x x is)

-- what stands in a list stands in what is seen of it, and the other way round
pub stands_map : {A B : Type 0} (f : A → B) (xs : List A) (x : A) → Stands xs x → Stands (map f xs) (f x)
stands_map f xs x (at, is) = (at, slice_get-map f xs at ∙ ap (option_map f) is)

pub stood_at : {A B : Type 0} (f : A → B) (xs : List A) (at : ℕ) (y : B) → slice_get (map f xs) at ≡ Some y →
    (x : A) × (slice_get xs at ≡ Some x) × (f x ≡ y)
stood_at f [] at y is = absurd (none-some y is)
stood_at f (x ∷ xs) zero y is = (x, refl, same_Some (f x) y is)
stood_at f (x ∷ xs) (suc at) y is = stood_at f xs at y is

-- two functions that agree on the elements of a list
pub map-same : {A B : Type 0} (f g : A → B) (xs : List A) → ((at : ℕ) (x : A) → slice_get xs at ≡ Some x → f x ≡ g x) →
    map f xs ≡ map g xs
map-same f g [] same = refl
map-same f g (x ∷ xs) same = λ i. same 0 x refl i ∷ map-same f g xs (λ at y is. same (suc at) y is) i

pub map-map : {A B C : Type 0} (f : B → C) (g : A → B) (xs : List A) → map f (map g xs) ≡ map (λ x. f (g x)) xs
map-map f g [] = refl
map-map f g (x ∷ xs) = ap (λ ys. f (g x) ∷ ys) (map-map f g xs)

-- a push
pub get_push : {A : Type 0} (xs : List A) (y : A) (at : ℕ) (x : A) → slice_get xs at ≡ Some x →
    slice_get (xs ++ y ∷ []) at ≡ Some x
get_push [] y at x is = absurd (none-some x is)
get_push (z ∷ xs) y zero x is = is
get_push (z ∷ xs) y (suc at) x is = get_push xs y at x is

pub get_pushed : {A : Type 0} (xs : List A) (y : A) → slice_get (xs ++ y ∷ []) (length xs) ≡ Some y
get_pushed [] y = refl
get_pushed (z ∷ xs) y = get_pushed xs y

pub get_push_cases : {A : Type 0} (xs : List A) (y : A) (at : ℕ) (x : A) → slice_get (xs ++ y ∷ []) at ≡ Some x →
    (slice_get xs at ≡ Some x) ⊎ ((at ≡ length xs) × (y ≡ x))
get_push_cases [] y zero x is = inr (refl, cc)
get_push_cases [] y (suc at) x is = inl is
get_push_cases (z ∷ xs) y zero x is = inl is
get_push_cases (z ∷ xs) y (suc at) x is =
    elim (get_push_cases xs y at x is) [ inl old ↦ inl old | inr new ↦ inr (ap suc new.0, new.1) ]

-- a write
pub get_set : {A : Type 0} (xs : List A) (i : ℕ) (y : A) → i < length xs → slice_get (slice_set xs i y) i ≡ Some y
get_set [] i y within = absurd (omega arith)
get_set (z ∷ xs) zero y within = refl
get_set (z ∷ xs) (suc i) y within = get_set xs i y (omega arith)

pub get_set_other : {A : Type 0} (xs : List A) (i : ℕ) (y : A) (at : ℕ) → at ≢ i →
    slice_get (slice_set xs i y) at ≡ slice_get xs at
get_set_other [] i y at other = refl
get_set_other (z ∷ xs) zero y zero other = absurd (other refl)
get_set_other (z ∷ xs) zero y (suc at) other = refl
get_set_other (z ∷ xs) (suc i) y zero other = refl
get_set_other (z ∷ xs) (suc i) y (suc at) other = get_set_other xs i y at (λ e. other (ap suc e))

-- the place before a removal of what stands at a place after it
abbrev pub before_removal : ℕ → ℕ → ℕ
before_removal i at = if nat_lt at i then at else at + 1

shifted : {A : Type 0} (z : A) (xs : List A) (i at : ℕ) →
    slice_get xs (before_removal i at) ≡ slice_get (z ∷ xs) (before_removal (suc i) (suc at))
shifted z xs i at = elim (cases_lt at i) [
  | inl below ↦ ap (slice_get xs) (ap (λ b. if b then at else at + 1) (lt-ltb at i below))
      ∙ sym (ap (slice_get (z ∷ xs)) (ap (λ b. if b then suc at
      else suc at + 1) (lt-ltb (suc at) (suc i) (omega arith))))
  | inr above ↦ ap (slice_get xs) (ap (λ b. if b then at else at + 1) (le-ltb at i above))
      ∙ sym (ap (slice_get (z ∷ xs)) (ap (λ b. if b then suc at else suc at + 1) (le-ltb (suc at) (suc i) (omega arith))
      ∙ (let e : suc at + 1 ≡ suc (at + 1) = omega arith in e)))
]

pub get_remove : {A : Type 0} (xs : List A) (i at : ℕ) → i < length xs →
    slice_get (remove xs i) at ≡ slice_get xs (before_removal i at)
get_remove [] i at within = absurd (omega arith)
get_remove (z ∷ xs) zero at within =
    ap (slice_get (z ∷ xs)) (let e : suc at ≡ before_removal 0 at = grind (arith, nat_tests) in e)
get_remove (z ∷ xs) (suc i) zero within =
    ap (slice_get (z ∷ xs)) (let e : 0 ≡ before_removal (suc i) 0 = grind (arith, nat_tests) in e)
get_remove (z ∷ xs) (suc i) (suc at) within = get_remove xs i at (omega arith) ∙ shifted z xs i at

before_removal_skips : (i at : ℕ) → ¬ (before_removal i at ≡ i)
before_removal_skips i at same = grind (arith, nat_tests)

other_number : (xs : List ℕ) (i at n k : ℕ) → at ≡ i → slice_get xs i ≡ Some n → slice_get xs at ≡ Some k → ¬ (k < n)
other_number xs i at n k e is also below = let same = same_Some n k (sym is ∙ ap (slice_get xs) (sym e) ∙ also) in
    omega arith

before_removal-apart : (i j k : ℕ) → before_removal i j ≡ before_removal i k → j ≡ k
before_removal-apart i j k same = grind (arith, nat_tests)

-- what stood at another place still stands
pub get_remove_other : {A : Type 0} (xs : List A) (i at : ℕ) (x : A) → i < length xs → at ≢ i →
    slice_get xs at ≡ Some x → Stands (remove xs i) x
get_remove_other xs i at x within other is = elim (cases_lt at i) [
  | inl below ↦ (
    at,
    get_remove xs i at within
        ∙ ap (slice_get xs) (ap (λ b. if b then at else at + 1) (lt-ltb at i below)) ∙ is,
  )
  | inr above ↦
      let back : before_removal i (at - 1) ≡ at = ap (λ b. if b then at - 1
      else at - 1 + 1) (le-ltb (at - 1) i (omega arith)) ∙ omega arith in
      (at - 1, get_remove xs i (at - 1) within ∙ ap (slice_get xs) back ∙ is)
]

pub AreApart-remove : {A : Type 0} (xs : List A) (i : ℕ) → i < length xs → AreApart xs → AreApart (remove xs i)
AreApart-remove xs i within apart = λ j k x is also.
    before_removal-apart i j k (apart (before_removal i j) (before_removal i k) x (sym (get_remove xs i j within)
    ∙ is) (sym (get_remove xs i k within) ∙ also))

-- where what was there stands after an insertion
get_insert_below : {A : Type 0} (xs : List A) (i : ℕ) (y : A) (at : ℕ) → i ≤ length xs → at < i →
    slice_get (insert xs i y) at ≡ slice_get xs at
get_insert_below xs zero y at within below = absurd (omega arith)
get_insert_below [] (suc i) y at within below = absurd (omega arith)
get_insert_below (z ∷ xs) (suc i) y zero within below = refl
get_insert_below (z ∷ xs) (suc i) y (suc at) within below = get_insert_below xs i y at (omega arith) (omega arith)

get_insert_above : {A : Type 0} (xs : List A) (i : ℕ) (y : A) (at : ℕ) → i ≤ length xs → i ≤ at →
    slice_get (insert xs i y) (suc at) ≡ slice_get xs at
get_insert_above xs zero y at within above = refl
get_insert_above [] (suc i) y at within above = absurd (omega arith)
get_insert_above (z ∷ xs) (suc i) y zero within above = absurd (omega arith)
get_insert_above (z ∷ xs) (suc i) y (suc at) within above = get_insert_above xs i y at (omega arith) (omega arith)

pub get_inserted : {A : Type 0} (xs : List A) (i : ℕ) (y : A) → i ≤ length xs → slice_get (insert xs i y) i ≡ Some y
get_inserted xs zero y within = refl
get_inserted [] (suc i) y within = absurd (omega arith)
get_inserted (z ∷ xs) (suc i) y within = get_inserted xs i y (omega arith)

-- an element of the list after an insertion is the new one, or stood in the list
pub get_insert_cases : {A : Type 0} (xs : List A) (i : ℕ) (y : A) (at : ℕ) (x : A) → i ≤ length xs →
    slice_get (insert xs i y) at ≡ Some x →
    ((at ≡ i) × (y ≡ x)) ⊎ ((j : ℕ) × (slice_get xs j ≡ Some x) × (((at ≡ j) × (j < i)) ⊎ ((at ≡ j + 1) × (i ≤ j))))
get_insert_cases xs i y at x within is = elim (cases_eq at i) [
  | inl here ↦ inl (
    here,
    same_Some y x (sym (get_inserted xs i y within) ∙ ap (slice_get (insert xs i y)) (sym here)
        ∙ is),
  )
  | inr other ↦ elim (cases_lt at i) [
    | inl below ↦ inr (at, sym (get_insert_below xs i y at within below) ∙ is, inl (refl, below))
    | inr above ↦
        let next : suc (at - 1) ≡ at = omega arith in
        let over : i ≤ at - 1 = omega arith in
        inr (
          at - 1,
          sym (get_insert_above xs i y (at - 1) within over) ∙ ap (slice_get (insert xs i y)) next
              ∙ is,
          inr (omega arith, over),
        )
  ]
]

pub stands_insert : {A : Type 0} (xs : List A) (i : ℕ) (y x : A) → i ≤ length xs → Stands xs x →
    Stands (insert xs i y) x
stands_insert xs i y x within (at, is) = elim (cases_lt at i) [
  | inl below ↦ (at, get_insert_below xs i y at within below ∙ is)
  | inr above ↦ (suc at, get_insert_above xs i y at within above ∙ is)
]

places_apart : (i at other j k : ℕ) → j ≡ k → ((at ≡ j) × (j < i)) ⊎ ((at ≡ j + 1) × (i ≤ j)) →
    ((other ≡ k) × (k < i)) ⊎ ((other ≡ k + 1) × (i ≤ k)) → at ≡ other
places_apart i at other j k same one two = elim one [
  | inl p ↦ elim two [ inl q ↦ omega arith | inr q ↦ omega arith ]
  | inr p ↦ elim two [ inl q ↦ omega arith | inr q ↦ omega arith ]
]

pub AreApart-insert : {A : Type 0} (xs : List A) (i : ℕ) (y : A) → i ≤ length xs → ¬ (Stands xs y) → AreApart xs →
    AreApart (insert xs i y)
AreApart-insert xs i y within new apart = λ at other x is also. elim (get_insert_cases xs i y at x within is) [
  | inl here ↦ elim (get_insert_cases xs i y other x within also) [
    | inl there ↦ here.0 ∙ sym there.0
    | inr old ↦ absurd (new (old.0, old.1 ∙ ap (λ z. Some z) (sym here.1)))
  ]
  | inr one ↦ elim (get_insert_cases xs i y other x within also) [
    | inl there ↦ absurd (new (one.0, one.1 ∙ ap (λ z. Some z) (sym there.1)))
    | inr two ↦ places_apart i at other one.0 two.0 (apart one.0 two.0 x one.1 two.1) one.2 two.2
  ]
]

-- a removed element stands nowhere in the rest
pub removed_is_gone : {A : Type 0} (xs : List A) (i : ℕ) (x : A) → AreApart xs → slice_get xs i ≡ Some x →
    ¬ (Stands (remove xs i) x)
removed_is_gone xs i x apart is (at, stays) =
    let within = slice_get_within xs i x is in
    let same = apart (before_removal i at) i x (sym (get_remove xs i at within) ∙ stays) is in
    before_removal_skips i at same

-- if every number below n stands in the list, it has n elements at least
pub room_of_numbers : (n : ℕ) (xs : List ℕ) → ((k : ℕ) → k < n → Stands xs k) → n ≤ length xs
room_of_numbers zero xs all = omega arith
room_of_numbers (suc n) xs all =
    let last = all n (omega arith) in
    let within = slice_get_within xs last.0 n last.1 in
    let rest = room_of_numbers n (remove xs last.0) (λ k below. let old = all k (omega arith) in
    get_remove_other xs last.0 old.0 k within (λ e. other_number xs last.0 old.0 n k e last.1 old.1 (omega arith))
    old.1) in
    omega (arith, length-remove xs last.0 within)
