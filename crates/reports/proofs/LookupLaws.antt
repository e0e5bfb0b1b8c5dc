-- Elements of a list that are found by their names.
use Rattle.reports.proofs.Common.{◌≡◌, ℕ, zero, suc, Bool, true, false, cond, ◌&&◌, ◌||◌, List, [], ◌∷◌, ◌++◌, Option}
use Rattle.reports.proofs.Common.{None, Some, filter, map, refl, sym, ap, ap₂, ◌∙◌, true≢false, arith, find, bytes_eq}
use Rattle.reports.proofs.Common.{list_any, false_from_ne_true, none-some, same_Some, bytes_eq-Decides, AreApart-insert}
use Rattle.reports.proofs.Common.{stands_map, stood_at, Slots, is_among, AreApart-head, AreApart-tail, slice_get}
use Rattle.reports.proofs.Common.{option_map, AreApart, Stands}
use Rattle.std.specs.FinSet as set

-- whether a set has the slot, if there is one
abbrev pub has : Slots → Option ℕ → Bool
has slots None = false
has slots (Some slot) = set.contains slots slot

pub and_none : (a : Bool) → (a && false) ≡ false
and_none true = refl
and_none false = refl

and_or_none : (a : Bool) → ((a && true) || false) ≡ a
and_or_none true = refl
and_or_none false = refl

-- what stands among the elements that pass a test stands among all, and passes
pub filter_stood : {A : Type 0} (p : A → Bool) (xs : List A) (at : ℕ) (x : A) → slice_get (filter p xs) at ≡ Some x →
    Stands xs x × (p x ≡ true)
filter_stood p [] at x is = absurd (none-some x is)
filter_stood p (y ∷ xs) at x is =
    let rest = λ (k : ℕ) (there : slice_get (filter p xs) k ≡ Some x). filter_stood p xs k x there in
    elim (p y) as (λ b. p y ≡ b → slice_get (cond b (y ∷ filter p xs) (filter p xs)) at ≡ Some x →
    Stands (y ∷ xs) x × (p x ≡ true)) [
      | true ↦ λ passes here. first rest passes at here
      | false ↦ λ _ there. let found = rest at there in ((suc found.0.0, found.0.1), found.1)
    ] refl is
  where
    first : ((k : ℕ) → slice_get (filter p xs) k ≡ Some x → Stands xs x × (p x ≡ true)) → p y ≡ true → (k : ℕ) →
        slice_get (y ∷ filter p xs) k ≡ Some x → Stands (y ∷ xs) x × (p x ≡ true)
    first rest passes zero here = ((0, here), ap p (sym (same_Some y x here)) ∙ passes)
    first rest passes (suc k) there = let found = rest k there in ((suc found.0.0, found.0.1), found.1)

pub filter_stands : {A : Type 0} (p : A → Bool) (xs : List A) (at : ℕ) (x : A) → slice_get xs at ≡ Some x → p x ≡ true →
    Stands (filter p xs) x
filter_stands p [] at x is passes = absurd (none-some x is)
filter_stands p (y ∷ xs) zero x is passes =
    let one : y ≡ x = same_Some y x is in
    (0, ap (λ b. slice_get (cond b (y ∷ filter p xs) (filter p xs)) 0) (ap p one ∙ passes) ∙ ap Some one)
filter_stands p (y ∷ xs) (suc at) x is passes =
    let rest = filter_stands p xs at x is passes in
    elim (p y) as (λ b. Stands (cond b (y ∷ filter p xs) (filter p xs)) x) [
      | true ↦ (suc rest.0, rest.1)
      | false ↦ rest
    ]

pub AreApart-filter : {A B : Type 0} (f : A → B) (p : A → Bool) (xs : List A) → AreApart (map f xs) →
    AreApart (map f (filter p xs))
AreApart-filter f p [] apart = apart
AreApart-filter f p (x ∷ xs) apart =
    let rest = AreApart-filter f p xs (AreApart-tail (f x) (map f xs) apart) in
    let new : ¬ (Stands (map f (filter p xs)) (f x)) = λ there.
    let found = stood_at f (filter p xs) there.0 (f x) there.1 in
    let before = stands_map f xs found.0 (filter_stood p xs there.0 found.0 found.1).0 in
    AreApart-head (f x) (map f xs) before.0 apart (before.1 ∙ ap Some found.2) in
    elim (p x) as (λ b. AreApart (map f (cond b (x ∷ filter p xs) (filter p xs)))) [
      | true ↦ AreApart-insert (map f (filter p xs)) 0 (f x) (omega arith) new rest
      | false ↦ rest
    ]

-- elements with a name and a slot each
module _ {A : Type 0} (name_of : A → List ℕ) (slot_of : A → ℕ) where
  abbrev pub looked : List ℕ → List A → Option ℕ
  looked name xs = option_map slot_of (find (λ x. bytes_eq name (name_of x)) xs)

  abbrev is_held : List ℕ → Slots → A → Bool
  is_held name slots x = set.contains slots (slot_of x) && bytes_eq name (name_of x)

  -- what is found stands there
  pub looked-stands : (name : List ℕ) (slot : ℕ) (xs : List A) → looked name xs ≡ Some slot →
      (at : ℕ) × (x : A) × (slice_get xs at ≡ Some x) × (name_of x ≡ name) × (slot_of x ≡ slot)
  looked-stands name slot [] is = absurd (none-some slot is)
  looked-stands name slot (x ∷ xs) is =
      elim (bytes_eq name (name_of x)) as (λ b. bytes_eq name (name_of x) ≡ b →
      option_map slot_of (cond b (Some x) (find (λ y. bytes_eq name (name_of y)) xs)) ≡ Some slot
      → (at : ℕ) × (y : A) × (slice_get (x ∷ xs) at ≡ Some y) × (name_of y ≡ name) × (slot_of y ≡ slot)) [
        | true ↦ λ same here. (
          0,
          x,
          refl,
          sym ((bytes_eq-Decides name (name_of x)).0 same),
          same_Some (slot_of x) slot here,
        )
        | false ↦ λ _ there. let rest = looked-stands name slot xs there in (suc rest.0, rest.1, rest.2, rest.3, rest.4)
      ] refl is

  -- what stands there is found, where names are apart
  pub looked-standing : (xs : List A) (at : ℕ) (x : A) → AreApart (map name_of xs) → slice_get xs at ≡ Some x →
      looked (name_of x) xs ≡ Some (slot_of x)
  looked-standing [] at x apart is = absurd (none-some x is)
  looked-standing (first ∷ xs) zero x apart is =
      let one : first ≡ x = same_Some first x is in
      ap (λ b. option_map slot_of (cond b (Some first) (find (λ y. bytes_eq (name_of x) (name_of y)) xs)))
      ((bytes_eq-Decides (name_of x) (name_of first)).1 (ap name_of (sym one)))
      ∙ ap (λ y. Some (slot_of y)) one
  looked-standing (first ∷ xs) (suc at) x apart is =
      let there = stands_map name_of xs x (at, is) in
      let other : bytes_eq (name_of x) (name_of first) ≡ false =
      false_from_ne_true _ (λ same. AreApart-head (name_of first) (map name_of xs) there.0 apart (there.1
      ∙ ap Some ((bytes_eq-Decides (name_of x) (name_of first)).0 same))) in
      ap (λ b. option_map slot_of (cond b (Some first) (find (λ y. bytes_eq (name_of x) (name_of y)) xs))) other
      ∙ looked-standing xs at x (AreApart-tail (name_of first) (map name_of xs) apart) is

  gone : (name : List ℕ) (xs : List A) (slots : Slots) → ((at : ℕ) → slice_get (map name_of xs) at ≡ Some name → ⊥) →
      list_any (is_held name slots) xs ≡ false
  gone name [] slots none = refl
  gone name (x ∷ xs) slots none =
      let other : bytes_eq name (name_of x)
      ≡ false = false_from_ne_true _ (λ same. none 0 (ap Some (sym ((bytes_eq-Decides name (name_of x)).0 same))))
      in
      ap₂ (λ b c. (set.contains slots (slot_of x) && b) || c) other (gone name xs slots (λ at is. none (suc at) is))
      ∙ ap (λ b. b || false) (and_none (set.contains slots (slot_of x)))

  -- an element of the name has its slot in a set where the one that is found has
  pub looked-any : (name : List ℕ) (xs : List A) (slots : Slots) → AreApart (map name_of xs) →
      list_any (is_held name slots) xs ≡ has slots (looked name xs)
  looked-any name [] slots apart = refl
  looked-any name (x ∷ xs) slots apart =
      elim (bytes_eq name (name_of x)) as (λ b. bytes_eq name (name_of x) ≡ b
      → ((set.contains slots (slot_of x) && b) || list_any (is_held name slots) xs)
      ≡ has slots (option_map slot_of (cond b (Some x) (find (λ y. bytes_eq name (name_of y)) xs)))) [
        | true ↦ λ same.
            let named = (bytes_eq-Decides name (name_of x)).0 same in
            ap (λ b. (set.contains slots (slot_of x) && true)
            || b) (gone name xs slots (λ at is.
            AreApart-head (name_of x) (map name_of xs) at apart (is ∙ ap Some named)))
            ∙ and_or_none (set.contains slots (slot_of x))
        | false ↦ λ _.
            ap (λ b. b || list_any (is_held name slots) xs) (and_none (set.contains slots (slot_of x)))
            ∙ looked-any name xs slots (AreApart-tail (name_of x) (map name_of xs) apart)
      ] refl

  -- what is found in a list is found where more follows
  pub looked-front : (name : List ℕ) (xs more : List A) (slot : ℕ) → looked name xs ≡ Some slot →
      looked name (xs ++ more) ≡ Some slot
  looked-front name [] more slot is = absurd (none-some slot is)
  looked-front name (x ∷ xs) more slot is =
      elim (bytes_eq name (name_of x)) as (λ b.
      option_map slot_of (cond b (Some x) (find (λ y. bytes_eq name (name_of y)) xs)) ≡ Some slot
      → option_map slot_of (cond b (Some x) (find (λ y. bytes_eq name (name_of y)) (xs ++ more))) ≡ Some slot) [
        | true ↦ λ here. here
        | false ↦ λ there. looked-front name xs more slot there
      ] is

  -- among the elements whose names pass a test
  pub looked-filter : (stays : List ℕ → Bool) (name : List ℕ) (xs : List A) →
      looked name (filter (λ x. stays (name_of x)) xs) ≡ cond (stays name) (looked name xs) None
  looked-filter stays name [] =
      elim (stays name) as (λ b. looked name [] ≡ cond b (looked name []) None) [ true ↦ refl | false ↦ refl ]
  looked-filter stays name (x ∷ xs) =
      let test = λ (y : A). bytes_eq name (name_of y) in
      let rest = looked-filter stays name xs in
      elim (bytes_eq name (name_of x)) as (λ b. bytes_eq name (name_of x) ≡ b
      → looked name (cond (stays (name_of x)) (x ∷ filter (λ y. stays (name_of y)) xs)
      (filter (λ y. stays (name_of y)) xs))
      ≡ cond (stays name) (option_map slot_of (cond b (Some x) (find test xs))) None) [
        | true ↦ λ same.
            let kept : stays (name_of x) ≡ stays name = ap stays (sym ((bytes_eq-Decides name (name_of x)).0 same)) in
            ap (λ b. looked name (cond b (x ∷ filter (λ y. stays (name_of y)) xs) (filter (λ y. stays (name_of y)) xs)))
            kept
            ∙ elim (stays name) as (λ b. cond b (looked name xs) None ≡ looked name (filter (λ y. stays (name_of y)) xs)
            → looked name (cond b (x ∷ filter (λ y. stays (name_of y)) xs) (filter (λ y. stays (name_of y)) xs))
            ≡ cond b (Some (slot_of x)) None) [
              | true ↦ λ _.
                  ap (λ b. option_map slot_of (cond b (Some x) (find test (filter (λ y. stays (name_of y)) xs)))) same
              | false ↦ λ is. sym is
            ] (sym rest)
        | false ↦ λ other.
            elim (stays (name_of x)) as (λ b.
            looked name (cond b (x ∷ filter (λ y. stays (name_of y)) xs) (filter (λ y. stays (name_of y)) xs))
            ≡ looked name (filter (λ y. stays (name_of y)) xs)) [
              | true ↦ ap (λ b. option_map slot_of (cond b (Some x) (find test (filter (λ y. stays (name_of y)) xs))))
                  other
              | false ↦ refl
            ] ∙ rest
      ] refl

  -- the name of what is found is among the names
  pub looked-among : (name : List ℕ) (xs : List A) (slot : ℕ) → looked name xs ≡ Some slot →
      is_among name (map name_of xs) ≡ true
  looked-among name [] slot is = absurd (none-some slot is)
  looked-among name (x ∷ xs) slot is =
      elim (bytes_eq name (name_of x)) as (λ b.
      option_map slot_of (cond b (Some x) (find (λ y. bytes_eq name (name_of y)) xs)) ≡ Some slot →
      (b || is_among name (map name_of xs)) ≡ true) [
        | true ↦ λ _. refl
        | false ↦ λ there. looked-among name xs slot there
      ] is

  -- a name that is among the names is found
  pub among-looked : (name : List ℕ) (xs : List A) → is_among name (map name_of xs) ≡ true →
      (slot : ℕ) × (looked name xs ≡ Some slot)
  among-looked name [] among = absurd (true≢false (sym among))
  among-looked name (x ∷ xs) among =
      elim (bytes_eq name (name_of x)) as (λ b. (b || is_among name (map name_of xs)) ≡ true →
      (slot : ℕ) × (option_map slot_of (cond b (Some x) (find (λ y. bytes_eq name (name_of y)) xs)) ≡ Some slot)) [
        | true ↦ λ _. (slot_of x, refl)
        | false ↦ λ rest. among-looked name xs rest
      ] among
