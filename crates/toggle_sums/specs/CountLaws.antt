-- Counts add up in any grouping and order, and to nothing more with nothing.
use Rattle.std.proofs.Common.{◌≡◌, ℕ, ◌+◌, Bool, true, false, not, ◌&&◌, ◌||◌, refl, sym, ap, ap₂, ◌∙◌, arith}
use Rattle.std.specs.Cmp.{nat_cmp_total}
use Rattle.std.specs.FinSet as set
use Rattle.std.specs.Ordering.{nat_cmp}
use Rattle.text_model.specs.Content.{Slots}
use Rattle.text_model.specs.SlotSets.{differing}
use Rattle.toggle_sums.specs.Counts.{Count, no_text, plus}

-- whether one of two holds and the other doesn't
abbrev pub either : Bool → Bool → Bool
either a b = (a && not b) || (b && not a)

pub contains-differing : (s t : Slots) (q : ℕ) → set.contains (differing s t) q
    ≡ either (set.contains s q) (set.contains t q)
contains-differing s t q =
    set.contains-union nat_cmp_total (set.difference s t) (set.difference t s) q
    ∙ ap₂ (λ a b. a || b) (set.contains-difference nat_cmp_total s t q) (set.contains-difference nat_cmp_total t s q)

pub same_slots : (s t : Slots) → ((q : ℕ) → set.contains s q ≡ set.contains t q) → s ≡ t
same_slots = set.same_set nat_cmp_total set.nat_cmp-IsAntisymmetric

pub either-associative : (a b c : Bool) → either (either a b) c ≡ either a (either b c)
either-associative true true true = refl
either-associative true true false = refl
either-associative true false true = refl
either-associative true false false = refl
either-associative false true true = refl
either-associative false true false = refl
either-associative false false true = refl
either-associative false false false = refl

either-false : (a : Bool) → either a false ≡ a
either-false true = refl
either-false false = refl

either-commutative : (a b : Bool) → either a b ≡ either b a
either-commutative true true = refl
either-commutative true false = refl
either-commutative false true = refl
either-commutative false false = refl

either-self : (a : Bool) → either a a ≡ false
either-self true = refl
either-self false = refl

or-associative : (a b c : Bool) → ((a || b) || c) ≡ (a || (b || c))
or-associative true b c = refl
or-associative false b c = refl

or-commutative : (a b : Bool) → (a || b) ≡ (b || a)
or-commutative true true = refl
or-commutative true false = refl
or-commutative false true = refl
or-commutative false false = refl

or-false : (a : Bool) → (a || false) ≡ a
or-false true = refl
or-false false = refl

or-self : (a : Bool) → (a || a) ≡ a
or-self true = refl
or-self false = refl

pub differing-associative : (r s t : Slots) → differing (differing r s) t ≡ differing r (differing s t)
differing-associative r s t =
    same_slots _ _ (λ q.
    contains-differing (differing r s) t q
    ∙ ap (λ a. either a (set.contains t q)) (contains-differing r s q)
    ∙ either-associative (set.contains r q) (set.contains s q) (set.contains t q)
    ∙ sym (contains-differing r (differing s t) q ∙ ap (λ a. either (set.contains r q) a) (contains-differing s t q)))

pub differing-commutative : (s t : Slots) → differing s t ≡ differing t s
differing-commutative s t =
    same_slots _ _ (λ q. contains-differing s t q ∙ either-commutative (set.contains s q) (set.contains t q)
    ∙ sym (contains-differing t s q))

pub differing-empty : (s : Slots) → differing s set.empty ≡ s
differing-empty s =
    same_slots _ _ (λ q. contains-differing s set.empty q
    ∙ ap (λ a. either (set.contains s q) a) (set.contains-empty nat_cmp q) ∙ either-false (set.contains s q))

pub empty-differing : (s : Slots) → differing set.empty s ≡ s
empty-differing s = differing-commutative set.empty s ∙ differing-empty s

pub differing-self : (s : Slots) → differing s s ≡ set.empty
differing-self s = same_slots _ _ (λ q. contains-differing s s q ∙ either-self (set.contains s q)
    ∙ sym (set.contains-empty nat_cmp q))

pub union-associative : (r s t : Slots) → set.union (set.union r s) t ≡ set.union r (set.union s t)
union-associative r s t =
    same_slots _ _ (λ q.
    set.contains-union nat_cmp_total (set.union r s) t q
    ∙ ap (λ a. a || set.contains t q) (set.contains-union nat_cmp_total r s q)
    ∙ or-associative (set.contains r q) (set.contains s q) (set.contains t q)
    ∙ sym (set.contains-union nat_cmp_total r (set.union s t) q
    ∙ ap (λ a. set.contains r q || a) (set.contains-union nat_cmp_total s t q)))

pub union-commutative : (s t : Slots) → set.union s t ≡ set.union t s
union-commutative s t =
    same_slots _ _ (λ q. set.contains-union nat_cmp_total s t q ∙ or-commutative (set.contains s q) (set.contains t q)
    ∙ sym (set.contains-union nat_cmp_total t s q))

pub union-empty : (s : Slots) → set.union s set.empty ≡ s
union-empty s =
    same_slots _ _ (λ q. set.contains-union nat_cmp_total s set.empty q
    ∙ ap (λ a. set.contains s q || a) (set.contains-empty nat_cmp q) ∙ or-false (set.contains s q))

pub empty-union : (s : Slots) → set.union set.empty s ≡ s
empty-union s = union-commutative set.empty s ∙ union-empty s

pub union-self : (s : Slots) → set.union s s ≡ s
union-self s = same_slots _ _ (λ q. set.contains-union nat_cmp_total s s q ∙ or-self (set.contains s q))

add_groups : (a b c : ℕ) → (a + b) + c ≡ a + (b + c)
add_groups a b c = omega arith

add_swaps : (a b : ℕ) → a + b ≡ b + a
add_swaps a b = omega arith

add_none : (a : ℕ) → a + 0 ≡ a
add_none a = omega arith

pub plus-associative : (first second third : Count) → plus (plus first second) third ≡ plus first (plus second third)
plus-associative first second third = λ i. record {
  lines = add_groups first.lines second.lines third.lines i;
  characters = add_groups first.characters second.characters third.characters i;
  marks = add_groups first.marks second.marks third.marks i;
  parity = differing-associative first.parity second.parity third.parity i;
  presence = union-associative first.presence second.presence third.presence i;
}

pub plus-commutative : (first second : Count) → plus first second ≡ plus second first
plus-commutative first second = λ i. record {
  lines = add_swaps first.lines second.lines i;
  characters = add_swaps first.characters second.characters i;
  marks = add_swaps first.marks second.marks i;
  parity = differing-commutative first.parity second.parity i;
  presence = union-commutative first.presence second.presence i;
}

pub plus-no_text : (count : Count) → plus count no_text ≡ count
plus-no_text count = λ i. record {
  lines = add_none count.lines i;
  characters = add_none count.characters i;
  marks = add_none count.marks i;
  parity = differing-empty count.parity i;
  presence = union-empty count.presence i;
}

pub no_text-plus : (count : Count) → plus no_text count ≡ count
no_text-plus count = plus-commutative no_text count ∙ plus-no_text count
