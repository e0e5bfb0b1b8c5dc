-- The toggles of a line: where they lie, and what they are at a column.
use Rattle.segments.proofs.Common.{◌≡◌, ℕ, zero, suc, ◌+◌, ◌*◌, ◌/◌, ◌<◌, ◌≤◌, ◌≢◌, min, true, false, inl, inr, subst}
use Rattle.segments.proofs.Common.{◌==◌, List, [], ◌∷◌, ◌++◌, length, take, drop, get_or, refl, Bool, ltb, sym, ap, ap₂}
use Rattle.segments.proofs.Common.{◌∙◌, arith, if◌then◌else◌, All, IsNonDecreasingBy, cases_eq, nat_tests, drop_more}
use Rattle.segments.proofs.Common.{All-cons, All-nil, nat_cmp, Slots, word_index, differing, WORDS, contains-differing}
use Rattle.segments.proofs.Common.{differing-associative, either, union-associative, Toggled, HasOneWord, LieIn, RiseIn}
use Rattle.segments.proofs.Common.{any_of, odd_of, place_of, toggled_at, not, either-associative}
use Rattle.std.specs.Bool.{beq}
use Rattle.std.specs.FinSet as set

-- no entry stands below the first place
from_low : (from to : ℕ) (entries : List Toggled) (k : ℕ) (d : Toggled) → RiseIn from to entries → k < length entries →
    from ≤ place_of (get_or entries k d)
from_low from to [] k d rise within = absurd (omega arith)
from_low from to (entry ∷ entries) zero d rise within = rise.0
from_low from to (entry ∷ entries) (suc k) d rise within =
    omega (arith, rise.0, from_low (suc (place_of entry)) to entries k d rise.3 (omega (arith, within)))

pub places_rise : (from to : ℕ) (entries : List Toggled) → RiseIn from to entries → IsNonDecreasingBy place_of entries
places_rise from to [] rise i j d order within = absurd (omega arith)
places_rise from to (entry ∷ entries) rise zero zero d order within = omega arith
places_rise from to (entry ∷ entries) rise zero (suc j) d order within =
    omega (arith, from_low (suc (place_of entry)) to entries j d rise.3 (omega (arith, within)))
places_rise from to (entry ∷ entries) rise (suc i) zero d order within = absurd (omega (arith, order))
places_rise from to (entry ∷ entries) rise (suc i) (suc j) d order within =
    places_rise (suc (place_of entry)) to entries rise.3 i j d (omega (arith, order)) (omega (arith, within))

-- entries that all stand before a place, and entries that all stand behind it
pub before_point : (from to place : ℕ) (entries : List Toggled) (i : ℕ) → RiseIn from to entries → i ≤ length entries →
    ((k : ℕ) (d : Toggled) → k < i → place_of (get_or entries k d) < place) → RiseIn from place (take i entries)
before_point from to place entries zero rise within below = tt
before_point from to place [] (suc i) rise within below = tt
before_point from to place (entry ∷ entries) (suc i) rise within below = (
  rise.0,
  below 0 entry (omega arith),
  rise.2,
  before_point (suc (place_of entry)) to place entries i rise.3 (omega (arith, within))
      (λ k d less. below (suc k) d (omega (arith, less))),
)

pub behind_point : (from to place : ℕ) (entries : List Toggled) (i : ℕ) → RiseIn from to entries →
    ((k : ℕ) (d : Toggled) → i ≤ k → k < length entries → place ≤ place_of (get_or entries k d))
    → RiseIn place to (drop i entries)
behind_point from to place [] zero rise above = tt
behind_point from to place [] (suc i) rise above = tt
behind_point from to place (entry ∷ entries) zero rise above =
    (above 0 entry (omega arith) (omega arith), rise.1, rise.2, rise.3)
behind_point from to place (entry ∷ entries) (suc i) rise above =
    behind_point (suc (place_of entry)) to place entries i rise.3
    (λ k d order within. above (suc k) d (omega (arith, order)) (omega (arith, within)))

pub told : (answer : Bool) (a b : ℕ) → (answer ≡ true → a < b) → (answer ≡ false → b ≤ a) → answer ≡ ltb a b
told true a b less most = let is = less refl in grind (arith, nat_tests)
told false a b less most = let is = most refl in grind (arith, nat_tests)

-- the parity so far, and that of the rest
pub odd_more : (entries : List Toggled) (i : ℕ) (d : Toggled) (so_far whole : Slots) → i < length entries →
    differing so_far (odd_of (drop i entries)) ≡ whole →
    differing (differing so_far (get_or entries i d).slots) (odd_of (drop (i + 1) entries)) ≡ whole
odd_more entries i d so_far whole within is =
    differing-associative so_far (get_or entries i d).slots (odd_of (drop (i + 1) entries))
    ∙ ap (λ es. differing so_far (odd_of es)) (sym (drop_more entries i d within))
    ∙ is

-- whether flags differ
pub unequal : (a b : Bool) → not (beq a b) ≡ either a b
unequal true true = refl
unequal true false = refl
unequal false true = refl
unequal false false = refl

pub either-false : (a : Bool) → either a false ≡ a
either-false true = refl
either-false false = refl

-- the parity of one slot so far, and that of the rest
pub odd_slot-more : (entries : List Toggled) (i : ℕ) (d : Toggled) (slot : ℕ) (so_far whole : Bool) →
    i < length entries → either so_far (set.contains (odd_of (drop i entries)) slot) ≡ whole →
    either (either so_far (set.contains (get_or entries i d).slots slot))
    (set.contains (odd_of (drop (i + 1) entries)) slot) ≡ whole
odd_slot-more entries i d slot so_far whole within is =
    let here = (get_or entries i d).slots in let rest = odd_of (drop (i + 1) entries) in
    either-associative so_far (set.contains here slot) (set.contains rest slot)
    ∙ ap (either so_far) (sym (contains-differing here rest slot))
    ∙ ap (λ es. either so_far (set.contains (odd_of es) slot)) (sym (drop_more entries i d within))
    ∙ is

-- the presence so far, and that of the rest
pub any_more : (entries : List Toggled) (i : ℕ) (d : Toggled) (so_far whole : Slots) → i < length entries →
    set.union so_far (any_of (drop i entries)) ≡ whole →
    set.union (set.union so_far (get_or entries i d).slots) (any_of (drop (i + 1) entries)) ≡ whole
any_more entries i d so_far whole within is =
    union-associative so_far (get_or entries i d).slots (any_of (drop (i + 1) entries))
    ∙ ap (λ es. set.union so_far (any_of es)) (sym (drop_more entries i d within))
    ∙ is

-- what an entry says of its own column, and of the others
pub passed : (entry : Toggled) (entries : List Toggled) (at : ℕ) → entry.column ≢ at →
    toggled_at (entry ∷ entries) at ≡ toggled_at entries at
passed entry entries at other =
    let test : (entry.column == at) ≡ false = grind (arith, nat_tests) in
    ap (λ b. if b then differing entry.slots (toggled_at entries at) else toggled_at entries at) test

pub met : (entry : Toggled) (entries : List Toggled) (at : ℕ) → entry.column ≡ at →
    toggled_at (entry ∷ entries) at ≡ differing entry.slots (toggled_at entries at)
met entry entries at same =
    let test : (entry.column == at) ≡ true = grind (arith, nat_tests) in
    ap (λ b. if b then differing entry.slots (toggled_at entries at) else toggled_at entries at) test

-- nothing is toggled before the first entry, and behind the last one
pub none_below : (from to : ℕ) (entries : List Toggled) (at : ℕ) → RiseIn from to entries → WORDS * suc at ≤ from →
    toggled_at entries at ≡ set.empty
none_below from to [] at rise before = refl
none_below from to (entry ∷ entries) at rise before =
    passed entry entries at (omega (arith, rise.0, before, rise.2.within))
    ∙ none_below (suc (place_of entry)) to entries at rise.3 (omega (arith, rise.0, before))

pub none_before : (from to : ℕ) (entries : List Toggled) (at : ℕ) → LieIn from to entries → at < from →
    toggled_at entries at ≡ set.empty
none_before from to entries at lie before = none_below (WORDS * from) (WORDS * to) entries at lie (omega (arith, before))

pub none_above : (from to : ℕ) (entries : List Toggled) (at : ℕ) → RiseIn from to entries → to ≤ WORDS * at →
    toggled_at entries at ≡ set.empty
none_above from to [] at rise behind = refl
none_above from to (entry ∷ entries) at rise behind =
    passed entry entries at (omega (arith, rise.1, behind))
    ∙ none_above (suc (place_of entry)) to entries at rise.3 behind

pub front_alone : (front behind : List Toggled) (at : ℕ) → toggled_at behind at ≡ set.empty →
    toggled_at (front ++ behind) at ≡ toggled_at front at
front_alone [] behind at none = none
front_alone (entry ∷ front) behind at none =
    ap (λ s. if entry.column == at then differing entry.slots s else s) (front_alone front behind at none)

-- at a column no slot is toggled whose word is below the places of the entries, or at or above the last one's
pub apart_from : (entry : Toggled) (at q : ℕ) → HasOneWord entry → entry.column ≡ at → word_index entry.slots ≢ q / 64 →
    set.contains entry.slots q ≡ false
apart_from entry at q one here other =
    elim (set.contains entry.slots q) as (λ b. set.contains entry.slots q ≡ b → set.contains entry.slots q ≡ false) [
      | true ↦ λ has. absurd (other (sym (one.own q has)))
      | false ↦ λ hasn't. hasn't
    ] refl

-- a slot that neither an entry nor the others toggle
neither : (slots rest : Slots) (q : ℕ) → set.contains slots q ≡ false → set.contains rest q ≡ false →
    set.contains (differing slots rest) q ≡ false
neither slots rest q one other = contains-differing slots rest q ∙ ap₂ either one other

skipped : (entry : Toggled) (entries : List Toggled) (at q : ℕ) →
    (entry.column ≡ at → set.contains entry.slots q ≡ false) → set.contains (toggled_at entries at) q ≡ false →
    set.contains (toggled_at (entry ∷ entries) at) q ≡ false
skipped entry entries at q own rest =
    elim (cases_eq entry.column at) [
      | inl here ↦
          ap (λ s. set.contains s q) (met entry entries at here)
          ∙ neither entry.slots (toggled_at entries at) q (own here) rest
      | inr other ↦ ap (λ s. set.contains s q) (passed entry entries at other) ∙ rest
    ]

pub slot_below : (from to : ℕ) (entries : List Toggled) (at q : ℕ) → RiseIn from to entries →
    WORDS * at + q / 64 < from → set.contains (toggled_at entries at) q ≡ false
slot_below from to [] at q rise before = set.contains-empty nat_cmp q
slot_below from to (entry ∷ entries) at q rise before =
    skipped entry entries at q
    (λ here. apart_from entry at q rise.2 here (omega (arith, rise.0, before, here)))
    (slot_below (suc (place_of entry)) to entries at q rise.3 (omega (arith, rise.0, before)))

pub slot_above : (from to : ℕ) (entries : List Toggled) (at q : ℕ) → RiseIn from to entries →
    to ≤ WORDS * at + q / 64 → set.contains (toggled_at entries at) q ≡ false
slot_above from to [] at q rise behind = set.contains-empty nat_cmp q
slot_above from to (entry ∷ entries) at q rise behind =
    skipped entry entries at q
    (λ here. apart_from entry at q rise.2 here (omega (arith, rise.1, behind, here)))
    (slot_above (suc (place_of entry)) to entries at q rise.3 behind)

-- what an entry toggles no other entry toggles at its column
pub own_slot : (to : ℕ) (entry : Toggled) (entries : List Toggled) (q : ℕ) → HasOneWord entry →
    RiseIn (suc (place_of entry)) to entries → set.contains entry.slots q ≡ true →
    set.contains (toggled_at entries entry.column) q ≡ false
own_slot to entry entries q one rise has =
    slot_below (suc (place_of entry)) to entries entry.column q rise (omega (arith, one.own q has))

pub RiseIn-both : (from first second : ℕ) (entries : List Toggled) → RiseIn from first entries →
    RiseIn from second entries → RiseIn from (min first second) entries
RiseIn-both from first second [] rise also = tt
RiseIn-both from first second (entry ∷ entries) rise also = (
  rise.0,
  omega (arith, rise.1, also.1),
  rise.2,
  RiseIn-both (suc (place_of entry)) first second entries rise.3 also.3,
)

pub LieIn-both : (from first second : ℕ) (entries : List Toggled) → LieIn from first entries →
    LieIn from second entries → LieIn from (min first second) entries
LieIn-both from first second entries lie also =
    let least : min (WORDS * first) (WORDS * second) ≡ WORDS * min first second = omega arith in
    subst (λ n. RiseIn (WORDS * from) n entries) least
    (RiseIn-both (WORDS * from) (WORDS * first) (WORDS * second) entries lie also)

pub RiseIn-take : (from to n : ℕ) (entries : List Toggled) → RiseIn from to entries → RiseIn from to (take n entries)
RiseIn-take from to zero entries rise = tt
RiseIn-take from to (suc n) [] rise = tt
RiseIn-take from to (suc n) (entry ∷ entries) rise =
    (rise.0, rise.1, rise.2, RiseIn-take (suc (place_of entry)) to n entries rise.3)

-- within wider bounds
pub RiseIn-wide : (from middle to : ℕ) (entries : List Toggled) → RiseIn from middle entries → middle ≤ to →
    RiseIn from to entries
RiseIn-wide from middle to [] rise wide = tt
RiseIn-wide from middle to (entry ∷ entries) rise wide =
    (rise.0, omega (arith, rise.1), rise.2, RiseIn-wide (suc (place_of entry)) middle to entries rise.3 wide)

pub RiseIn-low : (low from to : ℕ) (entries : List Toggled) → RiseIn low to entries → from ≤ low → RiseIn from to entries
RiseIn-low low from to [] rise near = tt
RiseIn-low low from to (entry ∷ entries) rise near = (omega (arith, rise.0), rise.1, rise.2, rise.3)

-- a higher bound, and a lower one where no entry has the first column
pub RiseIn-high : (from to high : ℕ) (entries : List Toggled) → RiseIn from to entries → to ≤ high →
    RiseIn from high entries
RiseIn-high from to high [] rise near = tt
RiseIn-high from to high (entry ∷ entries) rise near = (
  rise.0,
  omega (arith, rise.1),
  rise.2,
  RiseIn-high (suc (place_of entry)) to high entries rise.3 near,
)

pub LieIn-next : (column to n : ℕ) (entries : List Toggled) (d : Toggled) → LieIn column to (drop n entries) →
    (n < length entries → (get_or entries n d).column ≢ column) → LieIn (column + 1) to (drop n entries)
LieIn-next column to zero [] d lie other = tt
LieIn-next column to (suc n) [] d lie other = tt
LieIn-next column to zero (entry ∷ entries) d lie other =
    let apart = other (omega arith) in
    (omega (arith, lie.0, lie.2.within, apart), lie.1, lie.2, lie.3)
LieIn-next column to (suc n) (entry ∷ entries) d lie other =
    LieIn-next column to n entries d lie (λ within. other (omega (arith, within)))

pub all_words : (from to : ℕ) (entries : List Toggled) → RiseIn from to entries → All HasOneWord entries
all_words from to [] rise = All-nil HasOneWord
all_words from to (entry ∷ entries) rise =
    All-cons HasOneWord entry entries rise.2 (all_words (suc (place_of entry)) to entries rise.3)
