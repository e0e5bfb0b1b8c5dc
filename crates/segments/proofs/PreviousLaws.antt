-- The last column with a toggle of a slot among the entries of a line.
use Rattle.segments.proofs.Common.{◌≡◌, ℕ, zero, suc, ◌*◌, ◌<◌, ◌≤◌, true, false, ◌&&◌, nat_lt, Option, Some, None}
use Rattle.segments.proofs.Common.{List, [], ◌∷◌, ◌++◌, length, take, drop, get_or, refl, sym, ap, ◌∙◌, arith}
use Rattle.segments.proofs.Common.{take-append-drop, if◌then◌else◌, nat_tests, Toggled, WORDS, LieIn, RiseIn, later_of}
use Rattle.segments.proofs.Common.{place_of, previous_entry}
use Rattle.std.specs.FinSet as set

abbrev pub own : ℕ → ℕ → Toggled → Option ℕ
own slot column entry = if nat_lt entry.column column && set.contains entry.slots slot then Some entry.column else None

own_none : (slot column : ℕ) (entry : Toggled) → (nat_lt entry.column column && set.contains entry.slots slot) ≡ false →
    own slot column entry ≡ None
own_none slot column entry test = ap (λ b. if b then Some entry.column else None) test

pub behind_none : (slot column from to : ℕ) (entries : List Toggled) → RiseIn from to entries → WORDS * column ≤ from →
    previous_entry slot column entries ≡ None
behind_none slot column from to [] rise far = refl
behind_none slot column from to (entry ∷ entries) rise far =
    let above : column ≤ entry.column = omega (arith, rise.0, far, rise.2.within) in
    let test : (nat_lt entry.column column && set.contains entry.slots slot) ≡ false = grind (arith, nat_tests, above) in
    ap (later_of (own slot column entry)) (behind_none slot column (suc (place_of entry)) to entries rise.3
    (omega (arith, rise.0, far))) ∙ own_none slot column entry test

front_only : (slot column : ℕ) (front behind : List Toggled) → previous_entry slot column behind ≡ None →
    previous_entry slot column (front ++ behind) ≡ previous_entry slot column front
front_only slot column [] behind none = none
front_only slot column (entry ∷ front) behind none =
    ap (later_of (own slot column entry)) (front_only slot column front behind none)

-- the entries from the column on say nothing
pub previous_front : (slot column to count : ℕ) (entries : List Toggled) → LieIn column to (drop count entries) →
    previous_entry slot column entries ≡ previous_entry slot column (take count entries)
previous_front slot column to count entries lie =
    ap (previous_entry slot column) (sym (take-append-drop count entries))
    ∙ front_only slot column (take count entries) (drop count entries)
    (behind_none slot column (WORDS * column) (WORDS * to) (drop count entries) lie (omega arith))

-- the last entry with the slot, and one without it
pub previous_last : (slot column from i : ℕ) (entries : List Toggled) (d e : Toggled) →
    RiseIn from (WORDS * column) (take (suc i) entries) → i < length entries →
    set.contains (get_or entries i e).slots slot ≡ true →
    previous_entry slot column (take (suc i) entries) ≡ Some (get_or entries i d).column
previous_last slot column from i [] d e rise within has = absurd (omega arith)
previous_last slot column from zero (entry ∷ entries) d e rise within has =
    let below : entry.column < column = omega (arith, rise.1) in
    let test : (nat_lt entry.column column && set.contains entry.slots slot)
    ≡ true = grind (arith, nat_tests, below, has) in
    ap (λ b. if b then Some entry.column else None) test
previous_last slot column from (suc i) (entry ∷ entries) d e rise within has =
    ap (later_of (own slot column entry)) (previous_last slot column (suc (place_of entry)) i entries d e rise.3
    (omega arith) has)

pub previous_less : (slot column i : ℕ) (entries : List Toggled) (d : Toggled) → i < length entries →
    set.contains (get_or entries i d).slots slot ≡ false →
    previous_entry slot column (take (suc i) entries) ≡ previous_entry slot column (take i entries)
previous_less slot column i [] d within has = absurd (omega arith)
previous_less slot column zero (entry ∷ entries) d within has =
    let test : (nat_lt entry.column column && set.contains entry.slots slot) ≡ false = grind (arith, nat_tests, has) in
    own_none slot column entry test
previous_less slot column (suc i) (entry ∷ entries) d within has =
    ap (later_of (own slot column entry)) (previous_less slot column i entries d (omega arith) has)

pub RiseIn-less : (from to i : ℕ) (entries : List Toggled) → RiseIn from to (take (suc i) entries) →
    RiseIn from to (take i entries)
RiseIn-less from to zero entries rise = tt
RiseIn-less from to (suc i) [] rise = tt
RiseIn-less from to (suc i) (entry ∷ entries) rise =
    (rise.0, rise.1, rise.2, RiseIn-less (suc (place_of entry)) to i entries rise.3)
