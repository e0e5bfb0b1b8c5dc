-- The next and the last column with a toggle of a slot, by the entries and by the columns.
use Rattle.segments.proofs.Common.{◌≡◌, ℕ, zero, suc, ◌+◌, ◌-◌, ◌*◌, ◌<◌, ◌≤◌, Bool, true, false, cond, not, ◌&&◌}
use Rattle.segments.proofs.Common.{nat_lt, Option, Some, None, List, [], ◌∷◌, length, get_or, take, drop, inl, inr}
use Rattle.segments.proofs.Common.{refl, sym, ap, ap₂, subst, ◌∙◌, arith, length-drop, IfSome, if◌then◌else◌}
use Rattle.segments.proofs.Common.{option_map, cases_order, false≢true, nat_tests, suffix_len-take_no}
use Rattle.segments.proofs.Common.{suffix_len-take_yes, position, prefix_len, nat_cmp, WORDS, contains-differing}
use Rattle.segments.proofs.Common.{either, Toggled, Column, free_behind, next_toggle, previous_toggle, LieIn, RiseIn}
use Rattle.segments.proofs.Common.{later_of, next_entry, place_of, previous_entry, toggled_at, columns_from, nat_le}
use Rattle.segments.proofs.ColumnLaws.{drop-columns, length-columns}
use Rattle.segments.proofs.EntryLaws.{met, none_below, own_slot, passed}
use Rattle.segments.proofs.PreviousLaws.{behind_none, own}
use Rattle.std.specs.FinSet as finset

none_has : (slot from to at : ℕ) (entries : List Toggled) → RiseIn from to entries → WORDS * suc at ≤ from →
    finset.contains (toggled_at entries at) slot ≡ false
none_has slot from to at entries rise before =
    ap (λ s. finset.contains s slot) (none_below from to entries at rise before) ∙ finset.contains-empty nat_cmp slot

-- whether a slot is toggled at the column of an entry, where that has it and where it hasn't
not_both : (a b : Bool) → either a b ≡ false → a ≡ true → b ≡ true
not_both true true is one = refl
not_both true false is one = absurd (false≢true (sym is))
not_both false b is one = absurd (false≢true one)

the_other : (a b : Bool) → a ≡ false → b ≡ either a b
the_other true b none = absurd (false≢true (sym none))
the_other false true none = refl
the_other false false none = refl

has_at : (slot at : ℕ) (entry : Toggled) (entries : List Toggled) → entry.column ≡ at →
    finset.contains (toggled_at (entry ∷ entries) at) slot
    ≡ either (finset.contains entry.slots slot) (finset.contains (toggled_at entries at) slot)
has_at slot at entry entries here =
    ap (λ s. finset.contains s slot) (met entry entries at here)
    ∙ contains-differing entry.slots (toggled_at entries at) slot

-- an entry has no slot that isn't toggled at its column
hasn't_at : (slot at low high : ℕ) (entry : Toggled) (entries : List Toggled) → RiseIn low high (entry ∷ entries) →
    entry.column ≡ at → finset.contains (toggled_at (entry ∷ entries) at) slot ≡ false →
    finset.contains entry.slots slot ≡ false
hasn't_at slot at low high entry entries rise here hasn't =
    elim (finset.contains entry.slots slot) as (λ b. finset.contains entry.slots slot ≡ b →
    finset.contains entry.slots slot ≡ false) [
      | true ↦ λ has. absurd (false≢true
          (sym (ap (λ n. finset.contains (toggled_at entries n) slot) (sym here)
          ∙ own_slot high entry entries slot rise.2 rise.3 has)
          ∙ not_both (finset.contains entry.slots slot) (finset.contains (toggled_at entries at) slot)
          (sym (has_at slot at entry entries here) ∙ hasn't) has))
      | false ↦ λ none. none
    ] refl

rest_hasn't : (slot at : ℕ) (entry : Toggled) (entries : List Toggled) → entry.column ≡ at →
    finset.contains entry.slots slot ≡ false →
    finset.contains (toggled_at entries at) slot ≡ finset.contains (toggled_at (entry ∷ entries) at) slot
rest_hasn't slot at entry entries here none =
    the_other (finset.contains entry.slots slot) (finset.contains (toggled_at entries at) slot) none
    ∙ sym (has_at slot at entry entries here)

-- entries that begin further on
raised : (from low high : ℕ) (entry : Toggled) (entries : List Toggled) → RiseIn low high (entry ∷ entries) →
    from ≤ place_of entry → RiseIn from high (entry ∷ entries)
raised from low high entry entries rise above = (above, rise.1, rise.2, rise.3)

-- the next entry's column
next_low : (slot first second low high : ℕ) (entries : List Toggled) → RiseIn low high entries → WORDS * first ≤ low →
    WORDS * second ≤ low → next_entry slot first entries ≡ next_entry slot second entries
next_low slot first second low high [] rise one two = refl
next_low slot first second low high (entry ∷ entries) rise one two =
    let above : first ≤ entry.column = omega (arith, rise.0, one, rise.2.within) in
    let above_too : second ≤ entry.column = omega (arith, rise.0, two, rise.2.within) in
    let tests : nat_le first entry.column ≡ nat_le second entry.column = grind (arith, nat_tests, above, above_too) in
    ap₂ (λ b rest. if b && finset.contains entry.slots slot then Some entry.column
    else rest) tests (next_low slot first second (suc (place_of entry)) high entries rise.3 (omega (arith, rise.0, one))
    (omega (arith, rise.0, two)))

next_none : (slot at low : ℕ) (entries : List Toggled) → RiseIn low (WORDS * at) entries →
    next_entry slot at entries ≡ None
next_none slot at low [] rise = refl
next_none slot at low (entry ∷ entries) rise =
    let below : entry.column < at = omega (arith, rise.1) in
    let test : nat_le at entry.column ≡ false = grind (arith, nat_tests, below) in
    ap (λ b. if b && finset.contains entry.slots slot then Some entry.column else next_entry slot at entries) test
    ∙ next_none slot at (suc (place_of entry)) entries rise.3

found : (slot at : ℕ) (entry : Toggled) (rest : Option ℕ) → entry.column ≡ at →
    (finset.contains entry.slots slot ≡ false → rest ≡ Some at) →
    (if finset.contains entry.slots slot then Some entry.column else rest) ≡ Some at
found slot at entry rest here other =
    elim (finset.contains entry.slots slot) as (λ b. finset.contains entry.slots slot ≡ b →
    (if b then Some entry.column else rest) ≡ Some at) [
      | true ↦ λ has. ap (λ n. Some n) here
      | false ↦ λ hasn't. other hasn't
    ] refl

next_here : (slot at low high : ℕ) (entries : List Toggled) → RiseIn low high entries →
    finset.contains (toggled_at entries at) slot ≡ true → next_entry slot at entries ≡ Some at
next_here slot at low high [] rise has = absurd (false≢true (sym (finset.contains-empty nat_cmp slot) ∙ has))
next_here slot at low high (entry ∷ entries) rise has =
    elim (cases_order entry.column at) [
      | inl here ↦
          let test : nat_le at entry.column ≡ true = grind (arith, nat_tests, here) in
          ap (λ a. if a && finset.contains entry.slots slot then Some entry.column else next_entry slot at entries) test
          ∙ found slot at entry (next_entry slot at entries) here (λ none.
          next_here slot at (suc (place_of entry)) high entries rise.3
          (rest_hasn't slot at entry entries here none ∙ has))
      | inr other ↦ elim other [
        | inl before ↦
            let test : nat_le at entry.column ≡ false = grind (arith, nat_tests, before) in
            ap (λ b. if b && finset.contains entry.slots slot then Some entry.column
            else next_entry slot at entries) test
            ∙ next_here slot at (suc (place_of entry)) high entries rise.3
            (ap (λ s. finset.contains s slot) (sym (passed entry entries at (omega (arith, before)))) ∙ has)
        | inr behind ↦ absurd
            (false≢true (sym (none_has slot (WORDS * suc at) high at (entry ∷ entries)
            (raised (WORDS * suc at) low high entry entries rise (omega (arith, behind))) (omega arith))
            ∙ has))
      ]
    ]

next_skip : (slot at low high : ℕ) (entries : List Toggled) → RiseIn low high entries →
    finset.contains (toggled_at entries at) slot ≡ false → next_entry slot at entries ≡ next_entry slot (suc at) entries
next_skip slot at low high [] rise hasn't = refl
next_skip slot at low high (entry ∷ entries) rise hasn't =
    elim (cases_order entry.column at) [
      | inl here ↦
          let one : nat_le at entry.column ≡ true = grind (arith, nat_tests, here) in
          let two : nat_le (suc at) entry.column ≡ false = grind (arith, nat_tests, here) in
          let none = hasn't_at slot at low high entry entries rise here hasn't in
          ap₂ (λ a b. if a && b then Some entry.column else next_entry slot at entries) one none
          ∙ next_skip slot at (suc (place_of entry)) high entries rise.3
          (rest_hasn't slot at entry entries here none ∙ hasn't)
          ∙ ap (λ b. if b && finset.contains entry.slots slot then Some entry.column
          else next_entry slot (suc at) entries) (sym two)
      | inr other ↦ elim other [
        | inl before ↦
            let one : nat_le at entry.column ≡ false = grind (arith, nat_tests, before) in
            let two : nat_le (suc at) entry.column ≡ false = grind (arith, nat_tests, before) in
            ap (λ b. if b && finset.contains entry.slots slot then Some entry.column
            else next_entry slot at entries) one
            ∙ next_skip slot at (suc (place_of entry)) high entries rise.3
            (ap (λ s. finset.contains s slot) (sym (passed entry entries at (omega (arith, before)))) ∙ hasn't)
            ∙ ap (λ b. if b && finset.contains entry.slots slot then Some entry.column
            else next_entry slot (suc at) entries) (sym two)
        | inr behind ↦ next_low slot at (suc at) (WORDS * suc at) high (entry ∷ entries)
            (raised (WORDS * suc at) low high entry entries rise (omega (arith, behind))) (omega arith) (omega arith)
      ]
    ]

-- the first place in a list, one element on
place_here : (p : Column → Bool) (x : Column) (xs : List Column) → p x ≡ true → position p (x ∷ xs) ≡ Some 0
place_here p x xs is =
    let k = prefix_len (λ y. not (p y)) xs in
    let test : nat_lt 0 (suc (length xs)) ≡ true = grind (arith, nat_tests) in
    ap (λ b. cond (nat_lt (cond (not b) (1 + k) 0) (suc (length xs))) (Some (cond (not b) (1 + k) 0)) None) is
    ∙ ap (λ t. cond t (Some 0) None) test

one_on : (test : Bool) (k : ℕ) → cond test (Some (1 + k)) None ≡ option_map (λ n. 1 + n) (cond test (Some k) None)
one_on true k = refl
one_on false k = refl

place_skip : (p : Column → Bool) (x : Column) (xs : List Column) → p x ≡ false →
    position p (x ∷ xs) ≡ option_map (λ n. 1 + n) (position p xs)
place_skip p x xs is =
    let k = prefix_len (λ y. not (p y)) xs in
    let test : nat_lt (1 + k) (suc (length xs)) ≡ nat_lt k (length xs) = grind (arith, nat_tests) in
    ap (λ b. cond (nat_lt (cond (not b) (1 + k) 0) (suc (length xs))) (Some (cond (not b) (1 + k) 0)) None) is
    ∙ ap (λ t. cond t (Some (1 + k)) None) test
    ∙ one_on (nat_lt k (length xs)) k

both_on : (at : ℕ) (place : Option ℕ) → option_map (λ n. suc at + n) place
    ≡ option_map (λ n. at + n) (option_map (λ n. 1 + n) place)
both_on at None = refl
both_on at (Some n) =
    let same : suc at + n ≡ at + (1 + n) = omega arith in
    ap (λ m. Some m) same

next_place : (slot at low high : ℕ) (text : List ℕ) (entries : List Toggled) → LieIn low high entries →
    high ≡ at + length text → next_entry slot at entries
    ≡ option_map (λ n. at + n) (position (λ (column : Column). finset.contains column.toggled slot)
    (columns_from at text entries))
next_place slot at low high [] entries lie is =
    let end : high ≡ at = omega (arith, is) in
    next_none slot at (WORDS * low) entries (subst (λ n. LieIn low n entries) end lie)
next_place slot at low high (character ∷ text) entries lie is =
    let p = λ (column : Column). finset.contains column.toggled slot in
    let x : Column = record { character = character; toggled = toggled_at entries at } in
    let rest = columns_from (suc at) text entries in
    elim (finset.contains (toggled_at entries at) slot) as (λ b. finset.contains (toggled_at entries at) slot ≡ b →
    next_entry slot at entries ≡ option_map (λ n. at + n) (position p (x ∷ rest))) [
      | true ↦ λ has.
          let here : at ≡ at + 0 = omega arith in
          next_here slot at (WORDS * low) (WORDS * high) entries lie has ∙ ap (λ n. Some n) here
          ∙ ap (option_map (λ n. at + n)) (sym (place_here p x rest has))
      | false ↦ λ hasn't.
          next_skip slot at (WORDS * low) (WORDS * high) entries lie hasn't
          ∙ next_place slot (suc at) low high text entries lie (omega (arith, is))
          ∙ both_on at (position p rest)
          ∙ ap (option_map (λ n. at + n)) (sym (place_skip p x rest hasn't))
    ] refl

pub next_column : (slot at : ℕ) (text : List ℕ) (entries : List Toggled) → LieIn 0 (length text) entries →
    at ≤ length text → next_entry slot at entries ≡ next_toggle slot at (columns_from 0 text entries)
next_column slot at text entries lie within =
    let from : at ≡ 0 + at = omega arith in
    next_place slot at 0 (length text) (drop at text) entries lie (omega (arith, length-drop at text))
    ∙ ap (λ columns. option_map (λ n. at + n)
    (position (λ (column : Column). finset.contains column.toggled slot) columns))
    (ap (λ n. columns_from n (drop at text) entries) from ∙ sym (drop-columns at 0 text entries))

-- the entries before the column say nothing
pub next_behind : (slot at from count : ℕ) (entries : List Toggled) → RiseIn from (WORDS * at) (take count entries) →
    next_entry slot at (drop count entries) ≡ next_entry slot at entries
next_behind slot at from zero entries rise = refl
next_behind slot at from (suc count) [] rise = refl
next_behind slot at from (suc count) (entry ∷ entries) rise =
    let below : entry.column < at = omega (arith, rise.1) in
    let test : (nat_le at entry.column && finset.contains entry.slots slot) ≡ false = grind (arith, nat_tests, below) in
    next_behind slot at (suc (place_of entry)) count entries rise.3
    ∙ sym (ap (λ b. if b then Some entry.column else next_entry slot at entries) test)

pub next_above : (slot at : ℕ) (entries : List Toggled) → IfSome (next_entry slot at entries) (λ next. at ≤ next)
next_above slot at [] = tt
next_above slot at (entry ∷ entries) =
    let has = finset.contains entry.slots slot in
    elim (nat_le at entry.column && has) as (λ b. (nat_le at entry.column && has) ≡ b →
    IfSome (if b then Some entry.column else next_entry slot at entries) (λ next. at ≤ next)) [
      | true ↦ λ is. grind (arith, nat_tests, is)
      | false ↦ λ isn't. next_above slot at entries
    ] refl

pub next_below : (slot at low high : ℕ) (entries : List Toggled) → RiseIn low (WORDS * high) entries →
    IfSome (next_entry slot at entries) (λ next. next < high)
next_below slot at low high [] rise = tt
next_below slot at low high (entry ∷ entries) rise =
    elim (nat_le at entry.column && finset.contains entry.slots slot) as (λ b.
    IfSome (if b then Some entry.column else next_entry slot at entries) (λ next. next < high)) [
      | true ↦ omega (arith, rise.1)
      | false ↦ next_below slot at (suc (place_of entry)) high entries rise.3
    ]

-- the last entry's column below another
own_none : (slot at : ℕ) (entry : Toggled) (test : Bool) → finset.contains entry.slots slot ≡ false →
    ◌≡◌ {A = Option ℕ} (if test && finset.contains entry.slots slot then Some entry.column else None) None
own_none slot at entry true none = ap (λ b. if b then Some entry.column else None) none
own_none slot at entry false none = refl

previous_skip : (slot at low high : ℕ) (entries : List Toggled) → RiseIn low high entries →
    finset.contains (toggled_at entries at) slot ≡ false →
    previous_entry slot (suc at) entries ≡ previous_entry slot at entries
previous_skip slot at low high [] rise hasn't = refl
previous_skip slot at low high (entry ∷ entries) rise hasn't =
    elim (cases_order entry.column at) [
      | inl here ↦
          let none = hasn't_at slot at low high entry entries rise here hasn't in
          ap₂ later_of
          (own_none slot at entry (nat_lt entry.column (suc at)) none
          ∙ sym (own_none slot at entry (nat_lt entry.column at) none))
          (previous_skip slot at (suc (place_of entry)) high entries rise.3
          (rest_hasn't slot at entry entries here none ∙ hasn't))
      | inr other ↦ elim other [
        | inl before ↦
            let tests : nat_lt entry.column (suc at) ≡ nat_lt entry.column at = grind (arith, nat_tests, before) in
            ap₂ (λ b rest. later_of (if b && finset.contains entry.slots slot then Some entry.column else None) rest)
            tests
            (previous_skip slot at (suc (place_of entry)) high entries rise.3
            (ap (λ s. finset.contains s slot) (sym (passed entry entries at (omega (arith, before)))) ∙ hasn't))
        | inr behind ↦
            let rising = raised (WORDS * suc at) low high entry entries rise (omega (arith, behind)) in
            behind_none slot (suc at) (WORDS * suc at) high (entry ∷ entries) rising (omega arith)
            ∙ sym (behind_none slot at (WORDS * suc at) high (entry ∷ entries) rising (omega arith))
      ]
    ]

last_here : (slot at : ℕ) (entry : Toggled) (rest : Option ℕ) → entry.column ≡ at →
    (finset.contains entry.slots slot ≡ false → rest ≡ Some at) →
    (finset.contains entry.slots slot ≡ true → rest ≡ None) →
    later_of (if finset.contains entry.slots slot then Some entry.column else None) rest ≡ Some at
last_here slot at entry rest here other own =
    elim (finset.contains entry.slots slot) as (λ b. finset.contains entry.slots slot ≡ b →
    later_of (if b then Some entry.column else None) rest ≡ Some at) [
      | true ↦ λ has. ap (later_of (Some entry.column)) (own has) ∙ ap (λ n. Some n) here
      | false ↦ λ hasn't. ap (later_of None) (other hasn't)
    ] refl

previous_here : (slot at low high : ℕ) (entries : List Toggled) → RiseIn low high entries →
    finset.contains (toggled_at entries at) slot ≡ true → previous_entry slot (suc at) entries ≡ Some at
previous_here slot at low high [] rise has = absurd (false≢true (sym (finset.contains-empty nat_cmp slot) ∙ has))
previous_here slot at low high (entry ∷ entries) rise has =
    elim (cases_order entry.column at) [
      | inl here ↦
          let test : nat_lt entry.column (suc at) ≡ true = grind (arith, nat_tests, here) in
          let rest = previous_entry slot (suc at) entries in
          ap (λ a. later_of (if a && finset.contains entry.slots slot then Some entry.column else None) rest) test
          ∙ last_here slot at entry rest here
          (λ none. previous_here slot at (suc (place_of entry)) high entries rise.3
          (rest_hasn't slot at entry entries here none ∙ has))
          (λ own. previous_skip slot at (suc (place_of entry)) high entries rise.3
          (ap (λ n. finset.contains (toggled_at entries n) slot) (sym here)
          ∙ own_slot high entry entries slot rise.2 rise.3 own)
          ∙ behind_none slot at (suc (place_of entry)) high entries rise.3 (omega (arith, here)))
      | inr other ↦ elim other [
        | inl before ↦
            ap (later_of (own slot (suc at) entry))
            (previous_here slot at (suc (place_of entry)) high entries rise.3
            (ap (λ s. finset.contains s slot) (sym (passed entry entries at (omega (arith, before)))) ∙ has))
        | inr behind ↦ absurd
            (false≢true (sym (none_has slot (WORDS * suc at) high at (entry ∷ entries)
            (raised (WORDS * suc at) low high entry entries rise (omega (arith, behind))) (omega arith))
            ∙ has))
      ]
    ]

column_at : (first k : ℕ) (text : List ℕ) (entries : List Toggled) (d : Column) → k < length text →
    (get_or (columns_from first text entries) k d).toggled ≡ toggled_at entries (first + k)
column_at first k [] entries d within = absurd (omega arith)
column_at first zero (character ∷ text) entries d within =
    let same : first ≡ first + 0 = omega arith in
    ap (toggled_at entries) same
column_at first (suc k) (character ∷ text) entries d within =
    let same : suc first + k ≡ first + suc k = omega arith in
    column_at (suc first) k text entries d (omega arith) ∙ ap (toggled_at entries) same

pub previous_column : (slot at : ℕ) (text : List ℕ) (entries : List Toggled) → LieIn 0 (length text) entries →
    at ≤ length text → previous_entry slot at entries ≡ previous_toggle slot at (columns_from 0 text entries)
previous_column slot zero text entries lie within = behind_none slot 0 (WORDS * 0) (WORDS * length text) entries lie (omega arith)
previous_column slot (suc at) text entries lie within =
    let columns = columns_from 0 text entries in
    let none : Column = record { character = 0; toggled = finset.empty } in
    let free = free_behind slot (take at columns) in
    let p = λ (column : Column). not (finset.contains column.toggled slot) in
    let long : suc at ≤ length columns = omega (arith, length-columns 0 text entries) in
    let last : suc at - 1 ≡ at = omega arith in
    let start : 0 + at ≡ at = omega arith in
    let test : p (get_or columns (suc at - 1) none) ≡ not (finset.contains (toggled_at entries at) slot) =
    ap (λ n. p (get_or columns n none)) last
    ∙ ap (λ s. not (finset.contains s slot)) (column_at 0 at text entries none (omega arith)
    ∙ ap (toggled_at entries) start) in
    elim (finset.contains (toggled_at entries at) slot) as (λ b. finset.contains (toggled_at entries at) slot ≡ b →
    previous_entry slot (suc at) entries ≡ previous_toggle slot (suc at) columns) [
      | true ↦ λ has.
          let nothing : free_behind slot (take (suc at) columns)
          ≡ 0 = suffix_len-take_no p columns (suc at) none (omega arith) long (test ∙ ap not has) in
          let yes : nat_lt 0 (suc at) ≡ true = grind (arith, nat_tests) in
          let there : suc at - 0 - 1 ≡ at = omega arith in
          previous_here slot at (WORDS * 0) (WORDS * length text) entries lie has
          ∙ sym (ap (λ n. if nat_lt n (suc at) then Some (suc at - n - 1) else None) nothing
          ∙ ap₂ (λ (b : Bool) n. if b then Some n else None) yes there)
      | false ↦ λ hasn't.
          let more : free_behind slot (take (suc at) columns) ≡ 1 + free =
          suffix_len-take_yes p columns (suc at) none (omega arith) long (test ∙ ap not hasn't)
          ∙ ap (λ n. 1 + free_behind slot (take n columns)) last in
          let tests : nat_lt free at ≡ nat_lt (1 + free) (suc at) = grind (arith, nat_tests) in
          let same : at - free - 1 ≡ suc at - (1 + free) - 1 = omega arith in
          previous_skip slot at (WORDS * 0) (WORDS * length text) entries lie hasn't
          ∙ previous_column slot at text entries lie (omega arith)
          ∙ ap₂ (λ (b : Bool) n. if b then Some n else None) tests same
          ∙ ap (λ n. if nat_lt n (suc at) then Some (suc at - n - 1) else None) (sym more)
    ] refl

later_below : (bound : ℕ) (first second : Option ℕ) → IfSome first (λ previous. previous < bound) →
    IfSome second (λ previous. previous < bound) → IfSome (later_of first second) (λ previous. previous < bound)
later_below bound first None one two = one
later_below bound first (Some second) one two = two

own_below : (slot column : ℕ) (entry : Toggled) → IfSome (own slot column entry) (λ previous. previous < column)
own_below slot column entry =
    let has = finset.contains entry.slots slot in
    elim (nat_lt entry.column column && has) as (λ b. (nat_lt entry.column column && has) ≡ b →
    IfSome (if b then Some entry.column else None) (λ previous. previous < column)) [
      | true ↦ λ is. grind (arith, nat_tests, is)
      | false ↦ λ isn't. tt
    ] refl

pub previous_below : (slot column : ℕ) (entries : List Toggled) →
    IfSome (previous_entry slot column entries) (λ previous. previous < column)
previous_below slot column [] = tt
previous_below slot column (entry ∷ entries) =
    later_below column (own slot column entry) (previous_entry slot column entries) (own_below slot column entry)
    (previous_below slot column entries)
