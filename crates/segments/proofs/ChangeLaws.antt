-- The columns that other toggles make.
use Rattle.segments.proofs.Common.{◌≡◌, ℕ, zero, suc, ◌+◌, ◌-◌, ◌<◌, ◌≤◌, ◌≢◌, nat_le, nat_lt, ◌&&◌, Bool, true, false}
use Rattle.segments.proofs.Common.{◌==◌, ◌||◌, List, [], ◌∷◌, ◌++◌, length, map, take, drop, inl, inr, refl, sym, ap}
use Rattle.segments.proofs.Common.{ap₂, subst, ◌∙◌, arith, cond, if◌then◌else◌, cases_eq, nat_tests, nat_cmp_total}
use Rattle.segments.proofs.Common.{unsigned_tied, nat_cmp, set_slot, contains-differing, either, same_slots, Slots}
use Rattle.segments.proofs.Common.{differing, changed, Toggled, Column, flipped, slots_cleared, toggled_at}
use Rattle.segments.proofs.Common.{columns_from, flipped_if, toggled_if}
use Rattle.text_model.proofs.CellLaws.{contains-set_slot}
use Rattle.std.specs.FinSet as finset

-- the same columns where the toggles are the same, if need be some columns on
pub columns_same : (first second : ℕ) (text : List ℕ) (new old : List Toggled) →
    ((k : ℕ) → k < length text → toggled_at new (first + k) ≡ toggled_at old (second + k)) →
    columns_from first text new ≡ columns_from second text old
columns_same first second [] new old same = refl
columns_same first second (character ∷ text) new old same =
    let one : first + 0 ≡ first = omega arith in
    let two : second + 0 ≡ second = omega arith in
    ap₂ (λ slots (columns : List Column). record { character = character; toggled = slots } ∷ columns)
    (sym (ap (toggled_at new) one) ∙ same 0 (omega arith) ∙ ap (toggled_at old) two)
    (columns_same (suc first) (suc second) text new old (λ k small.
    let one : suc first + k ≡ first + suc k = omega arith in
    let two : second + suc k ≡ suc second + k = omega arith in
    ap (toggled_at new) one ∙ same (suc k) (omega arith) ∙ ap (toggled_at old) two))

-- one of them changed
abbrev with_slots : (Slots → Slots) → Column → Column
with_slots f column = record column { toggled = f column.toggled }

abbrev changed_one : (Column → Column) → ℕ → List Column → List Column
changed_one f at columns = take at columns ++ map f (take 1 (drop at columns)) ++ drop (suc at) columns

changed-one : (f : Column → Column) (at : ℕ) (columns : List Column) →
    changed f at (at + 1) columns ≡ changed_one f at columns
changed-one f at columns =
    let one : (at + 1) - at ≡ 1 = omega arith in
    let next : at + 1 ≡ suc at = omega arith in
    ap₂ (λ n m. take at columns ++ map f (take n (drop at columns)) ++ drop m columns) one next

columns_one : (first at : ℕ) (f : Slots → Slots) (text : List ℕ) (new old : List Toggled) → at < length text →
    toggled_at new (first + at) ≡ f (toggled_at old (first + at)) →
    ((k : ℕ) → k ≢ first + at → toggled_at new k ≡ toggled_at old k)
    → columns_from first text new ≡ changed_one (with_slots f) at (columns_from first text old)
columns_one first at f [] new old within here others = absurd (omega arith)
columns_one first zero f (character ∷ text) new old within here others =
    let one : first + 0 ≡ first = omega arith in
    ap₂ (λ slots (columns : List Column). record { character = character; toggled = slots } ∷ columns)
    (subst (λ n. toggled_at new n ≡ f (toggled_at old n)) one here)
    (columns_same (suc first) (suc first) text new old (λ k small.
    others (suc first + k) (λ is. absurd (omega (arith, is)))))
columns_one first (suc at) f (character ∷ text) new old within here others =
    let one : first + suc at ≡ suc first + at = omega arith in
    ap₂ (λ slots (columns : List Column). record { character = character; toggled = slots } ∷ columns)
    (others first (λ is. absurd (omega (arith, is))))
    (columns_one (suc first) at f text new old (omega arith)
    (subst (λ n. toggled_at new n ≡ f (toggled_at old n)) one here)
    (subst (λ n. (k : ℕ) → k ≢ n → toggled_at new k ≡ toggled_at old k) one others))

pub columns_changed : (at : ℕ) (f : Slots → Slots) (text : List ℕ) (new old : List Toggled) → at < length text →
    toggled_at new at ≡ f (toggled_at old at) → ((k : ℕ) → k ≢ at → toggled_at new k ≡ toggled_at old k)
    → columns_from 0 text new ≡ changed (λ (column : Column). record column { toggled = f column.toggled }) at (at + 1)
    (columns_from 0 text old)
columns_changed at f text new old within here others =
    let one : at ≡ 0 + at = omega arith in
    columns_one 0 at f text new old within (subst (λ n. toggled_at new n ≡ f (toggled_at old n)) one here)
    (subst (λ n. (k : ℕ) → k ≢ n → toggled_at new k ≡ toggled_at old k) one others)
    ∙ sym (changed-one (with_slots f) at (columns_from 0 text old))

-- a set toggled at a column
pub columns_flipped : (column : ℕ) (slots : Slots) (text : List ℕ) (new old : List Toggled) → column < length text →
    ((at : ℕ) → toggled_at new at ≡ flipped column slots at (toggled_at old at))
    → columns_from 0 text new ≡ changed (λ (one : Column). record one { toggled = differing slots one.toggled }) column
    (column + 1) (columns_from 0 text old)
columns_flipped column slots text new old within is =
    let here : (column == column) ≡ true = grind (arith, nat_tests) in
    columns_changed column (differing slots) text new old within
    (is column ∙ ap (λ (b : Bool). if b then differing slots (toggled_at old column) else toggled_at old column) here)
    (λ k other.
    let test : (k == column) ≡ false = grind (arith, nat_tests) in
    is k ∙ ap (λ (b : Bool). if b then differing slots (toggled_at old k) else toggled_at old k) test)

-- a slot that is toggled there, if it is to be
pub columns_flipped_if : (is_flipped : Bool) (column slot : ℕ) (text : List ℕ) (new old : List Toggled) →
    column < length text
    → ((at : ℕ) → toggled_at new at
    ≡ flipped_if is_flipped column (finset.insert finset.empty slot) at (toggled_at old at))
    → columns_from 0 text new ≡ toggled_if is_flipped slot column (columns_from 0 text old)
columns_flipped_if true column slot text new old within is =
    columns_flipped column (finset.insert finset.empty slot) text new old within is
columns_flipped_if false column slot text new old within is = columns_same 0 0 text new old (λ k small. is (0 + k))

-- a slot that is to be as it is, and one that isn't
same_test : (q slot : ℕ) (on : Bool) (slots : Slots) → finset.contains slots slot ≡ on →
    cond (q == slot) on (finset.contains slots q) ≡ finset.contains slots q
same_test q slot on slots is =
    elim (cases_eq q slot) [
      | inl same ↦
          let test : (q == slot) ≡ true = grind (arith, nat_tests) in
          ap (λ b. cond b on (finset.contains slots q)) test ∙ sym is ∙ ap (finset.contains slots) (sym same)
      | inr other ↦
          let test : (q == slot) ≡ false = grind (arith, nat_tests) in
          ap (λ b. cond b on (finset.contains slots q)) test
    ]

pub slots_kept : (slot : ℕ) (on : Bool) (slots : Slots) → finset.contains slots slot ≡ on →
    slots ≡ set_slot slot on slots
slots_kept slot on slots is =
    same_slots _ _ (λ q. sym (contains-set_slot slot on slots q ∙ same_test q slot on slots is))

turned : (has on : Bool) → (has ≡ on → ⊥) → either true has ≡ on
turned true true other = absurd (other refl)
turned true false other = refl
turned false true other = refl
turned false false other = absurd (other refl)

unturned : (has : Bool) → either false has ≡ has
unturned true = refl
unturned false = refl

turned_test : (q slot : ℕ) (on : Bool) (slots : Slots) → (finset.contains slots slot ≡ on → ⊥) →
    either (finset.contains (finset.insert {R = nat_cmp} finset.empty slot) q) (finset.contains slots q)
    ≡ cond (q == slot) on (finset.contains slots q)
turned_test q slot on slots other =
    let one = finset.contains-insert nat_cmp_total finset.empty slot q
    ∙ ap₂ (λ a b. a || b) (unsigned_tied q slot) (finset.contains-empty nat_cmp q) in
    ap (λ a. either a (finset.contains slots q)) one
    ∙ elim (cases_eq q slot) [
      | inl same ↦
          let test : (q == slot) ≡ true = grind (arith, nat_tests) in
          ap (λ b. either (b || false) (finset.contains slots q)) test
          ∙ ap (λ n. either true (finset.contains slots n)) same
          ∙ turned (finset.contains slots slot) on other
          ∙ ap (λ b. cond b on (finset.contains slots q)) (sym test)
      | inr apart ↦
          let test : (q == slot) ≡ false = grind (arith, nat_tests) in
          ap (λ b. either (b || false) (finset.contains slots q)) test
          ∙ unturned (finset.contains slots q)
          ∙ ap (λ b. cond b on (finset.contains slots q)) (sym test)
    ]

pub slots_turned : (slot : ℕ) (on : Bool) (slots : Slots) → (finset.contains slots slot ≡ on → ⊥) →
    differing (finset.insert finset.empty slot) slots ≡ set_slot slot on slots
slots_turned slot on slots other =
    same_slots _ _ (λ q. contains-differing (finset.insert finset.empty slot) slots q
    ∙ turned_test q slot on slots other ∙ sym (contains-set_slot slot on slots q))

pub columns_turned : (column slot : ℕ) (on : Bool) (one : Slots) (text : List ℕ) (new old : List Toggled) →
    column < length text → one ≡ finset.insert finset.empty slot →
    (finset.contains (toggled_at old column) slot ≡ on → ⊥) →
    ((at : ℕ) → toggled_at new at ≡ flipped column one at (toggled_at old at))
    → columns_from 0 text new ≡ changed (λ (there : Column). record there { toggled = set_slot slot on there.toggled })
    column (column + 1) (columns_from 0 text old)
columns_turned column slot on one text new old within one_is other is =
    let here : (column == column) ≡ true = grind (arith, nat_tests) in
    columns_changed column (set_slot slot on) text new old within
    (is column
    ∙ ap (λ (b : Bool). if b then differing one (toggled_at old column) else toggled_at old column) here
    ∙ ap (λ s. differing s (toggled_at old column)) one_is
    ∙ slots_turned slot on (toggled_at old column) other)
    (λ k apart.
    let test : (k == column) ≡ false = grind (arith, nat_tests) in
    is k ∙ ap (λ (b : Bool). if b then differing one (toggled_at old k) else toggled_at old k) test)

-- columns from one to another changed
between_first : (k to : ℕ) → (nat_le 0 (suc k) && nat_lt (suc k) (suc to)) ≡ (nat_le 0 k && nat_lt k to)
between_first k to = grind (arith, nat_tests)

between_next : (from to k : ℕ) → (nat_le (suc from) (suc k) && nat_lt (suc k) (suc to)) ≡ (nat_le from k && nat_lt k to)
between_next from to k = grind (arith, nat_tests)

pub changed-first : {A : Type 0} (f : A → A) (to : ℕ) (x : A) (xs : List A) →
    changed f 0 (suc to) (x ∷ xs) ≡ f x ∷ changed f 0 to xs
changed-first f to x xs =
    ap (λ n. map f (take n (x ∷ xs)) ++ drop to xs) (let same : suc to - 0 ≡ suc to = omega arith in same)
    ∙ ap (λ n. f x ∷ (map f (take n xs) ++ drop to xs)) (let same : to ≡ to - 0 = omega arith in same)

pub changed-next : {A : Type 0} (f : A → A) (from to : ℕ) (x : A) (xs : List A) →
    changed f (suc from) (suc to) (x ∷ xs) ≡ x ∷ changed f from to xs
changed-next f from to x xs = ap (λ n. x ∷ (take from xs ++ map f (take n (drop from xs)) ++ drop to xs))
    (let same : suc to - suc from ≡ to - from = omega arith in same)

columns_between : (first from to : ℕ) (f : Slots → Slots) (text : List ℕ) (new old : List Toggled) → from ≤ to →
    to ≤ length text
    → ((k : ℕ) → k < length text → toggled_at new (first + k)
    ≡ (if nat_le from k && nat_lt k to then f (toggled_at old (first + k)) else toggled_at old (first + k)))
    → columns_from first text new ≡ changed (with_slots f) from to (columns_from first text old)
columns_between first zero zero f text new old ordered within is =
    columns_same first first text new old (λ k small.
    let none : (nat_le 0 k && nat_lt k 0) ≡ false = grind (arith, nat_tests) in
    is k small ∙ ap (λ (b : Bool). if b then f (toggled_at old (first + k)) else toggled_at old (first + k)) none)
columns_between first zero (suc to) f [] new old ordered within is = absurd (omega (arith, within))
columns_between first zero (suc to) f (character ∷ text) new old ordered within is =
    let one : first + 0 ≡ first = omega arith in
    let some : (nat_le 0 0 && nat_lt 0 (suc to)) ≡ true = grind (arith, nat_tests) in
    ap₂ (λ slots (columns : List Column). record { character = character; toggled = slots } ∷ columns)
    (sym (ap (toggled_at new) one) ∙ is 0 (omega arith)
    ∙ ap (λ (b : Bool). if b then f (toggled_at old (first + 0)) else toggled_at old (first + 0)) some
    ∙ ap (λ n. f (toggled_at old n)) one)
    (columns_between (suc first) zero to f text new old (omega arith) (omega (arith, within)) (λ k small.
    let one : suc first + k ≡ first + suc k = omega arith in
    ap (toggled_at new) one ∙ is (suc k) (omega (arith, small))
    ∙ ap (λ (b : Bool). if b then f (toggled_at old (first + suc k))
    else toggled_at old (first + suc k)) (between_first k to)
    ∙ ap (λ n. if nat_le 0 k && nat_lt k to then f (toggled_at old n) else toggled_at old n) (sym one)))
    ∙ sym (changed-first (with_slots f) to (record { character = character; toggled = toggled_at old first })
    (columns_from (suc first) text old))
columns_between first (suc from) zero f text new old ordered within is = absurd (omega (arith, ordered))
columns_between first (suc from) (suc to) f [] new old ordered within is = absurd (omega (arith, within))
columns_between first (suc from) (suc to) f (character ∷ text) new old ordered within is =
    let one : first + 0 ≡ first = omega arith in
    let none : (nat_le (suc from) 0 && nat_lt 0 (suc to)) ≡ false = grind (arith, nat_tests) in
    ap₂ (λ slots (columns : List Column). record { character = character; toggled = slots } ∷ columns)
    (sym (ap (toggled_at new) one) ∙ is 0 (omega arith)
    ∙ ap (λ (b : Bool). if b then f (toggled_at old (first + 0)) else toggled_at old (first + 0)) none
    ∙ ap (toggled_at old) one)
    (columns_between (suc first) from to f text new old (omega (arith, ordered)) (omega (arith, within)) (λ k small.
    let one : suc first + k ≡ first + suc k = omega arith in
    ap (toggled_at new) one ∙ is (suc k) (omega (arith, small))
    ∙ ap (λ (b : Bool). if b then f (toggled_at old (first + suc k))
    else toggled_at old (first + suc k)) (between_next from to k)
    ∙ ap (λ n. if nat_le from k && nat_lt k to then f (toggled_at old n) else toggled_at old n) (sym one)))
    ∙ sym (changed-next (with_slots f) from to (record { character = character; toggled = toggled_at old first })
    (columns_from (suc first) text old))

pub columns_cleared : (slot from to : ℕ) (text : List ℕ) (new old : List Toggled) → from ≤ to → to ≤ length text
    → ((at : ℕ) → toggled_at new at ≡ slots_cleared slot from to at (toggled_at old at))
    → columns_from 0 text new ≡ changed (λ (column : Column).
    record column { toggled = set_slot slot false column.toggled }) from to (columns_from 0 text old)
columns_cleared slot from to text new old ordered within is =
    columns_between 0 from to (set_slot slot false) text new old ordered within (λ k small.
    let one : 0 + k ≡ k = omega arith in
    ap (toggled_at new) one ∙ is k ∙ ap (λ n. slots_cleared slot from to k (toggled_at old n)) (sym one))
