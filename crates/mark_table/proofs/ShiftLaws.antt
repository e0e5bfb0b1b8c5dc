-- Marks whose places are counted from a start, and the same marks with their offsets: the next one and the previous one.
use Rattle.mark_table.proofs.Common.{◌≡◌, ℕ, ◌+◌, ◌-◌, ◌<◌, ◌≤◌, min, Bool, true, false, cond, List, [], ◌∷◌, map, refl}
use Rattle.mark_table.proofs.Common.{ap, ap₂, ◌∙◌, arith, find, nat_le, nat_lt, option_and_then, if◌then◌else◌, Option}
use Rattle.mark_table.proofs.Common.{None, Some, ◌&&◌, ◌||◌, ◌==◌, nat_tests, AllByRecursion, fold, earlier, Shown}
use Rattle.mark_table.proofs.Common.{origin_in, filter, Origin}
use Rattle.std.proofs.Common.{option_map}
use Rattle.mark_table.specs.declared.order.Origin.TheVariants.{Mark as From, Place as Offset}
use Rattle.mark_table.specs.Order as order

-- a mark that is shown at a place behind a start, by its place in the text
abbrev pub shifted : ℕ → Shown → Shown
shifted start mark = record { place = mark.place + start; rank = mark.rank }

-- ---- what is asked of marks that are all shifted

lt-shifted : (a b start : ℕ) → nat_lt (a + start) (b + start) ≡ nat_lt a b
lt-shifted a b start = elim (nat_lt a b) as (λ v. nat_lt a b ≡ v → nat_lt (a + start) (b + start) ≡ v) [
  | true ↦ λ is. grind (arith, nat_tests)
  | false ↦ λ is. grind (arith, nat_tests)
] refl

eq-shifted : (a b start : ℕ) → (a + start == b + start) ≡ (a == b)
eq-shifted a b start = elim (a == b) as (λ v. (a == b) ≡ v → (a + start == b + start) ≡ v) [
  | true ↦ λ is. grind (arith, nat_tests)
  | false ↦ λ is. grind (arith, nat_tests)
] refl

earlier-shifted : (start : ℕ) (a b : Shown) → earlier (shifted start a) (shifted start b) ≡ earlier a b
earlier-shifted start a b =
    ap₂ (λ l e. l || (e && nat_lt a.rank b.rank)) (lt-shifted a.place b.place start) (eq-shifted a.place b.place start)

find-shifted : (start : ℕ) (rank : ℕ) (marks : List Shown) →
    find (λ (mark : Shown). mark.rank == rank) (map (shifted start) marks)
    ≡ option_map (shifted start) (find (λ (mark : Shown). mark.rank == rank) marks)
find-shifted start rank [] = refl
find-shifted start rank (mark ∷ marks) =
    elim (mark.rank == rank) as (λ b. cond b (Some (shifted start mark))
    (find (λ (m : Shown). m.rank == rank) (map (shifted start) marks))
    ≡ option_map (shifted start) (cond b (Some mark) (find (λ (m : Shown). m.rank == rank) marks))) [
      | true ↦ refl
      | false ↦ find-shifted start rank marks
    ]

filter-shifted : (start : ℕ) (wanted passes : Shown → Bool) (marks : List Shown) →
    AllByRecursion (λ mark. wanted (shifted start mark) ≡ passes mark) marks
    → filter wanted (map (shifted start) marks) ≡ map (shifted start) (filter passes marks)
filter-shifted start wanted passes [] same = refl
filter-shifted start wanted passes (mark ∷ marks) same =
    let rest = filter-shifted start wanted passes marks same.1 in
    ap (λ b. cond b (shifted start mark ∷ filter wanted (map (shifted start) marks))
    (filter wanted (map (shifted start) marks))) same.0
    ∙ elim (passes mark) as (λ b. cond b (shifted start mark ∷ filter wanted (map (shifted start) marks))
    (filter wanted (map (shifted start) marks))
    ≡ map (shifted start) (cond b (mark ∷ filter passes marks) (filter passes marks))) [
      | true ↦ ap (λ others. shifted start mark ∷ others) rest
      | false ↦ rest
    ]

every : {A : Type 0} (P : A → Type 0) → ((x : A) → P x) → (xs : List A) → AllByRecursion P xs
every P each [] = tt
every P each (x ∷ xs) = (each x, every P each xs)

chosen : (start : ℕ) (b : Bool) (x y : Shown) → (if b then shifted start x else shifted start y)
    ≡ shifted start (if b then x else y)
chosen start true x y = refl
chosen start false x y = refl

fold-shifted : (start : ℕ) (pick : Shown → Shown → Shown) →
    ((a b : Shown) → pick (shifted start a) (shifted start b) ≡ shifted start (pick a b)) →
    (best : Shown) (marks : List Shown)
    → fold pick (shifted start best) (map (shifted start) marks) ≡ shifted start (fold pick best marks)
fold-shifted start pick same best [] = refl
fold-shifted start pick same best (mark ∷ marks) = ap (λ b. fold pick b (map (shifted start) marks)) (same best mark)
    ∙ fold-shifted start pick same (pick best mark) marks

best-shifted : (start : ℕ) (better : Shown → Shown → Bool) →
    ((a b : Shown) → better (shifted start a) (shifted start b) ≡ better a b) → (best : Shown) (marks : List Shown)
    → fold (λ a b. if better a b then b else a) (shifted start best) (map (shifted start) marks)
    ≡ shifted start (fold (λ a b. if better a b then b else a) best marks)
best-shifted start better same =
    fold-shifted start (λ a b. if better a b then b else a) (λ a b.
    ap (λ t. if t then shifted start b else shifted start a) (same a b) ∙ chosen start (better a b) b a)

first-shifted : (start : ℕ) (marks : List Shown) → order.first (map (shifted start) marks)
    ≡ option_map (shifted start) (order.first marks)
first-shifted start [] = refl
first-shifted start (mark ∷ marks) =
    ap Some (best-shifted start (λ a b. earlier b a) (λ a b. earlier-shifted start b a) mark marks)

last-shifted : (start : ℕ) (marks : List Shown) → order.last (map (shifted start) marks)
    ≡ option_map (shifted start) (order.last marks)
last-shifted start [] = refl
last-shifted start (mark ∷ marks) = ap Some (best-shifted start earlier (earlier-shifted start) mark marks)

named-shifted : (start : ℕ) (found : Option Shown) →
    option_map (λ (mark : Shown). order.mark_of mark.rank) (option_map (shifted start) found)
    ≡ option_map (λ (mark : Shown). order.mark_of mark.rank) found
named-shifted start None = refl
named-shifted start (Some mark) = refl

-- what stands below a bound in the text
abbrev pub AreBelow : ℕ → ℕ → List Shown → Type 0
AreBelow most start marks = AllByRecursion (λ (mark : Shown). mark.place + start < most) marks

le-bounded : (most start place at : ℕ) → at + start < most →
    nat_le (min (place + start) most) (at + start) ≡ nat_le place at
le-bounded most start place at below =
    elim (nat_le place at) as (λ v. nat_le place at ≡ v → nat_le (min (place + start) most) (at + start) ≡ v) [
      | true ↦ λ is. let h : place ≤ at = grind (arith, nat_tests) in
          let e : min (place + start) most ≤ at + start = omega (arith, h) in grind (arith, nat_tests)
      | false ↦ λ is. let h : at < place = grind (arith, nat_tests) in
          let e : at + start < min (place + start) most = omega (arith, h, below) in grind (arith, nat_tests)
    ] refl

lt-bounded : (most start place at : ℕ) → at + start < most →
    nat_lt (at + start) (min (place + start) most) ≡ nat_lt at place
lt-bounded most start place at below =
    elim (nat_lt at place) as (λ v. nat_lt at place ≡ v → nat_lt (at + start) (min (place + start) most) ≡ v) [
      | true ↦ λ is. let h : at < place = grind (arith, nat_tests) in
          let e : at + start < min (place + start) most = omega (arith, h, below) in grind (arith, nat_tests)
      | false ↦ λ is. let h : place ≤ at = grind (arith, nat_tests) in
          let e : min (place + start) most ≤ at + start = omega (arith, h) in grind (arith, nat_tests)
    ] refl

all-so : (most start : ℕ) (P : Shown → Type 0) → ((mark : Shown) → mark.place + start < most → P mark) →
    (marks : List Shown) → AreBelow most start marks → AllByRecursion P marks
all-so most start P each [] below = tt
all-so most start P each (mark ∷ marks) below = (each mark below.0, all-so most start P each marks below.1)

-- what is picked of the marks that are by a test behind a mark, or before it
module _ (start : ℕ) (pick : List Shown → Option Shown) (picked : (marks : List Shown)
    → pick (map (shifted start) marks) ≡ option_map (shifted start) (pick marks)) where
  from-shifted : (test : Shown → Shown → Bool) →
      ((a b : Shown) → test (shifted start a) (shifted start b) ≡ test a b) → (marks : List Shown)
      (found : Option Shown)
      → option_and_then (λ from. pick (filter (test from) (map (shifted start) marks)))
      (option_map (shifted start) found)
      ≡ option_map (shifted start) (option_and_then (λ from. pick (filter (test from) marks)) found)
  from-shifted test same marks None = refl
  from-shifted test same marks (Some from) =
      ap pick (filter-shifted start (test (shifted start from)) (test from) marks
      (every (λ other. test (shifted start from) (shifted start other) ≡ test from other) (same from) marks))
      ∙ picked (filter (test from) marks)

  -- the same of a place, which none of the marks is behind
  at-shifted : (most : ℕ) (wanted passes : ℕ → Bool) →
      ((at : ℕ) → at + start < most → wanted (at + start) ≡ passes at) → (marks : List Shown)
      → AreBelow most start marks
      → pick (filter (λ (mark : Shown). wanted mark.place) (map (shifted start) marks))
      ≡ option_map (shifted start) (pick (filter (λ (mark : Shown). passes mark.place) marks))
  at-shifted most wanted passes same marks below =
      ap pick (filter-shifted start (λ (mark : Shown). wanted mark.place) (λ (mark : Shown). passes mark.place) marks
      (all-so most start (λ (mark : Shown). wanted (mark.place + start) ≡ passes mark.place) (λ mark.
      same mark.place) marks below))
      ∙ picked (filter (λ (mark : Shown). passes mark.place) marks)

next-shown : (most start : ℕ) (origin : Origin) (marks : List Shown) → AreBelow most start marks
    → order.next_shown (origin_in most start origin) (map (shifted start) marks)
    ≡ option_map (shifted start) (order.next_shown origin marks)
next-shown most start (From mark) marks below =
    ap (option_and_then (λ from. order.first (filter (earlier from) (map (shifted start) marks))))
    (find-shifted start (order.rank_of mark) marks)
    ∙ from-shifted start order.first (first-shifted start) earlier (earlier-shifted start) marks
    (order.shown_mark mark marks)
next-shown most start (Offset place) marks below =
    at-shifted start order.first (first-shifted start) most (nat_le (min (place + start) most)) (nat_le place)
    (le-bounded most start place) marks below

previous-shown : (most start : ℕ) (origin : Origin) (marks : List Shown) → AreBelow most start marks
    → order.previous_shown (origin_in most start origin) (map (shifted start) marks)
    ≡ option_map (shifted start) (order.previous_shown origin marks)
previous-shown most start (From mark) marks below =
    ap (option_and_then (λ from. order.last (filter (λ other. earlier other from) (map (shifted start) marks))))
    (find-shifted start (order.rank_of mark) marks)
    ∙ from-shifted start order.last (last-shifted start) (λ from other. earlier other from) (λ a b.
    earlier-shifted start b a) marks (order.shown_mark mark marks)
previous-shown most start (Offset place) marks below =
    at-shifted start order.last (last-shifted start) most (λ at. nat_lt at (min (place + start) most)) (λ at.
    nat_lt at place) (lt-bounded most start place) marks below

pub next-shifted : (most start : ℕ) (origin : Origin) (marks : List Shown) → AreBelow most start marks →
    order.next_mark (origin_in most start origin) (map (shifted start) marks) ≡ order.next_mark origin marks
next-shifted most start origin marks below =
    ap (option_map (λ (mark : Shown). order.mark_of mark.rank)) (next-shown most start origin marks below)
    ∙ named-shifted start (order.next_shown origin marks)

pub previous-shifted : (most start : ℕ) (origin : Origin) (marks : List Shown) → AreBelow most start marks
    → order.previous_mark (origin_in most start origin) (map (shifted start) marks) ≡ order.previous_mark origin marks
previous-shifted most start origin marks below =
    ap (option_map (λ (mark : Shown). order.mark_of mark.rank)) (previous-shown most start origin marks below)
    ∙ named-shifted start (order.previous_shown origin marks)
