-- Which marks a store tells of at a place, and near it.
use Rattle.mark_table.proofs.Common.{◌≡◌, ℕ, zero, suc, ◌+◌, ◌<◌, ◌≤◌, Bool, true, false, cond, ◌&&◌, ◌==◌, Some, List}
use Rattle.mark_table.proofs.Common.{[], ◌∷◌, slice_get, Ordering, T, refl, sym, ap, ◌∙◌, arith, eq-eqb, filter}
use Rattle.mark_table.proofs.Common.{nat_tests, none-some, same_Some, Stands, stands_map, stood_at, MarkNo, Place}
use Rattle.mark_table.proofs.Common.{Marks, marks_at, IsAt}
use Rattle.std.specs.declared.cmp.Ordering.TheVariants.{Less, Equal, Greater}
use Rattle.std.specs.FinMap.Entries.{is_sorted, below_all, find}
use Rattle.std.specs.Ordering.{nat_cmp, is_lt, eq_by_cmp}
use Rattle.std.specs.Cmp.{unsigned_tied, ranked}
use Rattle.std.specs.FinMap as finite

-- keys that rise from a number on
Rises : ℕ → List (ℕ × Place) → Type 0
Rises b [] = Unit {0}
Rises b (e ∷ es) = (b ≤ e.0) × Rises (e.0 + 1) es

both_parts : (a b : Bool) → T (a && b) → T a × T b
both_parts true b h = (tt, h)
both_parts false b h = absurd h

less : (x y : ℕ) (r : Ordering) → r ≡ nat_cmp x y → T (is_lt r) → x < y
less x y Less e h = ranked x y Less e
less x y Equal e h = absurd h
less x y Greater e h = absurd h

Rises-from_sorted : (b : ℕ) (es : List (ℕ × Place)) → T (below_all nat_cmp b es) → T (is_sorted nat_cmp es) →
    Rises (b + 1) es
unfolding Rises
Rises-from_sorted b [] below sorted = tt
Rises-from_sorted b (e ∷ es) below sorted =
    let head = both_parts (is_lt (nat_cmp b e.0)) (below_all nat_cmp b es) below in
    let rest = both_parts (below_all nat_cmp e.0 es) (is_sorted nat_cmp es) sorted in
    let under = less b e.0 (nat_cmp b e.0) refl head.0 in
    (omega arith, Rises-from_sorted e.0 es rest.0 rest.1)

Rises-entries : (es : List (ℕ × Place)) → T (is_sorted nat_cmp es) → Rises 0 es
unfolding Rises
Rises-entries [] sorted = tt
Rises-entries (e ∷ es) sorted = let rest = both_parts (below_all nat_cmp e.0 es) (is_sorted nat_cmp es) sorted in
    (omega arith, Rises-from_sorted e.0 es rest.0 rest.1)

Rises-weaker : (a b : ℕ) (es : List (ℕ × Place)) → a ≤ b → Rises b es → Rises a es
unfolding Rises
Rises-weaker a b [] under rises = tt
Rises-weaker a b (e ∷ es) under rises = let own = rises.0 in (omega arith, rises.1)

Rises-filter : (b : ℕ) (p : ℕ × Place → Bool) (es : List (ℕ × Place)) → Rises b es → Rises b (filter p es)
unfolding Rises
Rises-filter b p [] rises = tt
Rises-filter b p (e ∷ es) rises =
    let rest = Rises-filter (e.0 + 1) p es rises.1 in
    let own = rises.0 in
    elim (p e) as (λ t. Rises b (cond t (e ∷ filter p es) (filter p es)))
    [ true ↦ (own, rest) | false ↦ Rises-weaker b (e.0 + 1) (filter p es) (omega arith) rest ]

rising_at : (b : ℕ) (es : List (ℕ × Place)) (i : ℕ) (e : ℕ × Place) → Rises b es → slice_get es i ≡ Some e → b + i ≤ e.0
unfolding Rises
rising_at b [] i e rises is = absurd (none-some e is)
rising_at b (f ∷ es) zero e rises is = let same = same_Some f e is in let own = rises.0 in
    let key = ap (λ (x : ℕ × Place). x.0) same in omega arith
rising_at b (f ∷ es) (suc i) e rises is = let rest = rising_at (f.0 + 1) es i e rises.1 is in let own = rises.0 in
    omega arith

tied : (q k : ℕ) (t : Bool) → (q == k) ≡ t → eq_by_cmp nat_cmp q k ≡ t
tied q k t is = unsigned_tied q k ∙ is

-- an entry is what is found at its key
find_entry : (b : ℕ) (es : List (ℕ × Place)) (i : ℕ) (e : ℕ × Place) → Rises b es → slice_get es i ≡ Some e →
    find nat_cmp e.0 es ≡ Some e.1
unfolding Rises
find_entry b [] i e rises is = absurd (none-some e is)
find_entry b (f ∷ es) zero e rises is =
    let same = same_Some f e is in
    ap (λ t. cond t (Some f.1) (find nat_cmp e.0 es))
    (tied e.0 f.0 true (eq-eqb e.0 f.0 (ap (λ (x : ℕ × Place). x.0) (sym same))))
    ∙ ap (λ (x : ℕ × Place). Some x.1) same
find_entry b (f ∷ es) (suc i) e rises is =
    let above = rising_at (f.0 + 1) es i e rises.1 is in
    let apart : (e.0 == f.0) ≡ false = grind (arith, nat_tests) in
    ap (λ t. cond t (Some f.1) (find nat_cmp e.0 es)) (tied e.0 f.0 false apart)
    ∙ find_entry (f.0 + 1) es i e rises.1 is

equal_numbers : (q k : ℕ) → (q == k) ≡ true → q ≡ k
equal_numbers q k is = grind (arith, nat_tests)

-- what is found at a key is an entry
found_entry : (es : List (ℕ × Place)) (q : ℕ) (place : Place) → find nat_cmp q es ≡ Some place → Stands es (q, place)
found_entry [] q place is = absurd (none-some place is)
found_entry (e ∷ es) q place is = by (q == e.0) refl (λ rest. found_entry es q place rest)
  where
    by : (t : Bool) → (q == e.0) ≡ t → (find nat_cmp q es ≡ Some place → Stands es (q, place)) →
        Stands (e ∷ es) (q, place)
    by true same rest =
        let here = same_Some e.1 place (sym (ap (λ t. cond t (Some e.1) (find nat_cmp q es)) (tied q e.0 true same))
        ∙ is) in
        let key = sym (equal_numbers q e.0 same) in
        (0, λ i. Some (key i, here i))
    by false apart rest = let old = rest (sym (ap (λ t. cond t (Some e.1) (find nat_cmp q es)) (tied q e.0 false apart))
        ∙ is) in (suc old.0, old.1)

-- what a filter keeps
pub kept_entry : {A : Type 0} (p : A → Bool) (xs : List A) (x : A) → Stands xs x → p x ≡ true → Stands (filter p xs) x
kept_entry p [] x (i, is) passes = absurd (none-some x is)
kept_entry p (y ∷ xs) x (zero, is) passes =
    (0, ap (λ t. slice_get (cond t (y ∷ filter p xs) (filter p xs)) 0) (ap p (same_Some y x is) ∙ passes) ∙ is)
kept_entry p (y ∷ xs) x (suc i, is) passes =
    let rest = kept_entry p xs x (i, is) passes in
    elim (p y) as (λ t. Stands (cond t (y ∷ filter p xs) (filter p xs)) x)
    [ true ↦ (suc rest.0, rest.1) | false ↦ rest ]

pub was_kept : {A : Type 0} (p : A → Bool) (xs : List A) (x : A) → Stands (filter p xs) x → Stands xs x × (p x ≡ true)
was_kept p [] x (i, is) = absurd (none-some x is)
was_kept p (y ∷ xs) x stands = by (p y) refl (λ rest. was_kept p xs x rest) stands
  where
    by : (t : Bool) → p y ≡ t → (Stands (filter p xs) x → Stands xs x × (p x ≡ true)) →
        Stands (cond t (y ∷ filter p xs) (filter p xs)) x → Stands (y ∷ xs) x × (p x ≡ true)
    by true passes rest (zero, is) = ((0, is), ap p (sym (same_Some y x is)) ∙ passes)
    by true passes rest (suc i, is) = let old = rest (i, is) in ((suc old.0.0, old.0.1), old.1)
    by false fails rest (i, is) = let old = rest (i, is) in ((suc old.0.0, old.0.1), old.1)

rises : (marks : Marks) → Rises 0 (finite.entries marks)
rises marks = Rises-entries (finite.entries marks) (finite.entries_sorted marks)

-- the marks at a place are in the order of their numbers
pub mark_at_index : (at index : ℕ) (marks : Marks) (number : MarkNo) →
    slice_get (marks_at at marks) index ≡ Some number → index ≤ number.0
mark_at_index at index marks number is =
    let p = λ (entry : ℕ × Place). entry.1.offset == at in
    let entry = stood_at (λ (e : ℕ × Place). record { 0 = e.0 }) (filter p (finite.entries marks)) index number is in
    let least = rising_at 0 (filter p (finite.entries marks)) index entry.0
    (Rises-filter 0 p (finite.entries marks) (rises marks)) entry.1 in
    let key : entry.0.0 ≡ number.0 = ap (λ (n : MarkNo). n.0) entry.2 in
    omega arith

-- a mark that is told of at a place stands there
pub place_of_mark_at : (at : ℕ) (marks : Marks) (number : MarkNo) → Stands (marks_at at marks) number →
    (place : Place) × (finite.get marks number.0 ≡ Some place) × (place.offset ≡ at)
place_of_mark_at at marks number (index, is) =
    let p = λ (entry : ℕ × Place). entry.1.offset == at in
    let entry = stood_at (λ (e : ℕ × Place). record { 0 = e.0 }) (filter p (finite.entries marks)) index number is in
    let old = was_kept p (finite.entries marks) entry.0 (index, entry.1) in
    let key : entry.0.0 ≡ number.0 = ap (λ (n : MarkNo). n.0) entry.2 in (
      entry.0.1,
      finite.get-entries marks number.0 ∙ ap (λ q. find nat_cmp q (finite.entries marks)) (sym key)
          ∙ find_entry 0 (finite.entries marks) old.0.0 entry.0 (rises marks) old.0.1,
      equal_numbers entry.0.1.offset at old.1,
    )

-- and a mark that stands at a place is told of there
pub mark_told_at : (at : ℕ) (marks : Marks) (number : ℕ) (place : Place) → finite.get marks number ≡ Some place →
    place.offset ≡ at → Stands (marks_at at marks) (record { 0 = number })
mark_told_at at marks number place is here =
    let p = λ (entry : ℕ × Place). entry.1.offset == at in
    let entry = found_entry (finite.entries marks) number place (sym (finite.get-entries marks number) ∙ is) in
    let kept = kept_entry p (finite.entries marks) (number, place) entry (eq-eqb place.offset at here) in
    stands_map (λ (e : ℕ × Place). record { 0 = e.0 }) (filter p (finite.entries marks)) (number, place) kept

-- whether the shared mark at a place of the table stands at an offset
pub stands-here : (at place : ℕ) (marks : Marks) (numbers : List ℕ) (number : ℕ) (found : Place) →
    slice_get numbers place ≡ Some number → finite.get marks number ≡ Some found → found.offset ≡ at
    → IsAt (marks_at at marks) numbers place
stands-here at place marks numbers number found is has here =
    let told = mark_told_at at marks number found has here in (told.0, record { 0 = number }, told.1, is)

pub stands-there : (at place : ℕ) (marks : Marks) (numbers : List ℕ) (number : ℕ) →
    slice_get numbers place ≡ Some number → IsAt (marks_at at marks) numbers place
    → (found : Place) × (finite.get marks number ≡ Some found) × (found.offset ≡ at)
stands-there at place marks numbers number is stands =
    let told = place_of_mark_at at marks stands.1 (stands.0, stands.2) in
    let same = same_Some stands.1.0 number (sym stands.3 ∙ is) in
    (told.0, ap (finite.get marks) (sym same) ∙ told.1, told.2)
