-- The shared marks in their order, from offset to offset.
use Rattle.mark_table.proofs.Common.{◌≡◌, ◌≢◌, ℕ, zero, suc, ◌+◌, ◌-◌, ◌<◌, ◌≤◌, ◌⊎◌, min, max, Bool, true, false, ◌&&◌}
use Rattle.mark_table.proofs.Common.{nat_lt, nat_le, if◌then◌else◌, Option, None, Some, List, [], ◌∷◌, ◌++◌, length}
use Rattle.mark_table.proofs.Common.{slice_get, refl, sym, ap, ◌∙◌, subst, inl, inr, arith, cases_eq, nat_tests}
use Rattle.mark_table.proofs.Common.{none-some, same_Some, slice_get_within, Place, Marks, marks_at, next_mark}
use Rattle.mark_table.proofs.Common.{previous_mark, Stands, MarkView, Shown, earlier, shared_mark, shared_marks, IsAt}
use Rattle.mark_table.proofs.Common.{IsFirstAt, IsLastAt, IsFirst, IsLast, false_from_ne_true, le-ltb, lt-ltb}
use Rattle.mark_table.proofs.Common.{ltb-false, ltb-true, true_from_ne_false}
use Rattle.text_model.proofs.MarkOrderLaws.{next_mark-least, previous_mark-greatest}
use Rattle.mark_table.proofs.StoreLaws.{place_of_mark_at, mark_told_at}
use Rattle.std.specs.FinMap as finite

-- what stands in two lists together
pub stands_left : {A : Type 0} (xs ys : List A) (x : A) → Stands xs x → Stands (xs ++ ys) x
stands_left [] ys x has = absurd (none-some x has.1)
stands_left (y ∷ xs) ys x (zero, is) = (0, is)
stands_left (y ∷ xs) ys x (suc at, is) = let rest = stands_left xs ys x (at, is) in (suc rest.0, rest.1)

pub stands_right : {A : Type 0} (xs ys : List A) (x : A) → Stands ys x → Stands (xs ++ ys) x
stands_right [] ys x has = has
stands_right (y ∷ xs) ys x has = let rest = stands_right xs ys x has in (suc rest.0, rest.1)

pub stands_either : {A : Type 0} (xs ys : List A) (x : A) → Stands (xs ++ ys) x → Stands xs x ⊎ Stands ys x
stands_either [] ys x has = inr has
stands_either (y ∷ xs) ys x (zero, is) = inl (0, is)
stands_either (y ∷ xs) ys x (suc at, is) =
    elim (stands_either xs ys x (at, is)) [ inl left ↦ inl (suc left.0, left.1) | inr right ↦ inr right ]

pub stands_first : {A : Type 0} (x : A) (xs : List A) (y : A) → Stands (x ∷ xs) y → (x ≡ y) ⊎ Stands xs y
stands_first x xs y (zero, is) = inl (same_Some x y is)
stands_first x xs y (suc at, is) = inr (at, is)

-- a mark that the store has at a place of the view
pub record IsShared (view : MarkView) (marks : Marks) (numbers : List ℕ) (place : ℕ) (shown : Shown) (rank : ℕ) : Type 0
  where
    pub number : ℕ
    pub stands : Place
    pub numbered : slice_get numbers place ≡ Some number
    pub has : finite.get marks number ≡ Some stands
    pub here : stands.offset ≡ shown.place
    pub above : view.start ≤ shown.place
    pub below : shown.place ≤ view.end
    pub ranked : shown.rank ≡ rank + place

in_view : (start end offset : ℕ) → start ≤ offset → offset ≤ end → (nat_le start offset && nat_le offset end) ≡ true
in_view start end offset above below = grind (arith, nat_tests)

view_of : (start end offset : ℕ) → (nat_le start offset && nat_le offset end) ≡ true → (start ≤ offset) × (offset ≤ end)
view_of start end offset is = (grind (arith, nat_tests), grind (arith, nat_tests))

one_shared : (view : MarkView) (rank : ℕ) (place : Place) → view.start ≤ place.offset → place.offset ≤ view.end →
    shared_mark view rank (Some place) ≡ record { place = place.offset; rank = rank } ∷ []
one_shared view rank place above below = ap (λ b. if b then record { place = place.offset; rank = rank } ∷ []
    else []) (in_view view.start view.end place.offset above below)

pub one-out : (view : MarkView) (rank : ℕ) (found : Option Place) (shown : Shown) →
    Stands (shared_mark view rank found) shown → (place : Place) × (found ≡ Some place) × (place.offset ≡ shown.place)
    × (view.start ≤ shown.place) × (shown.place ≤ view.end) × (shown.rank ≡ rank)
one-out view rank None shown has = absurd (none-some shown has.1)
one-out view rank (Some place) shown has = by (nat_le view.start place.offset && nat_le place.offset view.end) refl has
  where
    by : (b : Bool) → (nat_le view.start place.offset && nat_le place.offset view.end) ≡ b →
        Stands (if b then record { place = place.offset; rank = rank } ∷ [] else []) shown
        → (place' : Place) × (Some place ≡ Some place') × (place'.offset ≡ shown.place) × (view.start ≤ shown.place)
        × (shown.place ≤ view.end) × (shown.rank ≡ rank)
    by true inside (zero, is) =
        let same = same_Some (record { place = place.offset; rank = rank }) shown is in
        let bounds = view_of view.start view.end place.offset inside in
        let here = ap (λ (s : Shown). s.place) same in
        let low = bounds.0 in
        let high = bounds.1 in
        (place, refl, here, omega arith, omega arith, ap (λ (s : Shown). s.rank) (sym same))
    by true inside (suc at, is) = absurd (none-some shown is)
    by false outside (at, is) = absurd (none-some shown is)

-- a shared mark is that of a number of the table, and the other way round
pub number-out : (view : MarkView) (marks : Marks) (rank : ℕ) (numbers : List ℕ) (shown : Shown) →
    Stands (shared_marks view marks rank numbers) shown → (at : ℕ) × (number : ℕ) × (slice_get numbers at ≡ Some number)
    × Stands (shared_mark view (rank + at) (finite.get marks number)) shown
number-out view marks rank [] shown has = absurd (none-some shown has.1)
number-out view marks rank (n ∷ numbers) shown has =
    elim (stands_either (shared_mark view rank (finite.get marks n)) (shared_marks view marks (rank + 1) numbers) shown
    has) [
      | inl own ↦
          let same : rank ≡ rank + 0 = omega arith in
          (0, n, refl, subst (λ r. Stands (shared_mark view r (finite.get marks n)) shown) same own)
      | inr other ↦
          let rest = number-out view marks (rank + 1) numbers shown other in
          let same : rank + 1 + rest.0 ≡ rank + suc rest.0 = omega arith in (
            suc rest.0,
            rest.1,
            rest.2,
            subst (λ r. Stands (shared_mark view r (finite.get marks rest.1)) shown) same rest.3,
          )
    ]

pub number-in : (view : MarkView) (marks : Marks) (rank : ℕ) (numbers : List ℕ) (at number : ℕ) (shown : Shown) →
    slice_get numbers at ≡ Some number → Stands (shared_mark view (rank + at) (finite.get marks number)) shown
    → Stands (shared_marks view marks rank numbers) shown
number-in view marks rank [] at number shown is has = absurd (none-some number is)
number-in view marks rank (n ∷ numbers) zero number shown is has =
    let same : rank + 0 ≡ rank = omega arith in
    stands_left (shared_mark view rank (finite.get marks n)) (shared_marks view marks (rank + 1) numbers) shown
    (subst (λ r. Stands (shared_mark view r (finite.get marks n)) shown) same
    (subst (λ m. Stands (shared_mark view (rank + 0) (finite.get marks m)) shown) (sym (same_Some n number is)) has))
number-in view marks rank (n ∷ numbers) (suc at) number shown is has =
    let same : rank + suc at ≡ rank + 1 + at = omega arith in
    stands_right (shared_mark view rank (finite.get marks n)) (shared_marks view marks (rank + 1) numbers) shown
    (number-in view marks (rank + 1) numbers at number shown is
    (subst (λ r. Stands (shared_mark view r (finite.get marks number)) shown) same has))

pub shared-out : (view : MarkView) (marks : Marks) (rank : ℕ) (numbers : List ℕ) (shown : Shown) →
    Stands (shared_marks view marks rank numbers) shown → (at : ℕ) × IsShared view marks numbers at shown rank
shared-out view marks rank numbers shown has =
    let out = number-out view marks rank numbers shown has in
    let one = one-out view (rank + out.0) (finite.get marks out.1) shown out.3 in (
      out.0,
      record {
        number = out.1;
        stands = one.0;
        numbered = out.2;
        has = one.1;
        here = one.2;
        above = one.3;
        below = one.4;
        ranked = one.5;
      },
    )

-- tests of the order
pub not_before_bound : (shown bound : Shown) → earlier shown bound ≡ false → bound.place ≤ shown.place
not_before_bound shown bound is = grind (arith, nat_tests)

pub before_bound : (shown bound : Shown) → earlier shown bound ≡ true → shown.place ≤ bound.place
before_bound shown bound is = grind (arith, nat_tests)

pub earlier_place : (shown other : Shown) → shown.place < other.place → earlier shown other ≡ true
earlier_place shown other less = grind (arith, nat_tests)

pub by_rank : (shown other : Shown) → shown.place ≡ other.place → earlier shown other ≡ nat_lt shown.rank other.rank
by_rank shown other same = grind (arith, nat_tests)

behind_place : (shown other : Shown) → other.place < shown.place → earlier shown other ≡ false
behind_place shown other behind = grind (arith, nat_tests)

one_place : (shown other : Shown) → shown.place ≡ other.place → other.rank ≤ shown.rank → earlier shown other ≡ false
one_place shown other same low = grind (arith, nat_tests)

at_bound : (offset rank : ℕ) (bound : Shown) → offset ≡ bound.place →
    earlier (record { place = offset; rank = 2 + rank }) bound ≡ nat_lt rank (bound.rank - 2)
at_bound offset rank bound same = grind (arith, nat_tests)

behind_bound : (offset rank : ℕ) (bound : Shown) → bound.place < offset →
    earlier (record { place = offset; rank = 2 + rank }) bound ≡ nat_lt rank 0
behind_bound offset rank bound behind = grind (arith, nat_tests)

ahead_of_bound : (offset rank len : ℕ) (bound : Shown) → offset < bound.place → rank < len →
    earlier (record { place = offset; rank = 2 + rank }) bound ≡ nat_lt rank len
ahead_of_bound offset rank len bound ahead within = grind (arith, nat_tests)

module _ (view : MarkView) (marks : Marks) (numbers : List ℕ) (bound : Shown) where
  -- no shared mark that isn't before the bound stands before an offset
  pub Passed : ℕ → Type 0
  Passed offset = (at : ℕ) (shown : Shown) → slice_get (shared_marks view marks 2 numbers) at ≡ Some shown →
      earlier shown bound ≡ false → offset ≤ shown.place

  -- at an offset, the marks from a place of the table on aren't before the bound
  pub Turns : ℕ → ℕ → Type 0
  Turns offset from = (rank : ℕ) → earlier (record { place = offset; rank = 2 + rank }) bound ≡ nat_lt rank from

  -- a shared mark at an offset is one that the store tells of there
  told : (offset : ℕ) (shown : Shown) → Stands (shared_marks view marks 2 numbers) shown → shown.place ≡ offset →
      (place : ℕ) × IsAt (marks_at offset marks) numbers place × (shown.rank ≡ 2 + place)
  told offset shown has here =
      let one = shared-out view marks 2 numbers shown has in
      let s = one.1 in
      let at = mark_told_at offset marks s.number s.stands s.has (s.here ∙ here) in
      (one.0, (at.0, record { 0 = s.number }, at.1, s.numbered), s.ranked)

  -- and the other way round
  there : (offset place : ℕ) → IsAt (marks_at offset marks) numbers place → view.start ≤ offset → offset ≤ view.end →
      Stands (shared_marks view marks 2 numbers) (record { place = offset; rank = 2 + place })
  there offset place (index, number, is, numbered) above below =
      let one = place_of_mark_at offset marks number (index, is) in
      let here = one.2 in
      number-in view marks 2 numbers place number.0 (record { place = offset; rank = 2 + place }) numbered
      (subst (λ xs. Stands xs (record { place = offset; rank = 2 + place })) (sym (ap (shared_mark view (2 + place)) one.1
      ∙ one_shared view (2 + place) one.0 (omega arith) (omega arith)))
      (0, ap (λ o. Some (record { place = o; rank = 2 + place })) here))

  pub Passed-start : Passed (max bound.place view.start)
  unfolding Passed
  Passed-start = λ at shown is behind.
      let low = not_before_bound shown bound behind in
      let one = (shared-out view marks 2 numbers shown (at, is)).1 in
      let above = one.above in
      omega arith

  pub Turns-bound : (offset : ℕ) → offset ≡ bound.place → Turns offset (bound.rank - 2)
  unfolding Turns
  Turns-bound offset same = λ rank. at_bound offset rank bound same

  pub Turns-next : (offset : ℕ) → bound.place < offset → Turns offset 0
  unfolding Turns
  Turns-next offset behind = λ rank. behind_bound offset rank bound behind

  pub IsFirst-found : (offset from place : ℕ) → Passed offset → Turns offset from → view.start ≤ offset →
      offset ≤ view.end → IsFirstAt (marks_at offset marks) numbers from (Some place)
      → IsFirst (shared_marks view marks 2 numbers) bound (Some (record { place = offset; rank = 2 + place }))
  unfolding Passed Turns
  IsFirst-found offset from place passed turns above below found = (
    there offset place found.1 above below,
    turns place ∙ le-ltb place from found.0,
    λ at shown is behind.
        let low = passed at shown is behind in
        elim (cases_eq shown.place offset) [
          | inl here ↦
              let one = told offset shown (at, is) here in
              let ranked = one.2 in
              let turn = sym (turns one.0)
              ∙ ap (λ (s : Shown). earlier s bound) (λ i. record { place = sym here i; rank = sym ranked i })
              ∙ behind in
              let least = found.2 one.0 (ltb-false one.0 from turn) one.1 in
              one_place shown (record { place = offset; rank = 2 + place }) here (omega arith)
          | inr other ↦ behind_place shown (record { place = offset; rank = 2 + place }) (omega arith)
        ],
  )

  pub Passed-more : (offset from : ℕ) → Passed offset → Turns offset from →
      IsFirstAt (marks_at offset marks) numbers from None → Passed (offset + 1)
  unfolding Passed Turns
  Passed-more offset from passed turns none = λ at shown is behind.
      let low = passed at shown is behind in
      let other : shown.place ≢ offset = λ here.
      let one = told offset shown (at, is) here in
      let ranked = one.2 in
      let turn = sym (turns one.0) ∙ ap (λ (s : Shown). earlier s bound) (λ i.
      record { place = sym here i; rank = sym ranked i }) ∙ behind in
      none one.0 (ltb-false one.0 from turn) one.1 in
      omega arith

  pub IsFirst-none : (offset : ℕ) → Passed offset → view.end < offset →
      IsFirst (shared_marks view marks 2 numbers) bound None
  unfolding Passed
  IsFirst-none offset passed past = λ at shown is. true_from_ne_false (earlier shown bound) (λ behind.
      let low = passed at shown is behind in
      let one = (shared-out view marks 2 numbers shown (at, is)).1 in
      let below = one.below in
      omega arith)

  reaches_next : (offset : ℕ) → Passed offset → (at : ℕ) (shown : Shown)
      → slice_get (shared_marks view marks 2 numbers) at ≡ Some shown → earlier shown bound ≡ false
      → (next : ℕ) × (next_mark offset marks ≡ Some next) × (next ≤ shown.place)
  unfolding Passed
  reaches_next offset passed at shown stands behind =
      let one = (shared-out view marks 2 numbers shown (at, stands)).1 in
      let here = one.here in
      let low = passed at shown stands behind in
      let next = next_mark-least offset marks one.number one.stands one.has (omega arith) in
      let near = next.2 in
      (next.0, next.1, omega arith)

  pub Passed-next : (offset next : ℕ) → Passed offset → next_mark offset marks ≡ Some next → Passed next
  unfolding Passed
  Passed-next offset next passed is = λ at shown stands behind.
      let least = reaches_next offset passed at shown stands behind in
      let same = same_Some next least.0 (sym is ∙ least.1) in
      let near = least.2 in
      omega arith

  pub IsFirst-no_next : (offset : ℕ) → Passed offset → next_mark offset marks ≡ None →
      IsFirst (shared_marks view marks 2 numbers) bound None
  unfolding Passed
  IsFirst-no_next offset passed is = λ at shown stands. true_from_ne_false (earlier shown bound) (λ behind.
      let least = reaches_next offset passed at shown stands behind in
      none-some least.0 (sym is ∙ least.1))

  -- no shared mark that is before the bound stands behind an offset
  pub Ahead : ℕ → Type 0
  Ahead offset = (at : ℕ) (shown : Shown) → slice_get (shared_marks view marks 2 numbers) at ≡ Some shown →
      earlier shown bound ≡ true → shown.place ≤ offset

  -- at an offset, the marks before a place of the table are before the bound
  pub TurnsBack : ℕ → ℕ → Type 0
  TurnsBack offset upto =
      (rank : ℕ) → rank < length numbers → earlier (record { place = offset; rank = 2 + rank }) bound ≡ nat_lt rank upto

  pub Ahead-start : Ahead (min bound.place view.end)
  unfolding Ahead
  Ahead-start = λ at shown is ahead.
      let low = before_bound shown bound ahead in
      let one = (shared-out view marks 2 numbers shown (at, is)).1 in
      let below = one.below in
      omega arith

  pub TurnsBack-bound : (offset : ℕ) → offset ≡ bound.place → TurnsBack offset (bound.rank - 2)
  unfolding TurnsBack
  TurnsBack-bound offset same = λ rank within. at_bound offset rank bound same

  pub TurnsBack-previous : (offset len : ℕ) → length numbers ≡ len → offset < bound.place → TurnsBack offset len
  unfolding TurnsBack
  TurnsBack-previous offset len count ahead = λ rank within. ahead_of_bound offset rank len bound ahead (omega arith)

  pub IsLast-found : (offset upto place : ℕ) → Ahead offset → TurnsBack offset upto → view.start ≤ offset →
      offset ≤ view.end → IsLastAt (marks_at offset marks) numbers upto (Some place)
      → IsLast (shared_marks view marks 2 numbers) bound (Some (record { place = offset; rank = 2 + place }))
  unfolding Ahead TurnsBack
  IsLast-found offset upto place ahead turns above below found = (
    there offset place found.1 above below,
    turns place (slice_get_within numbers place _ found.1.3) ∙ lt-ltb place upto found.0,
    λ at shown is before.
        let low = ahead at shown is before in
        elim (cases_eq shown.place offset) [
          | inl here ↦
              let one = told offset shown (at, is) here in
              let ranked = one.2 in
              let turn = sym (turns one.0 (slice_get_within numbers one.0 _ one.1.3))
              ∙ ap (λ (s : Shown). earlier s bound) (λ i. record { place = sym here i; rank = sym ranked i })
              ∙ before in
              let greatest = found.2 one.0 (ltb-true one.0 upto turn) one.1 in
              one_place (record { place = offset; rank = 2 + place }) shown (sym here) (omega arith)
          | inr other ↦ behind_place (record { place = offset; rank = 2 + place }) shown (omega arith)
        ],
  )

  not_at : (offset upto : ℕ) → TurnsBack offset upto → IsLastAt (marks_at offset marks) numbers upto None →
      (at : ℕ) (shown : Shown) → slice_get (shared_marks view marks 2 numbers) at ≡ Some shown →
      earlier shown bound ≡ true → shown.place ≢ offset
  unfolding TurnsBack
  not_at offset upto turns none at shown is before here =
      let one = told offset shown (at, is) here in
      let ranked = one.2 in
      let turn = sym (turns one.0 (slice_get_within numbers one.0 _ one.1.3))
      ∙ ap (λ (s : Shown). earlier s bound) (λ i. record { place = sym here i; rank = sym ranked i }) ∙ before in
      none one.0 (ltb-true one.0 upto turn) one.1

  reaches_previous : (offset upto : ℕ) → Ahead offset → TurnsBack offset upto →
      IsLastAt (marks_at offset marks) numbers upto None → (at : ℕ) (shown : Shown)
      → slice_get (shared_marks view marks 2 numbers) at ≡ Some shown → earlier shown bound ≡ true
      → (previous : ℕ) × (previous_mark offset marks ≡ Some previous) × (shown.place ≤ previous)
  unfolding Ahead
  reaches_previous offset upto ahead turns none at shown stands before =
      let one = (shared-out view marks 2 numbers shown (at, stands)).1 in
      let here = one.here in
      let low = ahead at shown stands before in
      let other = not_at offset upto turns none at shown stands before in
      let previous = previous_mark-greatest offset marks one.number one.stands one.has (omega arith) in
      let near = previous.2 in
      (previous.0, previous.1, omega arith)

  pub Ahead-previous : (offset upto previous : ℕ) → Ahead offset → TurnsBack offset upto →
      IsLastAt (marks_at offset marks) numbers upto None → previous_mark offset marks ≡ Some previous → Ahead previous
  unfolding Ahead
  Ahead-previous offset upto previous ahead turns none is = λ at shown stands before.
      let greatest = reaches_previous offset upto ahead turns none at shown stands before in
      let same = same_Some previous greatest.0 (sym is ∙ greatest.1) in
      let near = greatest.2 in
      omega arith

  pub IsLast-no_previous : (offset upto : ℕ) → Ahead offset → TurnsBack offset upto →
      IsLastAt (marks_at offset marks) numbers upto None → previous_mark offset marks ≡ None →
      IsLast (shared_marks view marks 2 numbers) bound None
  unfolding Ahead
  IsLast-no_previous offset upto ahead turns none is = λ at shown stands. false_from_ne_true (earlier shown bound) (λ before.
      let greatest = reaches_previous offset upto ahead turns none at shown stands before in
      none-some greatest.0 (sym is ∙ greatest.1))

  pub IsLast-none : (offset : ℕ) → Ahead offset → offset < view.start →
      IsLast (shared_marks view marks 2 numbers) bound None
  unfolding Ahead
  IsLast-none offset ahead past = λ at shown is. false_from_ne_true (earlier shown bound) (λ before.
      let low = ahead at shown is before in
      let one = (shared-out view marks 2 numbers shown (at, is)).1 in
      let above = one.above in
      omega arith)
