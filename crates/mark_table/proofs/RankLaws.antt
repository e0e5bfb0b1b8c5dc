-- The marks that a widget can use, by their ranks.
use Rattle.mark_table.proofs.Common.{◌≡◌, ℕ, zero, suc, ◌+◌, ◌*◌, ◌<◌, ◌≤◌, true, false, Option, None, Some, List, []}
use Rattle.mark_table.proofs.Common.{◌∷◌, ◌++◌, slice_get, refl, sym, ap, ◌∙◌, subst, inl, inr, arith, find, length}
use Rattle.mark_table.proofs.Common.{cond, Bool, ◌==◌, ◌&&◌, if◌then◌else◌, eq-eqb, ne_eqb, nat_le, nat_tests}
use Rattle.mark_table.proofs.Common.{none-some, same_Some, slice_get_within, option_map_or, option_to_list, Place}
use Rattle.mark_table.proofs.Common.{Marks, Stands, MarkView, Shown, own_mark, shared_mark, shared_marks, usable}
use Rattle.mark_table.proofs.Common.{shown_mark, IsFirst, IsLast, first_of, last_of, shared_at, own_place, cases_Bool}
use Rattle.mark_table.specs.declared.order.WidgetMark.TheVariants.{Insert, Current, Shared}
use Rattle.mark_table.proofs.OrderLaws.{IsFirst-join, IsLast-join}
use Rattle.mark_table.proofs.SharedWalk.{stands_left, stands_right, stands_either, number-out, number-in, one-out}
use Rattle.std.specs.FinMap as finite

-- ---- ranks rise

abbrev pub IsRising : ℕ → List Shown → Type 0
IsRising rank [] = Unit {0}
IsRising rank (x ∷ xs) = (rank ≤ x.rank) × IsRising (suc x.rank) xs

pub rising_above : (rank : ℕ) (xs : List Shown) (y : Shown) → IsRising rank xs → Stands xs y → rank ≤ y.rank
rising_above rank [] y rising has = absurd (none-some y has.1)
rising_above rank (x ∷ xs) y rising (zero, is) = subst (λ (z : Shown). rank ≤ z.rank) (same_Some x y is) rising.0
rising_above rank (x ∷ xs) y rising (suc at, is) =
    omega (arith, rising_above (suc x.rank) xs y rising.1 (at, is), rising.0)

rising_less : (low rank : ℕ) (xs : List Shown) → low ≤ rank → IsRising rank xs → IsRising low xs
rising_less low rank [] within rising = tt
rising_less low rank (x ∷ xs) within rising = (omega (arith, rising.0), rising.1)

-- each rank is that of one mark at most
pub find_rank : (rank : ℕ) (xs : List Shown) (mark : Shown) → IsRising rank xs → Stands xs mark →
    find (λ (shown : Shown). shown.rank == mark.rank) xs ≡ Some mark
find_rank rank [] mark rising has = absurd (none-some mark has.1)
find_rank rank (x ∷ xs) mark rising (zero, is) =
    let same = same_Some x mark is in
    ap (λ b. cond b (Some x) (find (λ (shown : Shown). shown.rank == mark.rank) xs))
    (eq-eqb x.rank mark.rank (ap (λ (s : Shown). s.rank) same)) ∙ ap (λ s. Some s) same
find_rank rank (x ∷ xs) mark rising (suc at, is) =
    let above = rising_above (suc x.rank) xs mark rising.1 (at, is) in
    ap (λ b. cond b (Some x) (find (λ (shown : Shown). shown.rank == mark.rank) xs))
    (ne_eqb x.rank mark.rank (λ same. omega arith)) ∙ find_rank (suc x.rank) xs mark rising.1 (at, is)

rising_own : (view : MarkView) (rank : ℕ) (place : Option Place) (rest : List Shown) → IsRising (suc rank) rest →
    IsRising rank (own_mark view rank place ++ rest)
rising_own view rank None rest rising = rising_less rank (suc rank) rest (omega arith) rising
rising_own view rank (Some place) rest rising = (omega arith, rising)

rising_shared : (view : MarkView) (rank : ℕ) (place : Option Place) (rest : List Shown) → IsRising (rank + 1) rest →
    IsRising rank (shared_mark view rank place ++ rest)
rising_shared view rank None rest rising = rising_less rank (rank + 1) rest (omega arith) rising
rising_shared view rank (Some place) rest rising =
    elim (nat_le view.start place.offset && nat_le place.offset view.end) as
    (λ b. IsRising rank ((if b then record { place = place.offset; rank = rank } ∷ [] else []) ++ rest)) [
      | true ↦ (omega arith, rising_less (suc rank) (rank + 1) rest (omega arith) rising)
      | false ↦ rising_less rank (rank + 1) rest (omega arith) rising
    ]

rising_all : (view : MarkView) (marks : Marks) (rank : ℕ) (numbers : List ℕ) →
    IsRising rank (shared_marks view marks rank numbers)
rising_all view marks rank [] = tt
rising_all view marks rank (number ∷ numbers) =
    rising_shared view rank (finite.get marks number) (shared_marks view marks (rank + 1) numbers)
    (rising_all view marks (rank + 1) numbers)

-- ---- which mark has a rank

pub own_out : (view : MarkView) (rank : ℕ) (found : Option Place) (shown : Shown) →
    Stands (own_mark view rank found) shown → (place : Place) × (found ≡ Some place)
    × (own_place view place.offset ≡ shown.place) × (shown.rank ≡ rank)
own_out view rank None shown has = absurd (none-some shown has.1)
own_out view rank (Some place) shown (zero, is) =
    let same = same_Some (record { place = own_place view place.offset; rank = rank }) shown is in
    (place, refl, ap (λ (s : Shown). s.place) same, ap (λ (s : Shown). s.rank) (sym same))
own_out view rank (Some place) shown (suc at, is) = absurd (none-some shown is)

own_within : (view : MarkView) (offset : ℕ) → view.start ≤ view.end →
    (view.start ≤ own_place view offset) × (own_place view offset ≤ view.end)
own_within view offset ordered = (grind (arith, nat_tests), grind (arith, nat_tests))

find_none : (test : Shown → Bool) (marks : List Shown) → ((other : Shown) → Stands marks other → test other ≡ false) →
    find test marks ≡ None
find_none test [] none = refl
find_none test (x ∷ marks) none = ap (λ b. cond b (Some x) (find test marks)) (none x (0, refl))
    ∙ find_none test marks (λ other there. none other (suc there.0, there.1))

is_rank : (shown : Shown) (rank : ℕ) → (shown.rank == rank) ≡ true → shown.rank ≡ rank
is_rank shown rank same = grind (arith, nat_tests)

module _ (view : MarkView) (marks : Marks) (numbers : List ℕ) where
  abbrev inserts : List Shown
  inserts = own_mark view 0 (finite.get marks (2 * view.widget.0))

  abbrev currents : List Shown
  currents = own_mark view 1 (finite.get marks (2 * view.widget.0 + 1))

  abbrev shareds : List Shown
  shareds = shared_marks view marks 2 numbers

  pub usable_rising : IsRising 0 (usable view marks numbers)
  usable_rising = rising_own view 0 (finite.get marks (2 * view.widget.0)) (currents ++ shareds)
      (rising_own view 1 (finite.get marks (2 * view.widget.0 + 1)) shareds (rising_all view marks 2 numbers))

  -- the mark of a rank, if it can be used, as a list
  abbrev pub of_rank : ℕ → List Shown
  of_rank zero = inserts
  of_rank (suc zero) = currents
  of_rank (suc (suc place)) = shared_at view marks numbers place

  shared_at_is : (place number : ℕ) → slice_get numbers place ≡ Some number →
      shared_at view marks numbers place ≡ shared_mark view (2 + place) (finite.get marks number)
  shared_at_is place number is =
      ap (λ o. option_map_or (λ n. shared_mark view (2 + place) (finite.get marks n)) o []) is

  pub shared_at-out : (place : ℕ) (s : Shown) → Stands (shared_at view marks numbers place) s →
      (number : ℕ) × (slice_get numbers place ≡ Some number)
      × Stands (shared_mark view (2 + place) (finite.get marks number)) s
  shared_at-out place s has = by (slice_get numbers place) refl
    where
      by : (o : Option ℕ) → slice_get numbers place ≡ o → (number : ℕ) × (slice_get numbers place ≡ Some number)
          × Stands (shared_mark view (2 + place) (finite.get marks number)) s
      by None is = absurd
          (none-some s
          (sym (ap (λ o. slice_get (option_map_or (λ n. shared_mark view (2 + place) (finite.get marks n)) o []) has.0)
          is) ∙ has.1))
      by (Some number) is = (number, is, subst (λ xs. Stands xs s) (shared_at_is place number is) has)

  -- each mark that can be used is that of its rank
  pub usable_out : (s : Shown) → Stands (usable view marks numbers) s → Stands (of_rank s.rank) s
  usable_out s has =
      elim (stands_either inserts (currents ++ shareds) s has) [
        | inl own ↦ let out = own_out view 0 _ s own in subst (λ r. Stands (of_rank r) s) (sym out.3) own
        | inr rest ↦ elim (stands_either currents shareds s rest) [
          | inl own ↦ let out = own_out view 1 _ s own in subst (λ r. Stands (of_rank r) s) (sym out.3) own
          | inr shared ↦
              let out = number-out view marks 2 numbers s shared in
              let ranked = (one-out view (2 + out.0) (finite.get marks out.1) s out.3).5 in
              let rank : suc (suc out.0) ≡ s.rank = omega arith in
              subst (λ r. Stands (of_rank r) s) rank
              (subst (λ xs. Stands xs s) (sym (shared_at_is out.0 out.1 out.2)) out.3)
        ]
      ]

  -- and the other way round
  usable_in : (rank : ℕ) (s : Shown) → Stands (of_rank rank) s → Stands (usable view marks numbers) s × (s.rank ≡ rank)
  usable_in zero s has = (stands_left inserts (currents ++ shareds) s has, (own_out view 0 _ s has).3)
  usable_in (suc zero) s has = (
    stands_right inserts (currents ++ shareds) s (stands_left currents shareds s has),
    (own_out view 1 _ s has).3,
  )
  usable_in (suc (suc place)) s has =
      let at = shared_at-out place s has in
      let ranked = (one-out view (2 + place) (finite.get marks at.0) s at.2).5 in (
        stands_right inserts (currents ++ shareds) s
            (stands_right currents shareds s (number-in view marks 2 numbers place at.0 s at.1 at.2)),
        omega arith,
      )

  -- where it is
  pub usable_within : (s : Shown) → view.start ≤ view.end → Stands (usable view marks numbers) s →
      (view.start ≤ s.place) × (s.place ≤ view.end) × (s.rank < 2 + length numbers)
  usable_within s ordered has = by s.rank (usable_out s has)
    where
      own : (rank : ℕ) (found : Option Place) → Stands (own_mark view rank found) s →
          (view.start ≤ s.place) × (s.place ≤ view.end)
      own rank found stands = let out = own_out view rank found s stands in
          subst (λ n. (view.start ≤ n) × (n ≤ view.end)) out.2 (own_within view out.0.offset ordered)

      by : (rank : ℕ) → Stands (of_rank rank) s →
          (view.start ≤ s.place) × (s.place ≤ view.end) × (rank < 2 + length numbers)
      by zero stands = let bounds = own 0 _ stands in (bounds.0, bounds.1, omega arith)
      by (suc zero) stands = let bounds = own 1 _ stands in (bounds.0, bounds.1, omega arith)
      by (suc (suc place)) stands =
          let at = shared_at-out place s stands in
          let one = one-out view (2 + place) (finite.get marks at.0) s at.2 in
          let within = slice_get_within numbers place at.0 at.1 in
          (one.3, one.4, omega arith)

  shown_is : (rank : ℕ) (found : Option Shown) → option_to_list found ≡ of_rank rank →
      found ≡ find (λ (s : Shown). s.rank == rank) (usable view marks numbers)
  shown_is rank None none = sym (find_none (λ (s : Shown). s.rank == rank) (usable view marks numbers) (λ s has.
      elim (cases_Bool (s.rank == rank)) [
        | inl same ↦
            let own = subst (λ r. Stands (of_rank r) s) (is_rank s rank same) (usable_out s has) in
            absurd (none-some s (ap (λ xs. slice_get xs own.0) none ∙ own.1))
        | inr other ↦ other
      ]))
  shown_is rank (Some mark) is =
      let own = usable_in rank mark (0, ap (λ xs. slice_get xs 0) (sym is)) in
      sym (subst (λ r. find (λ (s : Shown). s.rank == r) (usable view marks numbers) ≡ Some mark) own.1
      (find_rank 0 (usable view marks numbers) mark usable_rising own.0))

  own_is : own_mark view 0 (finite.get marks (2 * view.widget.0 + 0)) ≡ inserts
  own_is =
      let same : 2 * view.widget.0 + 0 ≡ 2 * view.widget.0 = omega arith in
      ap (λ n. own_mark view 0 (finite.get marks n)) same

  pub shown_insert : (found : Option Shown) → option_to_list found
      ≡ own_mark view 0 (finite.get marks (2 * view.widget.0 + 0)) →
      found ≡ shown_mark Insert (usable view marks numbers)
  shown_insert found is = shown_is 0 found (is ∙ own_is)

  pub shown_current : (found : Option Shown) → option_to_list found
      ≡ own_mark view 1 (finite.get marks (2 * view.widget.0 + 1)) →
      found ≡ shown_mark Current (usable view marks numbers)
  shown_current found is = shown_is 1 found is

  pub shown_shared : (place : ℕ) (found : Option Shown) → option_to_list found ≡ shared_at view marks numbers place →
      found ≡ shown_mark (Shared place) (usable view marks numbers)
  shown_shared place found is =
      let rank : suc (suc place) ≡ 2 + place = omega arith in
      shown_is (suc (suc place)) found is ∙ ap (λ r. find (λ (s : Shown). s.rank == r) (usable view marks numbers)) rank

  -- the three parts together
  pub IsFirst-usable : (bound : Shown) (own other : Option Shown) (insert current shared : Option Shown) →
      option_to_list own ≡ own_mark view 0 (finite.get marks (2 * view.widget.0 + 0)) →
      option_to_list other ≡ own_mark view 1 (finite.get marks (2 * view.widget.0 + 1))
      → IsFirst (option_to_list own) bound insert → IsFirst (option_to_list other) bound current →
      IsFirst (shared_marks view marks 2 numbers) bound shared →
      IsFirst (usable view marks numbers) bound (first_of insert (first_of current shared))
  IsFirst-usable bound own other insert current shared one two first second third =
      IsFirst-join inserts (currents ++ shareds) bound insert (first_of current shared)
      (subst (λ xs. IsFirst xs bound insert) (one ∙ own_is) first)
      (IsFirst-join currents shareds bound current shared (subst (λ xs. IsFirst xs bound current) two second) third)

  pub IsLast-usable : (bound : Shown) (own other : Option Shown) (insert current shared : Option Shown) →
      option_to_list own ≡ own_mark view 0 (finite.get marks (2 * view.widget.0 + 0)) →
      option_to_list other ≡ own_mark view 1 (finite.get marks (2 * view.widget.0 + 1))
      → IsLast (option_to_list own) bound insert → IsLast (option_to_list other) bound current →
      IsLast (shared_marks view marks 2 numbers) bound shared →
      IsLast (usable view marks numbers) bound (last_of insert (last_of current shared))
  IsLast-usable bound own other insert current shared one two first second third =
      IsLast-join inserts (currents ++ shareds) bound insert (last_of current shared)
      (subst (λ xs. IsLast xs bound insert) (one ∙ own_is) first)
      (IsLast-join currents shareds bound current shared (subst (λ xs. IsLast xs bound current) two second) third)
