-- The first and the last of marks, by their order.
use Rattle.mark_table.proofs.Common.{◌≡◌, ◌≢◌, ℕ, suc, ◌+◌, Bool, true, false, not, nat_lt, nat_le, ◌⊎◌, if◌then◌else◌}
use Rattle.mark_table.proofs.Common.{Option, None, Some, List, [], ◌∷◌, ◌++◌, slice_get, refl, sym, ap, ◌∙◌, subst, inl}
use Rattle.mark_table.proofs.Common.{inr, arith, true≢false, filter, reduce, fold, MatchOption, nat_tests, none-some}
use Rattle.mark_table.proofs.Common.{Stands, Shown, earlier, first, last, shown_mark, next_shown, previous_shown}
use Rattle.mark_table.proofs.Common.{IsFirst, IsLast, first_of, last_of, cases_Bool, Origin}
use Rattle.std.specs.Option.{option_and_then}
use Rattle.mark_table.specs.declared.order.Origin.TheVariants.{Mark, Place as Offset}
use Rattle.mark_table.specs.declared.order.WidgetMark.{WidgetMark}
use Rattle.mark_table.proofs.SharedWalk.{stands_left, stands_right, stands_either, stands_first}
use Rattle.mark_table.proofs.StoreLaws.{was_kept, kept_entry}

-- the order
asym : (a b : Shown) → earlier a b ≡ true → earlier b a ≡ false
asym a b is = grind (arith, nat_tests)

along : (a b c : Shown) → earlier a b ≡ false → earlier b c ≡ false → earlier a c ≡ false
along a b c one two = grind (arith, nat_tests)

pub in-turn : (a b c : Shown) → earlier a b ≡ true → earlier b c ≡ true → earlier a c ≡ true
in-turn a b c one two = grind (arith, nat_tests)

places_same : (a b : Shown) → earlier a b ≡ false → earlier b a ≡ false → a.place ≡ b.place
places_same a b one two = grind (arith, nat_tests)

ranks_same : (a b : Shown) → earlier a b ≡ false → earlier b a ≡ false → a.rank ≡ b.rank
ranks_same a b one two = grind (arith, nat_tests)

same_shown : (a b : Shown) → a.place ≡ b.place → a.rank ≡ b.rank → a ≡ b
same_shown a b place rank = λ i. record { place = place i; rank = rank i }

-- an order in which one of two marks that differ is before the other
record IsOrder (lt : Shown → Shown → Bool) : Type 0 where
  asym : (a b : Shown) → lt a b ≡ true → lt b a ≡ false
  along : (a b c : Shown) → lt a b ≡ false → lt b c ≡ false → lt a c ≡ false
  same : (a b : Shown) → lt a b ≡ false → lt b a ≡ false → a ≡ b

IsOrder-earlier : IsOrder earlier
IsOrder-earlier = record {
  asym = asym;
  along = along;
  same = λ a b one two. same_shown a b (places_same a b one two) (ranks_same a b one two);
}

abbrev later : Shown → Shown → Bool
later a b = earlier b a

IsOrder-later : IsOrder later
IsOrder-later = record {
  asym = λ a b is. asym b a is;
  along = λ a b c one two. along c b a two one;
  same = λ a b one two. same_shown a b (places_same a b two one) (ranks_same a b two one);
}

-- the best of the marks for which a test has a value
abbrev pub IsBest : (Shown → Shown → Bool) → (Shown → Bool) → Bool → List Shown → Option Shown → Type 0
IsBest lt test value marks found =
    MatchOption found ((at : ℕ) (shown : Shown) → slice_get marks at ≡ Some shown → test shown ≡ not value)
    (λ best. Stands marks best × (test best ≡ value)
    × ((at : ℕ) (shown : Shown) → slice_get marks at ≡ Some shown → test shown ≡ value → lt shown best ≡ false))

apart : (value : Bool) → value ≡ not value → ⊥
apart true is = true≢false is
apart false is = true≢false (sym is)

-- whether a test has a value
abbrev has_value : Bool → Bool → Bool
has_value value test = if value then test else not test

value_had : (value test : Bool) → has_value value test ≡ true → test ≡ value
value_had true test is = is
value_had false false is = refl
value_had false true is = absurd (true≢false (sym is))

value_missed : (value test : Bool) → has_value value test ≡ false → test ≡ not value
value_missed true test is = is
value_missed false true is = refl
value_missed false false is = absurd (true≢false is)

value_is : (value test : Bool) → test ≡ value → has_value value test ≡ true
value_is true test is = is
value_is false test is = ap not is

module _ (lt : Shown → Shown → Bool) (order : IsOrder lt) where
  abbrev pick : Shown → Shown → Shown
  pick a b = if lt b a then b else a

  itself : (a : Shown) → lt a a ≡ false
  itself a = elim (cases_Bool (lt a a)) [ inl is ↦ order.asym a a is | inr is ↦ is ]

  -- of two marks one is picked, which neither is before
  picks : (a b : Shown) → ((pick a b ≡ a) ⊎ (pick a b ≡ b)) × (lt a (pick a b) ≡ false) × (lt b (pick a b) ≡ false)
  picks a b =
      elim (cases_Bool (lt b a)) [
        | inl less ↦
            let is : pick a b ≡ b = ap (λ t. if t then b else a) less in
            (inr is, ap (lt a) is ∙ order.asym b a less, ap (lt b) is ∙ itself b)
        | inr not_less ↦
            let is : pick a b ≡ a = ap (λ t. if t then b else a) not_less in
            (inl is, ap (lt a) is ∙ itself a, ap (lt b) is ∙ not_less)
      ]

  -- and so of some
  fold_best : (first : Shown) (rest : List Shown) → Stands (first ∷ rest) (fold pick first rest)
      × ((shown : Shown) → Stands (first ∷ rest) shown → lt shown (fold pick first rest) ≡ false)
  fold_best first [] = (
    (0, refl),
    λ shown has. elim (stands_first first [] shown has) [
      | inl same ↦ subst (λ s. lt s first ≡ false) same (itself first)
      | inr none ↦ absurd (none-some shown none.1)
    ],
  )
  fold_best first (next ∷ rest) =
      let one = pick first next in
      let found = fold pick one rest in
      let picked = picks first next in
      let best = fold_best one rest in
      let above = best.1 one (0, refl) in (
        elim (stands_first one rest found best.0) [
          | inl same ↦ elim picked.0
              [ inl is ↦ (0, ap (λ s. Some s) (sym is ∙ same)) | inr is ↦ (1, ap (λ s. Some s) (sym is ∙ same)) ]
          | inr later ↦ (suc (suc later.0), later.1)
        ],
        λ shown has. elim (stands_first first (next ∷ rest) shown has) [
          | inl is ↦ subst (λ s. lt s found ≡ false) is (order.along first one found picked.1 above)
          | inr others ↦ elim (stands_first next rest shown others) [
            | inl is ↦ subst (λ s. lt s found ≡ false) is (order.along next one found picked.2 above)
            | inr later ↦ best.1 shown (suc later.0, later.1)
          ]
        ],
      )

  module _ (test : Shown → Bool) (value : Bool) where
    one_best : (marks : List Shown) (one other : Option Shown) → IsBest lt test value marks one →
        IsBest lt test value marks other → one ≡ other
    one_best marks None None none also = refl
    one_best marks None (Some b) none best = absurd (apart value (sym best.1 ∙ none best.0.0 b best.0.1))
    one_best marks (Some a) None best none = absurd (apart value (sym best.1 ∙ none best.0.0 a best.0.1))
    one_best marks (Some a) (Some b) one other = ap (λ s. Some s)
        (order.same a b (other.2 one.0.0 a one.0.1 one.1) (one.2 other.0.0 b other.0.1 other.1))

    -- what is picked of the marks that are kept is the best, and the other way round
    best_is : (keep : Shown → Bool) → ((shown : Shown) → keep shown ≡ has_value value (test shown)) →
        (marks : List Shown) → IsBest lt test value marks (reduce pick (filter keep marks))
    best_is keep says marks = by (filter keep marks) refl
      where
        by : (kept : List Shown) → filter keep marks ≡ kept → IsBest lt test value marks (reduce pick kept)
        by [] none = λ at shown is. elim (cases_Bool (keep shown)) [
          | inl passes ↦
              let has = kept_entry keep marks shown (at, is) passes in
              absurd (none-some shown (sym (ap (λ xs. slice_get xs has.0) none) ∙ has.1))
          | inr fails ↦ value_missed value (test shown) (sym (says shown) ∙ fails)
        ]
        by (x ∷ xs) is =
            let best = fold_best x xs in
            let found = fold pick x xs in
            let was = was_kept keep marks found (subst (λ ys. Stands ys found) (sym is) best.0) in (
              was.0,
              value_had value (test found) (sym (says found) ∙ was.1),
              λ at shown here had. best.1 shown (subst (λ ys. Stands ys shown) is
                  (kept_entry keep marks shown (at, here) (says shown ∙ value_is value (test shown) had))),
            )

    is_best : (keep : Shown → Bool) → ((shown : Shown) → keep shown ≡ has_value value (test shown)) →
        (marks : List Shown) (found : Option Shown) → IsBest lt test value marks found →
        reduce pick (filter keep marks) ≡ found
    is_best keep says marks found is =
        one_best marks (reduce pick (filter keep marks)) found (best_is keep says marks) is

    abbrev best_of : Option Shown → Option Shown → Option Shown
    best_of None other = other
    best_of (Some one) None = Some one
    best_of (Some one) (Some other) = Some (pick one other)

    -- the best of two lists together
    best_join : (xs ys : List Shown) (one other : Option Shown) → IsBest lt test value xs one →
        IsBest lt test value ys other → IsBest lt test value (xs ++ ys) (best_of one other)
    best_join xs ys None None left right = λ at shown is. elim (stands_either xs ys shown (at, is))
        [ inl h ↦ left h.0 shown h.1 | inr h ↦ right h.0 shown h.1 ]
    best_join xs ys None (Some other) left right = (
      stands_right xs ys other right.0,
      right.1,
      λ at shown is had. elim (stands_either xs ys shown (at, is)) [
        | inl h ↦ absurd (apart value (sym had ∙ left h.0 shown h.1))
        | inr h ↦ right.2 h.0 shown h.1 had
      ],
    )
    best_join xs ys (Some one) None left right = (
      stands_left xs ys one left.0,
      left.1,
      λ at shown is had. elim (stands_either xs ys shown (at, is)) [
        | inl h ↦ left.2 h.0 shown h.1 had
        | inr h ↦ absurd (apart value (sym had ∙ right h.0 shown h.1))
      ],
    )
    best_join xs ys (Some one) (Some other) left right =
        let picked = picks one other in (
          elim picked.0 [
            | inl is ↦ subst (Stands (xs ++ ys)) (sym is) (stands_left xs ys one left.0)
            | inr is ↦ subst (Stands (xs ++ ys)) (sym is) (stands_right xs ys other right.0)
          ],
          elim picked.0 [ inl is ↦ ap test is ∙ left.1 | inr is ↦ ap test is ∙ right.1 ],
          λ at shown is had. elim (stands_either xs ys shown (at, is)) [
            | inl h ↦ order.along shown one (pick one other) (left.2 h.0 shown h.1 had) picked.1
            | inr h ↦ order.along shown other (pick one other) (right.2 h.0 shown h.1 had) picked.2
          ],
        )

pub not-itself : (a : Shown) → earlier a a ≡ false
not-itself a = itself earlier IsOrder-earlier a

pub IsFirst-join : (xs ys : List Shown) (bound : Shown) (one other : Option Shown) → IsFirst xs bound one →
    IsFirst ys bound other → IsFirst (xs ++ ys) bound (first_of one other)
IsFirst-join xs ys bound one other left right =
    subst (IsFirst (xs ++ ys) bound) (same one other)
    (best_join earlier IsOrder-earlier (λ shown. earlier shown bound) false xs ys one other left right)
  where
    same : (one other : Option Shown) →
        best_of earlier IsOrder-earlier (λ shown. earlier shown bound) false one other ≡ first_of one other
    same None other = refl
    same (Some one) None = refl
    same (Some one) (Some other) = refl

pub IsLast-join : (xs ys : List Shown) (bound : Shown) (one other : Option Shown) → IsLast xs bound one →
    IsLast ys bound other → IsLast (xs ++ ys) bound (last_of one other)
IsLast-join xs ys bound one other left right =
    subst (IsLast (xs ++ ys) bound) (same one other)
    (best_join later IsOrder-later (λ shown. earlier shown bound) true xs ys one other left right)
  where
    same : (one other : Option Shown) →
        best_of later IsOrder-later (λ shown. earlier shown bound) true one other ≡ last_of one other
    same None other = refl
    same (Some one) None = refl
    same (Some one) (Some other) = refl

-- the first of the marks that a test keeps
pub first_is : (keep : Shown → Bool) (marks : List Shown) (found : Option Shown) →
    first (filter keep marks) ≡ found → IsBest earlier keep true marks found
first_is keep marks found is = subst (IsBest earlier keep true marks) is
    (best_is earlier IsOrder-earlier keep true keep (λ shown. refl) marks)

-- what is next is one of the marks
pub next_stands : (origin : Origin) (marks : List Shown) (shown : Shown) → next_shown origin marks ≡ Some shown →
    Stands marks shown
next_stands (Offset place) marks shown is =
    (first_is (λ (other : Shown). nat_le place other.place) marks (Some shown) is).0
next_stands (Mark mark) marks shown is = by (shown_mark mark marks) is
  where
    by : (from : Option Shown) →
        option_and_then (λ from. first (filter (λ other. earlier from other) marks)) from ≡ Some shown →
        Stands marks shown
    by None none = absurd (none-some shown none)
    by (Some from) also = (first_is (earlier from) marks (Some shown) also).0

-- the definitions, by a bound
behind_mark : (from shown : Shown) → earlier from shown
    ≡ not (earlier shown (record { place = from.place; rank = from.rank + 1 }))
behind_mark from shown = grind (arith, nat_tests)

from_place : (place : ℕ) (shown : Shown) → nat_le place shown.place
    ≡ not (earlier shown (record { place = place; rank = 0 }))
from_place place shown = grind (arith, nat_tests)

before_place : (place : ℕ) (shown : Shown) → nat_lt shown.place place
    ≡ earlier shown (record { place = place; rank = 0 })
before_place place shown = grind (arith, nat_tests)

pub next_from_place : (marks : List Shown) (place : ℕ) (found : Option Shown) →
    IsFirst marks (record { place = place; rank = 0 }) found → next_shown (Offset place) marks ≡ found
next_from_place marks place found is =
    is_best earlier IsOrder-earlier (λ shown. earlier shown (record { place = place; rank = 0 })) false
    (λ (shown : Shown). nat_le place shown.place) (from_place place) marks found is

pub next_from_mark : (marks : List Shown) (mark : WidgetMark) (from : Shown) (found : Option Shown) →
    shown_mark mark marks ≡ Some from → IsFirst marks (record { place = from.place; rank = from.rank + 1 }) found →
    next_shown (Mark mark) marks ≡ found
next_from_mark marks mark from found at is =
    ap (option_and_then (λ from. first (filter (λ shown. earlier from shown) marks))) at
    ∙ is_best earlier IsOrder-earlier (λ shown. earlier shown (record { place = from.place; rank = from.rank + 1 })) false
    (earlier from) (behind_mark from) marks found is

pub previous_from_place : (marks : List Shown) (place : ℕ) (found : Option Shown) →
    IsLast marks (record { place = place; rank = 0 }) found → previous_shown (Offset place) marks ≡ found
previous_from_place marks place found is =
    is_best later IsOrder-later (λ shown. earlier shown (record { place = place; rank = 0 })) true
    (λ (shown : Shown). nat_lt shown.place place) (before_place place) marks found is

pub previous_from_mark : (marks : List Shown) (mark : WidgetMark) (from : Shown) (found : Option Shown) →
    shown_mark mark marks ≡ Some from → IsLast marks from found → previous_shown (Mark mark) marks ≡ found
previous_from_mark marks mark from found at is =
    ap (option_and_then (λ from. last (filter (λ shown. earlier shown from) marks))) at
    ∙ is_best later IsOrder-later (λ shown. earlier shown from) true (λ shown. earlier shown from) (λ shown. refl)
    marks found is
