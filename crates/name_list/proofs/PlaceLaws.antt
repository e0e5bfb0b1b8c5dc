-- The places of numbers: what a push, a removal and a move leave, and that they give names that are in order.
use Rattle.name_list.proofs.Common.{◌≡◌, ℕ, zero, suc, ◌+◌, ◌<◌, ◌≤◌, ◌≢◌, ◌⊎◌, ◌^◌, true, false, Option, None, Some}
use Rattle.name_list.proofs.Common.{List, [], ◌∷◌, ◌++◌, length, take, drop, min, slice_get, slice_set, Contains, refl}
use Rattle.name_list.proofs.Common.{sym, ap, ◌∙◌, subst, inl, inr, arith, length-append, length-set, true≢false}
use Rattle.name_list.proofs.Common.{if◌then◌else◌, eq-eqb, ne_eqb, insert, remove, is_some, option_and_then}
use Rattle.name_list.proofs.Common.{option_map_or, cases_lt, cases_eq, nat_tests, none-some, same_Some}
use Rattle.name_list.proofs.Common.{slice_get_within, append-nil, take_all, drop_all, length-remove, length-insert}
use Rattle.name_list.proofs.Common.{move_index, AreApart, IsLeastFree, is_taken, with_place_for, AreTrimmed, IsIndex}
use Rattle.name_list.proofs.Common.{IsIndexTo, AreKept}
use Rattle.name_list.proofs.ListLaws.{Stands, stands_from_Contains, Contains-from_stands, get_push, get_pushed}
use Rattle.name_list.proofs.ListLaws.{get_push_cases, get_set, get_set_other, get_remove, get_remove_other}
use Rattle.name_list.proofs.ListLaws.{before_removal, removed_is_gone, AreApart-remove, AreApart-insert, get_inserted}
use Rattle.name_list.proofs.ListLaws.{get_insert_cases, stands_insert, room_of_numbers}

no_place : {at : ℕ} → ◌≡◌ {A = Option (Option ℕ)} (Some None) (Some (Some at)) → ⊥
no_place is = none-some _ (same_Some _ _ is)

before_removal_below : (i at : ℕ) → at < i → before_removal i at ≡ at
before_removal_below i at below = grind (arith, nat_tests)

not_same : (numbers : List ℕ) (i at number k : ℕ) → at ≡ i → slice_get numbers i ≡ Some number →
    slice_get numbers at ≡ Some k → ¬ (k < number)
not_same numbers i at number k e here is below = let same = same_Some number k (sym here
    ∙ ap (slice_get numbers) (sym e) ∙ is) in omega arith

-- numbers that have places are apart
pub AreApart-index : (numbers : List ℕ) (places : List (Option ℕ)) → IsIndex numbers places → AreApart numbers
AreApart-index numbers places index =
    λ i j x is also. same_Some i j (same_Some _ _ (sym (index.placed i x is) ∙ index.placed j x also))

pub within_index : (numbers : List ℕ) (places : List (Option ℕ)) → IsIndex numbers places → (at number : ℕ) →
    slice_get numbers at ≡ Some number → number < length places
within_index numbers places index at number is = slice_get_within places number (Some at) (index.placed at number is)

-- a number is taken where it stands in the list
pub stands_from_taken : (numbers : List ℕ) (places : List (Option ℕ)) (number : ℕ) → IsIndex numbers places →
    is_taken places number ≡ true → Stands numbers number
stands_from_taken numbers places number index taken = by (slice_get places number) refl
  where
    by : (found : Option (Option ℕ)) → slice_get places number ≡ found → Stands numbers number
    by None is = absurd (true≢false (sym taken ∙ ap (λ o. is_some (option_and_then (λ place. place) o)) is))
    by (Some None) is = absurd (true≢false (sym taken ∙ ap (λ o. is_some (option_and_then (λ place. place) o)) is))
    by (Some (Some at)) is = (at, index.there at number is)

pub gone_from_free : (numbers : List ℕ) (places : List (Option ℕ)) (number : ℕ) → IsIndex numbers places →
    is_taken places number ≡ false → ¬ (Stands numbers number)
gone_from_free numbers places number index free (at, is) =
    true≢false (sym (ap (λ o. is_some (option_and_then (λ place. place) o)) (index.placed at number is)) ∙ free)

-- a name more, at the end
pub IsIndex-push : (numbers : List ℕ) (places : List (Option ℕ)) (number : ℕ) → IsIndex numbers places →
    number < length places → ¬ (Stands numbers number) →
    IsIndex (numbers ++ number ∷ []) (slice_set places number (Some (length numbers)))
IsIndex-push numbers places number index within new =
    record {
      placed = λ at n is. elim (get_push_cases numbers number at n is) [
        | inl old ↦ get_set_other places number _ n (λ e. new (at, old ∙ ap (λ m. Some m) e)) ∙ index.placed at n old
        | inr last ↦ ap (slice_get (slice_set places number (Some (length numbers)))) (sym last.1)
            ∙ get_set places number _ within ∙ ap (λ a. Some (Some a)) (sym last.0)
      ];
      there = λ at n is. elim (cases_eq n number) [
        | inl here ↦
            let last = same_Some _ _ (same_Some _ _ (sym (get_set places number (Some (length numbers)) within)
            ∙ ap (slice_get (slice_set places number (Some (length numbers)))) (sym here) ∙ is)) in
            ap (slice_get (numbers ++ number ∷ [])) (sym last) ∙ get_pushed numbers number ∙ ap (λ m. Some m) (sym here)
        | inr other ↦ get_push numbers number at n (index.there at n (sym (get_set_other places number _ n other) ∙ is))
      ];
    }

-- before the places are noted anew: a name is taken out
pub IsIndexTo-remove : (numbers : List ℕ) (places : List (Option ℕ)) (i number : ℕ) → IsIndex numbers places →
    slice_get numbers i ≡ Some number → IsIndexTo (remove numbers i) i (slice_set places number None)
IsIndexTo-remove numbers places i number index here =
    let apart = AreApart-index numbers places index in
    let within = slice_get_within numbers i number here in
    let gone = removed_is_gone numbers i number apart here in
    record {
      placed = λ at n below is.
          let old = sym (get_remove numbers i at within) ∙ is in
          let other : n ≢ number = λ e. gone (at, is ∙ ap (λ m. Some m) e) in
          get_set_other places number None n other
          ∙ index.placed at n (sym (ap (slice_get numbers) (before_removal_below i at below)) ∙ old);
      listed = λ at n is. elim (cases_eq n number) [
        | inl same ↦ absurd
            (no_place (sym (get_set places number None (slice_get_within places number _ (index.placed i number here)))
            ∙ ap (slice_get (slice_set places number None)) (sym same) ∙ is))
        | inr other ↦
            let old = index.there at n (sym (get_set_other places number None n other) ∙ is) in
            get_remove_other numbers i at n within (λ e.
            other (same_Some n number (sym old ∙ ap (slice_get numbers) e ∙ here))) old
      ];
    }

-- an element that is moved
module _ {A : Type 0} (xs : List A) (from to : ℕ) (x : A) (here : slice_get xs from ≡ Some x) (within : to
    < length xs) where
  moves : move_index xs from to ≡ insert (remove xs from) to x
  moves = ap (λ o. option_map_or (λ y. insert (remove xs from) to y) o xs) here

  room : to ≤ length (remove xs from)
  room = let e = length-remove xs from (slice_get_within xs from x here) in omega arith

  pub AreApart-move : AreApart xs → AreApart (move_index xs from to)
  AreApart-move apart = subst AreApart (sym moves)
      (AreApart-insert (remove xs from) to x room (removed_is_gone xs from x apart here)
      (AreApart-remove xs from (slice_get_within xs from x here) apart))

  pub stands_move : (y : A) → Stands xs y → Stands (move_index xs from to) y
  stands_move y (at, is) = subst (λ zs. Stands zs y) (sym moves) (elim (cases_eq at from) [
    | inl same ↦ (to, get_inserted (remove xs from) to x room ∙ sym here ∙ ap (slice_get xs) (sym same) ∙ is)
    | inr other ↦ stands_insert (remove xs from) to x y room
        (get_remove_other xs from at y (slice_get_within xs from x here) other is)
  ])

  pub stood_before_move : (y : A) → Stands (move_index xs from to) y → Stands xs y
  stood_before_move y (at, is) =
      elim (get_insert_cases (remove xs from) to x at y room (sym (ap (λ zs. slice_get zs at) moves) ∙ is)) [
        | inl new ↦ (from, here ∙ ap (λ m. Some m) new.1)
        | inr old ↦ (
          before_removal from old.0,
          sym (get_remove xs from old.0 (slice_get_within xs from x here))
              ∙ old.1,
        )
      ]

  pub length-move : length (move_index xs from to) ≡ length xs
  length-move = ap length moves ∙ length-insert (remove xs from) to x room
      ∙ length-remove xs from (slice_get_within xs from x here)

-- before the places are noted anew: a name is moved
module _ (numbers : List ℕ) (from to number : ℕ) (here : slice_get numbers from ≡ Some number) (within : to
    < length numbers) where
  pub IsIndexTo-move : (places : List (Option ℕ)) → IsIndex numbers places →
      IsIndexTo (move_index numbers from to) 0 places
  IsIndexTo-move places index = record {
    placed = λ at n below is. absurd (omega arith);
    listed = λ at n is. stands_move numbers from to number here within n (at, index.there at n is);
  }

  pub IsLeastFree-move : (free : ℕ) → IsLeastFree numbers free → IsLeastFree (move_index numbers from to) free
  IsLeastFree-move free least = record {
    free = λ has. least.free (Contains-from_stands numbers free
        (stood_before_move numbers from to number here within free (stands_from_Contains _ free has)));
    below = λ k less. Contains-from_stands _ k
        (stands_move numbers from to number here within k (stands_from_Contains numbers k (least.below k less)));
  }

-- the least free number is below the limit where there is room
pub free_within : (numbers : List ℕ) (free : ℕ) → IsLeastFree numbers free → free ≤ length numbers
free_within numbers free least =
    room_of_numbers free numbers (λ k below. stands_from_Contains numbers k (least.below k below))

pub gone_from_least : (numbers : List ℕ) (free : ℕ) → IsLeastFree numbers free → ¬ (Stands numbers free)
gone_from_least numbers free least has = least.free (Contains-from_stands numbers free has)

-- after the least free number was given, the next one that is free is the least
pub IsLeastFree-next : (numbers : List ℕ) (places : List (Option ℕ)) (free next : ℕ) → IsLeastFree numbers free →
    IsIndex (numbers ++ free ∷ []) places
    → free + 1 ≤ next → ((k : ℕ) → free + 1 ≤ k → k < next → is_taken places k ≡ true) → is_taken places next ≡ false →
    IsLeastFree (numbers ++ free ∷ []) next
IsLeastFree-next numbers places free next least index above taken not_taken = record {
  free = λ has. gone_from_free (numbers ++ free ∷ []) places next index not_taken (stands_from_Contains _ next has);
  below = λ k below. Contains-from_stands _ k (elim (cases_lt k free) [
    | inl less ↦ let old =
        stands_from_Contains numbers k (least.below k less) in (old.0, get_push numbers free old.0 k old.1)
    | inr more ↦ elim (cases_eq k free) [
      | inl same ↦ (length numbers, get_pushed numbers free ∙ ap (λ m. Some m) (sym same))
      | inr other ↦ stands_from_taken (numbers ++ free ∷ []) places k index (taken k (omega arith) below)
    ]
  ]);
}

-- after a number was given back, it is the least, or the one before is
pub IsLeastFree-remove : (numbers : List ℕ) (i number free least : ℕ) → AreApart numbers →
    slice_get numbers i ≡ Some number → IsLeastFree numbers free
    → least ≤ number → least ≤ free → (least ≡ number) ⊎ (least ≡ free) → IsLeastFree (remove numbers i) least
IsLeastFree-remove numbers i number free least apart here was below under which =
    let within = slice_get_within numbers i number here in
    record {
      free = λ has. elim which [
        | inl same ↦ removed_is_gone numbers i number apart here
            (subst (Stands (remove numbers i)) same (stands_from_Contains _ least has))
        | inr same ↦
            let old = stands_from_Contains _ least has in
            gone_from_least numbers free was (
              before_removal i old.0,
              sym (get_remove numbers i old.0 within) ∙ old.1
                  ∙ ap (λ m. Some m) same,
            )
      ];
      below = λ k less.
          let old = stands_from_Contains numbers k (was.below k (omega arith)) in
          Contains-from_stands _ k (get_remove_other numbers i old.0 k within (λ e.
          not_same numbers i old.0 number k e here old.1 (omega arith)) old.1);
    }

min_cases : (free number least : ℕ) → least ≡ min free number → (least ≡ number) ⊎ (least ≡ free)
min_cases free number least is =
    elim (cases_lt free number) [ inl below ↦ inr (omega arith) | inr above ↦ inl (omega arith) ]

-- no names
pub AreKept-none : (limit : ℕ) → limit < 2 ^ 16 → AreKept [] [] 0 limit
AreKept-none limit small = record {
  index = record {
    placed = λ at number is. absurd (none-some _ is);
    there = λ at number is. absurd (none-some _ is);
  };
  least = record {
    free = λ has. absurd (none-some 0 (stands_from_Contains [] 0 has).1);
    below = λ k less. absurd (omega arith);
  };
  within = omega arith;
  room = omega arith;
  few = omega arith;
  small = small;
}

-- room for one more place
AreKept-more : (numbers : List ℕ) (places : List (Option ℕ)) (free limit : ℕ) →
    AreKept numbers places free limit → length numbers < limit →
    AreKept numbers (with_place_for free places) free limit × (free < length (with_place_for free places))
AreKept-more numbers places free limit kept room = elim (cases_eq free (length places)) [
  | inl new ↦
      let is : with_place_for free places ≡ places ++ None ∷ [] = ap (λ b. if b then places ++ None ∷ []
      else places) (eq-eqb free (length places) new) in
      let count = length-append places (None ∷ []) in
      let within = free_within numbers free kept.least in
      subst (λ ps. AreKept numbers ps free limit × (free < length ps)) (sym is) (
        record {
          index = record {
            placed = λ at number stands. get_push places None number _ (kept.index.placed at number stands);
            there = λ at number stands. elim (get_push_cases places None number _ stands) [
              | inl old ↦ kept.index.there at number old
              | inr last ↦ absurd (none-some _ last.1)
            ];
          };
          least = kept.least;
          within = let fits = kept.within in omega arith;
          room = kept.room;
          few = omega arith;
          small = kept.small;
        },
        omega arith,
      )
  | inr other ↦
      let is : with_place_for free places ≡ places = ap (λ b. if b then places ++ None ∷ []
      else places) (ne_eqb free (length places) other) in
      let fits = kept.within in
      subst (λ ps. AreKept numbers ps free limit × (free < length ps)) (sym is) (kept, omega arith)
]

-- the least free number is below the limit where there is room, and then it has a place
pub free_below : (numbers : List ℕ) (places : List (Option ℕ)) (free place limit : ℕ) →
    AreKept numbers places free limit → place ≡ length numbers → place < limit → free < limit
free_below numbers places free place limit kept count room = omega (arith, free_within numbers free kept.least)

pub AreKept-placed : (numbers : List ℕ) (places more : List (Option ℕ)) (free place limit : ℕ) →
    AreKept numbers places free limit → place ≡ length numbers → place < limit → more ≡ with_place_for free places →
    AreKept numbers more free limit × (free < length more)
AreKept-placed numbers places more free place limit kept count room is =
    subst (λ ps. AreKept numbers ps free limit × (free < length ps)) (sym is)
    (AreKept-more numbers places free limit kept (omega arith))

-- one name more
pub AreKept-push : (numbers : List ℕ) (places : List (Option ℕ)) (free next at limit : ℕ) →
    AreKept numbers places free limit → free < length places → length numbers ≡ at → at < limit
    → free + 1 ≤ next → next ≤ length places →
    ((k : ℕ) → free + 1 ≤ k → k < next → is_taken (slice_set places free (Some at)) k ≡ true) →
    is_taken (slice_set places free (Some at)) next ≡ false
    → AreKept (numbers ++ free ∷ []) (slice_set places free (Some at)) next limit
AreKept-push numbers places free next at limit kept there count room above within taken not_taken =
    let index = subst (λ n. IsIndex (numbers ++ free ∷ []) (slice_set places free (Some n))) count
    (IsIndex-push numbers places free kept.index there (gone_from_least numbers free kept.least)) in
    let same = length-set places free (Some at) in
    record {
      index = index;
      least = IsLeastFree-next numbers _ free next kept.least index above taken not_taken;
      within = rw same within;
      room = omega (arith, length-append numbers (free ∷ []));
      few = rw same kept.few;
      small = kept.small;
    }

-- one name fewer
pub AreKept-remove : (numbers : List ℕ) (places new : List (Option ℕ)) (i number free least limit : ℕ) →
    AreKept numbers places free limit → slice_get numbers i ≡ Some number
    → IsIndex (remove numbers i) new → length new ≡ length places → least ≡ min free number →
    AreKept (remove numbers i) new least limit
AreKept-remove numbers places new i number free least limit kept here index same which =
    let shorter = length-remove numbers i (slice_get_within numbers i number here) in
    record {
      index = index;
      least = IsLeastFree-remove numbers i number free least (AreApart-index numbers places kept.index) here kept.least
          (omega arith) (omega arith) (min_cases free number least which);
      within = let fits = kept.within in omega arith;
      room = let fits = kept.room in omega arith;
      few = rw same kept.few;
      small = kept.small;
    }

-- a name moved
pub AreKept-move : (numbers : List ℕ) (places new : List (Option ℕ)) (from to number free limit : ℕ) →
    AreKept numbers places free limit → slice_get numbers from ≡ Some number → to < length numbers
    → IsIndex (move_index numbers from to) new → length new ≡ length places →
    AreKept (move_index numbers from to) new free limit
AreKept-move numbers places new from to number free limit kept here within index same = record {
  index = index;
  least = IsLeastFree-move numbers from to number here within free kept.least;
  within = rw same kept.within;
  room = rw (length-move numbers from to number here within) kept.room;
  few = rw same kept.few;
  small = kept.small;
}

-- places without a number are taken off at the end
free_trimmed : (numbers : List ℕ) (old new : List (Option ℕ)) (free : ℕ) → IsIndex numbers old →
    IsLeastFree numbers free → AreTrimmed old new → free ≤ length new
free_trimmed numbers old new zero index least trimmed = omega arith
free_trimmed numbers old new (suc n) index least trimmed =
    let last = stands_from_Contains numbers n (least.below n (omega arith)) in
    let within = slice_get_within new n (Some last.0) (trimmed.same last.0 n (index.placed last.0 n last.1)) in
    omega arith

pub AreKept-trimmed : (numbers : List ℕ) (old new : List (Option ℕ)) (free limit : ℕ) →
    AreKept numbers old free limit → AreTrimmed old new → AreKept numbers new free limit
AreKept-trimmed numbers old new free limit kept trimmed = record {
  index = record {
    placed = λ at number is. trimmed.same at number (kept.index.placed at number is);
    there = λ at number is. kept.index.there at number (trimmed.no_others at number is);
  };
  least = kept.least;
  within = free_trimmed numbers old new free kept.index kept.least trimmed;
  room = kept.room;
  few = let fits = kept.few in let shorter = trimmed.shorter in omega arith;
  small = kept.small;
}

-- what is written of a whole list
pub whole_written : {A : Type 0} (xs ys : List A) (n : ℕ) → length ys ≡ length xs → n ≡ length xs →
    take n (ys ++ drop (length ys) xs) ≡ ys
whole_written xs ys n same all = ap (λ zs. take n (ys ++ zs)) (drop_all (length ys) xs (omega arith))
    ∙ ap (take n) (append-nil ys) ∙ take_all n ys (omega arith)

-- a number without a place stands nowhere
pub unnoted : (numbers : List ℕ) (places : List (Option ℕ)) (number : ℕ) → IsIndex numbers places →
    ((at : ℕ) → ¬ (slice_get places number ≡ Some (Some at))) → ¬ Contains numbers number
unnoted numbers places number index none has = let at = stands_from_Contains numbers number has in
    none at.0 (index.placed at.0 number at.1)
