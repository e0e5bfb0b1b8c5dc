-- The marks of a list of places, one place after another.
use Rattle.text_model.proofs.Common.{◌≡◌, ℕ, ◌+◌, ◌<◌, ◌≤◌, min, max, Bool, true, false, cond, nat_lt, nat_le, ◌==◌}
use Rattle.text_model.proofs.Common.{List, [], ◌∷◌, length, drop, get_or, map, Option, Some, None, refl, sym, ap, subst}
use Rattle.text_model.proofs.Common.{◌∙◌, inl, inr, arith, ◌⊎◌, IfSome, if◌then◌else◌, All, filter, fold, reduce, find}
use Rattle.text_model.proofs.Common.{nat_cmp, eq_by_cmp, cases_lt, drop_more, drop_all, All-head, All-tail, All-map}
use Rattle.text_model.proofs.Common.{All-weaker, All-filter, filter_passes, nat_tests, Place, Content, Marks}
use Rattle.text_model.proofs.Common.{MarksStand, next_mark, offsets, previous_mark, marks_at, places_from, plain_marks}
use Rattle.text_model.proofs.Common.{stands_at, with_next, with_previous}
use Rattle.text_model.specs.declared.places.MarkNo.{MarkNo}
use Rattle.text_model.proofs.PlaceLaws.{All-entries, entries-plain_marks}
use Rattle.std.specs.FinMap as finite

-- f over offsets, from one if there is one
abbrev pub reduced_from : (ℕ → ℕ → ℕ) → Option ℕ → List ℕ → Option ℕ
reduced_from f None offsets = reduce f offsets
reduced_from f (Some offset) offsets = Some (fold f offset offsets)

abbrev offsets_of : List (ℕ × Place) → List ℕ
offsets_of entries = map (λ (place : Place). place.offset) (map (λ (entry : ℕ × Place). entry.1) entries)

-- the offsets of the places from a number on that stand at or above an offset, and of those that stand below it
abbrev pub offsets_above : ℕ → ℕ → List (Option Place) → List ℕ
offsets_above at number places = filter (λ offset. nat_le at offset) (offsets_of (places_from number places))

abbrev pub offsets_below : ℕ → ℕ → List (Option Place) → List ℕ
offsets_below at number places = filter (λ offset. nat_lt offset at) (offsets_of (places_from number places))

-- the numbers, from a number on, of the places at an offset
abbrev pub marks_from : ℕ → ℕ → List (Option Place) → List MarkNo
marks_from at number places = map (λ entry. record { 0 = entry.0 })
    (filter (λ (entry : ℕ × Place). entry.1.offset == at) (places_from number places))

pub next_mark_from : (at : ℕ) (places : List (Option Place)) →
    next_mark at (plain_marks places) ≡ reduced_from min None (offsets_above at 0 places)
next_mark_from at places =
    ap (λ entries. reduce min (filter (λ offset. nat_le at offset) (offsets_of entries))) (entries-plain_marks places)

pub previous_mark_from : (at : ℕ) (places : List (Option Place)) →
    previous_mark at (plain_marks places) ≡ reduced_from max None (offsets_below at 0 places)
previous_mark_from at places =
    ap (λ entries. reduce max (filter (λ offset. nat_lt offset at) (offsets_of entries))) (entries-plain_marks places)

pub marks_at_from : (at : ℕ) (places : List (Option Place)) → marks_at at (plain_marks places) ≡ marks_from at 0 places
marks_at_from at places =
    ap (λ entries. map (λ entry. record { 0 = entry.0 }) (filter (λ (entry : ℕ × Place). entry.1.offset == at) entries))
    (entries-plain_marks places)

next_one : (at number : ℕ) (next : Option ℕ) (place : Option Place) (places : List (Option Place))
    → reduced_from min next (offsets_above at number (place ∷ places))
    ≡ reduced_from min (with_next next at place) (offsets_above at (number + 1) places)
next_one at number next None places = refl
next_one at number None (Some place) places =
    elim (nat_le at place.offset) as (λ b.
    reduce min (cond b (place.offset ∷ offsets_above at (number + 1) places) (offsets_above at (number + 1) places))
    ≡ reduced_from min (if b then Some place.offset else None) (offsets_above at (number + 1) places))
    [ true ↦ refl | false ↦ refl ]
next_one at number (Some next) (Some place) places =
    elim (nat_le at place.offset) as (λ b.
    Some (fold min next (cond b (place.offset ∷ offsets_above at (number + 1) places)
    (offsets_above at (number + 1) places)))
    ≡ reduced_from min (if b then Some (min next place.offset)
    else Some next) (offsets_above at (number + 1) places)) [ true ↦ refl | false ↦ refl ]

previous_one : (at number : ℕ) (previous : Option ℕ) (place : Option Place) (places : List (Option Place))
    → reduced_from max previous (offsets_below at number (place ∷ places))
    ≡ reduced_from max (with_previous previous at place) (offsets_below at (number + 1) places)
previous_one at number previous None places = refl
previous_one at number None (Some place) places =
    elim (nat_lt place.offset at) as (λ b.
    reduce max (cond b (place.offset ∷ offsets_below at (number + 1) places) (offsets_below at (number + 1) places))
    ≡ reduced_from max (if b then Some place.offset else None) (offsets_below at (number + 1) places))
    [ true ↦ refl | false ↦ refl ]
previous_one at number (Some previous) (Some place) places =
    elim (nat_lt place.offset at) as (λ b.
    Some (fold max previous (cond b (place.offset ∷ offsets_below at (number + 1) places)
    (offsets_below at (number + 1) places)))
    ≡ reduced_from max (if b then Some (max previous place.offset)
    else Some previous) (offsets_below at (number + 1) places)) [ true ↦ refl | false ↦ refl ]

-- one place on
pub next_more : (at : ℕ) (next : Option ℕ) (places : List (Option Place)) (i : ℕ) (place : Option Place) →
    i < length places → place ≡ get_or places i place
    → reduced_from min next (offsets_above at i (drop i places))
    ≡ reduced_from min (with_next next at place) (offsets_above at (i + 1) (drop (i + 1) places))
next_more at next places i place within is =
    ap (λ rest. reduced_from min next (offsets_above at i rest)) (drop_more places i place within
    ∙ ap (λ p. p ∷ drop (i + 1) places) (sym is))
    ∙ next_one at i next place (drop (i + 1) places)

pub previous_more : (at : ℕ) (previous : Option ℕ) (places : List (Option Place)) (i : ℕ) (place : Option Place) →
    i < length places → place ≡ get_or places i place
    → reduced_from max previous (offsets_below at i (drop i places))
    ≡ reduced_from max (with_previous previous at place) (offsets_below at (i + 1) (drop (i + 1) places))
previous_more at previous places i place within is =
    ap (λ rest. reduced_from max previous (offsets_below at i rest)) (drop_more places i place within
    ∙ ap (λ p. p ∷ drop (i + 1) places) (sym is))
    ∙ previous_one at i previous place (drop (i + 1) places)

reduced_none : (f : ℕ → ℕ → ℕ) (found : Option ℕ) → reduced_from f found [] ≡ found
reduced_none f None = refl
reduced_none f (Some offset) = refl

pub next_all : (at : ℕ) (next : Option ℕ) (places : List (Option Place)) (i : ℕ) → length places ≤ i →
    reduced_from min next (offsets_above at i (drop i places)) ≡ next
next_all at next places i past =
    ap (λ rest. reduced_from min next (offsets_above at i rest)) (drop_all i places past) ∙ reduced_none min next

pub previous_all : (at : ℕ) (previous : Option ℕ) (places : List (Option Place)) (i : ℕ) → length places ≤ i →
    reduced_from max previous (offsets_below at i (drop i places)) ≡ previous
previous_all at previous places i past = ap (λ rest. reduced_from max previous (offsets_below at i rest))
    (drop_all i places past) ∙ reduced_none max previous

marks_one : (at number : ℕ) (place : Option Place) (places : List (Option Place)) (stands : Bool) →
    stands_at place at ≡ stands
    → marks_from at number (place ∷ places)
    ≡ cond stands (record { 0 = number } ∷ marks_from at (number + 1) places) (marks_from at (number + 1) places)
marks_one at number None places true is = absurd (let no : false ≡ true = is in cc)
marks_one at number None places false is = refl
marks_one at number (Some place) places stands is =
    ap (λ b. map (λ entry. record { 0 = entry.0 })
    (cond b ((number, place) ∷ filter (λ (entry : ℕ × Place). entry.1.offset == at)
    (places_from (number + 1) places)) (filter (λ (entry : ℕ × Place). entry.1.offset == at)
    (places_from (number + 1) places)))) is
    ∙ elim stands as (λ b. map (λ entry. record { 0 = entry.0 })
    (cond b ((number, place) ∷ filter (λ (entry : ℕ × Place). entry.1.offset == at)
    (places_from (number + 1) places)) (filter (λ (entry : ℕ × Place). entry.1.offset == at)
    (places_from (number + 1) places)))
    ≡ cond b (record { 0 = number } ∷ marks_from at (number + 1) places) (marks_from at (number + 1) places))
    [ true ↦ refl | false ↦ refl ]

pub marks_more : (at : ℕ) (places : List (Option Place)) (i : ℕ) (place : Option Place) (stands : Bool) →
    i < length places → place ≡ get_or places i place → stands_at place at ≡ stands
    → marks_from at i (drop i places) ≡ cond stands (record { 0 = i } ∷ marks_from at (i + 1) (drop (i + 1) places))
    (marks_from at (i + 1) (drop (i + 1) places))
marks_more at places i place stands within is tells =
    ap (marks_from at i) (drop_more places i place within ∙ ap (λ p. p ∷ drop (i + 1) places) (sym is))
    ∙ marks_one at i place (drop (i + 1) places) stands tells

-- what is found among offsets is one of them
fold_one : (f : ℕ → ℕ → ℕ) (P : ℕ → Type 0) → ((a b : ℕ) → P a → P b → P (f a b)) → (first : ℕ) (offsets : List ℕ) →
    P first → All P offsets → P (fold f first offsets)
fold_one f P both first [] one all = one
fold_one f P both first (offset ∷ offsets) one all =
    fold_one f P both (f first offset) offsets (both first offset one (All-head P offset offsets all))
    (All-tail P offset offsets all)

reduce_one : (f : ℕ → ℕ → ℕ) (P : ℕ → Type 0) → ((a b : ℕ) → P a → P b → P (f a b)) → (offsets : List ℕ) →
    All P offsets → IfSome (reduce f offsets) P
reduce_one f P both [] all = tt
reduce_one f P both (offset ∷ offsets) all =
    fold_one f P both offset offsets (All-head P offset offsets all) (All-tail P offset offsets all)

offsets_stand : (end : ℕ) (entries : List (ℕ × Place)) → All (λ (entry : ℕ × Place). entry.1.offset ≤ end) entries →
    All (λ offset. offset ≤ end) (offsets_of entries)
offsets_stand end entries all =
    All-map (λ offset. offset ≤ end) (λ (place : Place). place.offset) (map (λ (entry : ℕ × Place). entry.1) entries)
    (All-map (λ (place : Place). place.offset ≤ end) (λ (entry : ℕ × Place). entry.1) entries all)

-- a mark that is found stands in the text
pub next_mark-within : (at : ℕ) (content : Content) → MarksStand content →
    IfSome (next_mark at content.marks) (λ next. next ≤ length content.cells)
next_mark-within at content stand =
    let end = length content.cells in
    reduce_one min (λ next. next ≤ end) (λ a b one other. omega (arith, one, other))
    (filter (λ offset. nat_le at offset) (offsets content.marks))
    (All-filter (λ offset. nat_le at offset) (λ offset. offset
    ≤ end) (offsets content.marks) (offsets_stand end (finite.entries content.marks)
    (All-entries content.marks (λ entry. entry.1.offset ≤ end) stand)))

pub previous_mark-within : (at : ℕ) (content : Content) → MarksStand content →
    IfSome (previous_mark at content.marks) (λ previous. previous ≤ length content.cells)
previous_mark-within at content stand =
    let end = length content.cells in
    reduce_one max (λ previous. previous ≤ end) (λ a b one other. omega (arith, one, other))
    (filter (λ offset. nat_lt offset at) (offsets content.marks))
    (All-filter (λ offset. nat_lt offset at) (λ offset. offset
    ≤ end) (offsets content.marks) (offsets_stand end (finite.entries content.marks)
    (All-entries content.marks (λ entry. entry.1.offset ≤ end) stand)))

passes_le : (at offset : ℕ) → nat_le at offset ≡ true → at ≤ offset
passes_le at offset passes = grind (arith, nat_tests)

passes_lt : (offset at : ℕ) → nat_lt offset at ≡ true → offset < at
passes_lt offset at passes = grind (arith, nat_tests)

-- the next mark is at the place or above it, the previous one below it
pub next_mark-above : (at : ℕ) (marks : Marks) → IfSome (next_mark at marks) (λ next. at ≤ next)
next_mark-above at marks =
    let found = filter (λ offset. nat_le at offset) (offsets marks) in
    reduce_one min (λ next. at ≤ next) (λ a b one other. omega (arith, one, other)) found
    (All-weaker (λ offset. nat_le at offset ≡ true) (λ next. at
    ≤ next) (passes_le at) found (filter_passes (λ offset. nat_le at offset) (offsets marks)))

pub previous_mark-below : (at : ℕ) (marks : Marks) → IfSome (previous_mark at marks) (λ previous. previous < at)
previous_mark-below at marks =
    let found = filter (λ offset. nat_lt offset at) (offsets marks) in
    reduce_one max (λ previous. previous < at) (λ a b one other. omega (arith, one, other)) found
    (All-weaker (λ offset. nat_lt offset at ≡ true) (λ previous. previous
    < at) (λ offset. passes_lt offset at) found (filter_passes (λ offset. nat_lt offset at) (offsets marks)))

-- a mark stands at an offset
abbrev pub IsMarked : Marks → ℕ → Type 0
IsMarked marks offset =
    (number : ℕ) × (place : Place) × (finite.get marks number ≡ Some place) × (place.offset ≡ offset)

offsets_marked : (marks : Marks) → All (IsMarked marks) (offsets marks)
offsets_marked marks =
    All-map (IsMarked marks) (λ (place : Place). place.offset)
    (map (λ (entry : ℕ × Place). entry.1) (finite.entries marks))
    (All-map (λ (place : Place). IsMarked marks place.offset) (λ (entry : ℕ × Place). entry.1) (finite.entries marks)
    (All-entries marks (λ entry. IsMarked marks entry.1.offset) (λ number place is. (number, place, is, refl))))

min_marked : (P : ℕ → Type 0) (a b : ℕ) → P a → P b → P (min a b)
min_marked P a b one other = elim (cases_lt a b) [
  | inl less ↦ subst P (let same : a ≡ min a b = omega arith in
      same) one
  | inr more ↦ subst P (let same : b ≡ min a b = omega arith in same) other
]

max_marked : (P : ℕ → Type 0) (a b : ℕ) → P a → P b → P (max a b)
max_marked P a b one other = elim (cases_lt a b) [
  | inl less ↦ subst P (let same : b ≡ max a b = omega arith in
      same) other
  | inr more ↦ subst P (let same : a ≡ max a b = omega arith in same) one
]

-- a mark stands at what is found
pub next_mark-marked : (at : ℕ) (marks : Marks) → IfSome (next_mark at marks) (IsMarked marks)
next_mark-marked at marks =
    reduce_one min (IsMarked marks) (min_marked (IsMarked marks)) (filter (λ offset. nat_le at offset) (offsets marks))
    (All-filter (λ offset. nat_le at offset) (IsMarked marks) (offsets marks) (offsets_marked marks))

pub previous_mark-marked : (at : ℕ) (marks : Marks) → IfSome (previous_mark at marks) (IsMarked marks)
previous_mark-marked at marks =
    reduce_one max (IsMarked marks) (max_marked (IsMarked marks)) (filter (λ offset. nat_lt offset at) (offsets marks))
    (All-filter (λ offset. nat_lt offset at) (IsMarked marks) (offsets marks) (offsets_marked marks))

-- an offset is in a list
abbrev is_in : ℕ → List ℕ → Type 0
is_in offset [] = ⊥
is_in offset (x ∷ xs) = (x ≡ offset) ⊎ is_in offset xs

offset_in : (tied : Bool) (value : Place) (rest : Option Place) (place : Place) (others : List ℕ) →
    cond tied (Some value) rest ≡ Some place → (rest ≡ Some place → is_in place.offset others)
    → (value.offset ≡ place.offset) ⊎ is_in place.offset others
offset_in true value rest place others is more = let same : value ≡ place = cc in
    inl (ap (λ (p : Place). p.offset) same)
offset_in false value rest place others is more = inr (more is)

offsets_have : (number : ℕ) (place : Place) (entries : List (ℕ × Place)) → find nat_cmp number entries ≡ Some place →
    is_in place.offset (offsets_of entries)
offsets_have number place [] is = let no : None ≡ Some place = is in absurd (cc)
offsets_have number place (entry ∷ entries) is =
    offset_in (eq_by_cmp nat_cmp number entry.0) entry.1 (find nat_cmp number entries) place (offsets_of entries) is
    (offsets_have number place entries)

filter_has_first : (p : ℕ → Bool) (x offset : ℕ) (xs : List ℕ) → x ≡ offset → p offset ≡ true →
    is_in offset (cond (p x) (x ∷ xs) xs)
filter_has_first p x offset xs same passes =
    subst (λ b. is_in offset (cond b (x ∷ xs) xs)) (sym (ap p same ∙ passes)) (inl same)

filter_has_other : (b : Bool) (x offset : ℕ) (xs : List ℕ) → is_in offset xs → is_in offset (cond b (x ∷ xs) xs)
filter_has_other true x offset xs has = inr has
filter_has_other false x offset xs has = has

filter_has : (p : ℕ → Bool) (offset : ℕ) (xs : List ℕ) → p offset ≡ true → is_in offset xs → is_in offset (filter p xs)
filter_has p offset [] passes has = has
filter_has p offset (x ∷ xs) passes (inl same) = filter_has_first p x offset (filter p xs) same passes
filter_has p offset (x ∷ xs) passes (inr has) =
    filter_has_other (p x) x offset (filter p xs) (filter_has p offset xs passes has)

-- a choice of two offsets that reaches both, as the least and the greatest do
record Reaches (f : ℕ → ℕ → ℕ) (R : ℕ → ℕ → Type 0) : Type 0 where
  itself : (a : ℕ) → R a a
  chain : (a b c : ℕ) → R a b → R b c → R a c
  left : (a b : ℕ) → R (f a b) a
  right : (a b : ℕ) → R (f a b) b

fold_first : (f : ℕ → ℕ → ℕ) (R : ℕ → ℕ → Type 0) → Reaches f R → (a : ℕ) (xs : List ℕ) → R (fold f a xs) a
fold_first f R reaches a [] = reaches.itself a
fold_first f R reaches a (x ∷ xs) =
    reaches.chain (fold f (f a x) xs) (f a x) a (fold_first f R reaches (f a x) xs) (reaches.left a x)

fold_each : (f : ℕ → ℕ → ℕ) (R : ℕ → ℕ → Type 0) → Reaches f R → (a offset : ℕ) (xs : List ℕ) → is_in offset xs →
    R (fold f a xs) offset
fold_each f R reaches a offset [] has = absurd has
fold_each f R reaches a offset (x ∷ xs) (inl same) =
    subst (λ y. R (fold f (f a x) xs) y) same
    (reaches.chain (fold f (f a x) xs) (f a x) x (fold_first f R reaches (f a x) xs) (reaches.right a x))
fold_each f R reaches a offset (x ∷ xs) (inr has) = fold_each f R reaches (f a x) offset xs has

reduce_each : (f : ℕ → ℕ → ℕ) (R : ℕ → ℕ → Type 0) → Reaches f R → (offset : ℕ) (xs : List ℕ) → is_in offset xs →
    (found : ℕ) × (reduce f xs ≡ Some found) × R found offset
reduce_each f R reaches offset [] has = absurd has
reduce_each f R reaches offset (x ∷ xs) (inl same) =
    (fold f x xs, refl, subst (λ y. R (fold f x xs) y) same (fold_first f R reaches x xs))
reduce_each f R reaches offset (x ∷ xs) (inr has) = (fold f x xs, refl, fold_each f R reaches x offset xs has)

min_reaches : Reaches min (λ a b. a ≤ b)
min_reaches = record {
  itself = λ a. omega arith;
  chain = λ a b c less more. omega (arith, less, more);
  left = λ a b. omega arith;
  right = λ a b. omega arith;
}

max_reaches : Reaches max (λ a b. b ≤ a)
max_reaches = record {
  itself = λ a. omega arith;
  chain = λ a b c less more. omega (arith, less, more);
  left = λ a b. omega arith;
  right = λ a b. omega arith;
}

le_passes : (at offset : ℕ) → at ≤ offset → nat_le at offset ≡ true
le_passes at offset within = grind (arith, nat_tests)

lt_passes : (offset at : ℕ) → offset < at → nat_lt offset at ≡ true
lt_passes offset at within = grind (arith, nat_tests)

-- no mark stands between a place and the one that is found
pub next_mark-least : (at : ℕ) (marks : Marks) (number : ℕ) (place : Place) → finite.get marks number ≡ Some place →
    at ≤ place.offset → (next : ℕ) × (next_mark at marks ≡ Some next) × (next ≤ place.offset)
next_mark-least at marks number place is above =
    reduce_each min (λ a b. a ≤ b) min_reaches place.offset (filter (λ offset. nat_le at offset) (offsets marks))
    (filter_has (λ offset. nat_le at offset) place.offset (offsets marks) (le_passes at place.offset above)
    (offsets_have number place (finite.entries marks) (sym (finite.get-entries marks number) ∙ is)))

pub previous_mark-greatest : (at : ℕ) (marks : Marks) (number : ℕ) (place : Place) →
    finite.get marks number ≡ Some place → place.offset < at
    → (previous : ℕ) × (previous_mark at marks ≡ Some previous) × (place.offset ≤ previous)
previous_mark-greatest at marks number place is below =
    reduce_each max (λ a b. b ≤ a) max_reaches place.offset (filter (λ offset. nat_lt offset at) (offsets marks))
    (filter_has (λ offset. nat_lt offset at) place.offset (offsets marks) (lt_passes place.offset at below)
    (offsets_have number place (finite.entries marks) (sym (finite.get-entries marks number) ∙ is)))
