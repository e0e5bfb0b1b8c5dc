-- What an insertion, a removal and a change leave of a list: its length, its elements, its parts, and what a function
-- makes of each element.
use Rattle.text_model.proofs.Common.{◌≡◌, ℕ, zero, suc, ◌+◌, ◌-◌, ◌<◌, ◌≤◌, List, [], ◌∷◌, ◌++◌, length, get_or, set}
use Rattle.text_model.proofs.Common.{take, drop, map, refl, sym, ap, ap₂, ◌∙◌, arith, rules, length-append, length-drop}
use Rattle.text_model.proofs.Common.{slice_range, places, length-take-le, length-map, map-append, map-id, take-map}
use Rattle.text_model.proofs.Common.{drop-map, get_or_append_left, get_or-append_right, get_or-take, get_or-drop}
use Rattle.text_model.proofs.Common.{get_or-map, take-append-le, take-take, drop-append-le, drop_at, drop-drop}
use Rattle.text_model.proofs.Common.{drop_more, set_split, append_assoc, split_between, Slots, cells_of, inserted}
use Rattle.text_model.proofs.Common.{removed, changed, Cell}

pub length-inserted : {A : Type 0} (at : ℕ) (new xs : List A) → at ≤ length xs →
    length (inserted at new xs) ≡ length xs + length new
length-inserted at new xs within = simp (length-append, length-drop, length-take-le) (omega arith)

pub length-removed : {A : Type 0} (from to : ℕ) (xs : List A) → from ≤ to → to ≤ length xs →
    length (removed from to xs) + (to - from) ≡ length xs
length-removed from to xs ordered within =
    omega (arith, length-append (take from xs) (drop to xs), length-take-le from xs (omega arith), length-drop to xs)

pub length-changed : {A : Type 0} (f : A → A) (from to : ℕ) (xs : List A) → from ≤ to → to ≤ length xs →
    length (changed f from to xs) ≡ length xs
length-changed f from to xs ordered within =
    let middle = slice_range xs from to in
    omega (
      arith,
      length-append (take from xs ++ map f middle) (drop to xs),
      length-append (take from xs) (map f middle),
      length-map middle f,
      length-take-le (to - from) (drop from xs) (omega (arith, length-drop from xs)),
      length-take-le from xs (omega arith),
      length-drop to xs,
    )

pub length-cells_of : (text : List ℕ) (slots : Slots) → length (cells_of text slots) ≡ length text
length-cells_of text slots = length-map text _

pub length-cells_inserted : (at : ℕ) (text : List ℕ) (slots : Slots) (cells : List Cell) → at ≤ length cells →
    length (inserted at (cells_of text slots) cells) ≡ length cells + length text
length-cells_inserted at text slots cells within =
    length-inserted at (cells_of text slots) cells within ∙ ap (λ n. length cells + n) (length-cells_of text slots)

-- the elements after an insertion: before it, in it, and behind it
pub get_or-inserted_before : {A : Type 0} (at : ℕ) (new xs : List A) (i : ℕ) (d : A) → at ≤ length xs → i < at →
    get_or (inserted at new xs) i d ≡ get_or xs i d
get_or-inserted_before at new xs i d within before = search (rules, places)

pub get_or-inserted_within : {A : Type 0} (at : ℕ) (new xs : List A) (i : ℕ) (d : A) → at ≤ length xs → i < length new →
    get_or (inserted at new xs) (at + i) d ≡ get_or new i d
get_or-inserted_within at new xs i d within below = search (rules, places)

pub get_or-inserted_behind : {A : Type 0} (at : ℕ) (new xs : List A) (i : ℕ) (d : A) → at ≤ length xs → at ≤ i →
    get_or (inserted at new xs) (i + length new) d ≡ get_or xs i d
get_or-inserted_behind at new xs i d within behind = search (rules, places)

-- the elements after a removal: before it and behind it
pub get_or-removed_before : {A : Type 0} (from to : ℕ) (xs : List A) (i : ℕ) (d : A) → from ≤ length xs → i < from →
    get_or (removed from to xs) i d ≡ get_or xs i d
get_or-removed_before from to xs i d within before = search (rules, places)

pub get_or-removed_behind : {A : Type 0} (from to : ℕ) (xs : List A) (i : ℕ) (d : A) → from ≤ length xs → from ≤ to →
    from ≤ i → get_or (removed from to xs) i d ≡ get_or xs (i + (to - from)) d
get_or-removed_behind from to xs i d within ordered behind = search (rules, places)

-- the elements after a change: those in it, and the others
pub get_or-changed_within : {A : Type 0} (f : A → A) (from to : ℕ) (xs : List A) (i : ℕ) (d : A) → to ≤ length xs →
    from ≤ i → i < to → get_or (changed f from to xs) i d ≡ f (get_or xs i d)
get_or-changed_within f from to xs i d within above below =
    let front = take from xs in
    let middle = slice_range xs from to in
    let front_is : length front ≡ from = length-take-le from xs (omega arith) in
    let middle_is : length middle ≡ to - from = length-take-le (to - from) (drop from xs)
    (omega (arith, length-drop from xs)) in
    get_or_append_left (front ++ map f middle) (drop to xs) d i
    (omega (arith, length-append front (map f middle), length-map middle f, front_is, middle_is))
    ∙ get_or-append_right front (map f middle) from i d front_is above
    ∙ get_or-map f middle (i - from) d d (omega (arith, middle_is))
    ∙ ap f (get_or-take (to - from) (drop from xs) (i - from) d (omega arith) ∙ get_or-drop from xs (i - from) d
    ∙ ap (λ k. get_or xs k d) (omega arith))

pub get_or-changed_before : {A : Type 0} (f : A → A) (from to : ℕ) (xs : List A) (i : ℕ) (d : A) → from ≤ length xs →
    i < from → get_or (changed f from to xs) i d ≡ get_or xs i d
get_or-changed_before f from to xs i d within before = search (rules, places)

pub get_or-changed_behind : {A : Type 0} (f : A → A) (from to : ℕ) (xs : List A) (i : ℕ) (d : A) → from ≤ to →
    to ≤ length xs → to ≤ i → get_or (changed f from to xs) i d ≡ get_or xs i d
get_or-changed_behind f from to xs i d ordered within behind =
    let front = take from xs in
    let middle = slice_range xs from to in
    let long : length (front ++ map f middle) ≡ to =
    omega (
      arith,
      length-append front (map f middle),
      length-map middle f,
      length-take-le from xs (omega arith),
      length-take-le (to - from) (drop from xs) (omega (arith, length-drop from xs)),
    ) in
    get_or-append_right (front ++ map f middle) (drop to xs) to i d long behind ∙ get_or-drop to xs (i - to) d
    ∙ ap (λ k. get_or xs k d) (omega arith)

-- a change of one element
pub changed-one : {A : Type 0} (f : A → A) (at : ℕ) (xs : List A) (x : A) → at < length xs → x ≡ get_or xs at x →
    changed f at (at + 1) xs ≡ set xs at (f x)
changed-one f at xs x within is =
    let one : slice_range xs at (at + 1) ≡ x ∷ [] =
    ap (λ n. take n (drop at xs)) (let same : (at + 1) - at ≡ 1 = omega arith in same)
    ∙ ap (take 1) (drop_more xs at x within) ∙ ap (λ y. y ∷ []) (sym is) in
    ap (λ part. take at xs ++ map f part ++ drop (at + 1) xs) one
    ∙ append_assoc (take at xs) (f x ∷ []) (drop (at + 1) xs)
    ∙ ap (λ n. take at xs ++ f x ∷ drop n xs) (let same : at + 1 ≡ suc at = omega arith in same)
    ∙ sym (set_split xs at (f x) within)

-- what a function makes of each element after a step
pub map-inserted : {A B : Type 0} (g : A → B) (at : ℕ) (new xs : List A) →
    map g (inserted at new xs) ≡ inserted at (map g new) (map g xs)
map-inserted g at new xs =
    map-append g (take at xs ++ new) (drop at xs)
    ∙ ap₂ (λ front back. front ++ back) (map-append g (take at xs) new
    ∙ ap (λ front. front ++ map g new) (sym (take-map g at xs))) (sym (drop-map g at xs))

pub map-removed : {A B : Type 0} (g : A → B) (from to : ℕ) (xs : List A) →
    map g (removed from to xs) ≡ removed from to (map g xs)
map-removed g from to xs = map-append g (take from xs) (drop to xs)
    ∙ ap₂ (λ front back. front ++ back) (sym (take-map g from xs)) (sym (drop-map g to xs))

pub map-slice_range : {A B : Type 0} (g : A → B) (from to : ℕ) (xs : List A) →
    map g (slice_range xs from to) ≡ slice_range (map g xs) from to
map-slice_range g from to xs =
    sym (take-map g (to - from) (drop from xs)) ∙ ap (take (to - from)) (sym (drop-map g from xs))

pub map-alike : {A B : Type 0} (f g : A → B) → ((x : A) → f x ≡ g x) → (xs : List A) → map f xs ≡ map g xs
map-alike f g alike [] = refl
map-alike f g alike (x ∷ xs) = ap₂ (λ y ys. y ∷ ys) (alike x) (map-alike f g alike xs)

pub map-map : {A B C : Type 0} (g : B → C) (f : A → B) (xs : List A) → map g (map f xs) ≡ map (λ x. g (f x)) xs
map-map g f [] = refl
map-map g f (x ∷ xs) = ap (λ ys. g (f x) ∷ ys) (map-map g f xs)

-- where g sees a change by f as one by h
pub map-changed : {A B : Type 0} (g : A → B) (f : A → A) (h : B → B) → ((x : A) → g (f x) ≡ h (g x)) →
    (from to : ℕ) (xs : List A) → map g (changed f from to xs) ≡ changed h from to (map g xs)
map-changed g f h alike from to xs =
    let middle = slice_range xs from to in
    let inner : map g (map f middle) ≡ map h (slice_range (map g xs) from to) =
    map-map g f middle ∙ map-alike _ _ alike middle ∙ sym (map-map h g middle)
    ∙ ap (map h) (map-slice_range g from to xs) in
    map-append g (take from xs ++ map f middle) (drop to xs)
    ∙ ap₂ (λ front back. front ++ back) (map-append g (take from xs) (map f middle)
    ∙ ap₂ (λ front back. front ++ back) (sym (take-map g from xs)) inner) (sym (drop-map g to xs))

-- a change that keeps each element keeps the list
pub changed-same : {A : Type 0} (from to : ℕ) (xs : List A) → from ≤ to → changed (λ x. x) from to xs ≡ xs
changed-same from to xs ordered =
    ap (λ part. take from xs ++ part ++ drop to xs) (map-id (slice_range xs from to))
    ∙ append_assoc (take from xs) (slice_range xs from to) (drop to xs) ∙ sym (split_between xs from to ordered)

-- the parts before a step and behind it
pub take-inserted : {A : Type 0} (at : ℕ) (new xs : List A) (n : ℕ) → at ≤ length xs → n ≤ at →
    take n (inserted at new xs) ≡ take n xs
take-inserted at new xs n within before =
    let front = length-take-le at xs within in
    take-append-le n (take at xs ++ new) (drop at xs) (omega (arith, length-append (take at xs) new, front))
    ∙ take-append-le n (take at xs) new (omega (arith, front)) ∙ take-take n at xs before

pub drop-inserted : {A : Type 0} (at : ℕ) (new xs : List A) (n : ℕ) → at ≤ length xs → at ≤ n →
    drop (n + length new) (inserted at new xs) ≡ drop n xs
drop-inserted at new xs n within behind =
    let long : length (take at xs ++ new) ≡ at + length new = omega (
      arith,
      length-append (take at xs) new,
      length-take-le at xs within,
    ) in
    ap (λ k. drop k (inserted at new xs)) (let same : n + length new ≡ (at + length new) + (n - at) = omega arith in
    same)
    ∙ sym (drop-drop (n - at) (at + length new) (inserted at new xs))
    ∙ ap (drop (n - at)) (drop_at (take at xs ++ new) (drop at xs) (at + length new) long)
    ∙ drop-drop (n - at) at xs ∙ ap (λ k. drop k xs) (let same : at + (n - at) ≡ n = omega arith in same)

pub take-removed : {A : Type 0} (from to : ℕ) (xs : List A) (n : ℕ) → from ≤ length xs → n ≤ from →
    take n (removed from to xs) ≡ take n xs
take-removed from to xs n within before =
    take-append-le n (take from xs) (drop to xs) (omega (arith, length-take-le from xs within))
    ∙ take-take n from xs before

pub drop-removed : {A : Type 0} (from to : ℕ) (xs : List A) (n : ℕ) → from ≤ length xs → from ≤ to → from ≤ n →
    drop n (removed from to xs) ≡ drop (n + (to - from)) xs
drop-removed from to xs n within ordered behind =
    ap (λ k. drop k (removed from to xs)) (let same : n ≡ from + (n - from) = omega arith in same)
    ∙ sym (drop-drop (n - from) from (removed from to xs))
    ∙ ap (drop (n - from)) (drop_at (take from xs) (drop to xs) from (length-take-le from xs within))
    ∙ drop-drop (n - from) to xs ∙ ap (λ k. drop k xs) (let same : to + (n - from) ≡ n + (to - from) = omega arith in
    same)

-- a step on one of two lists that stand in a row
take-append-add : {A : Type 0} (xs ys : List A) (n at : ℕ) → n ≡ length xs + at → take n (xs ++ ys) ≡ xs ++ take at ys
take-append-add [] ys n at is = ap (λ k. take k ys) (let same : n ≡ at = omega arith in same)
take-append-add (x ∷ xs) ys zero at is = absurd (omega arith)
take-append-add (x ∷ xs) ys (suc n) at is = ap (λ zs. x ∷ zs) (take-append-add xs ys n at (omega arith))

drop-append-add : {A : Type 0} (xs ys : List A) (n at : ℕ) → n ≡ length xs + at → drop n (xs ++ ys) ≡ drop at ys
drop-append-add [] ys n at is = ap (λ k. drop k ys) (let same : n ≡ at = omega arith in same)
drop-append-add (x ∷ xs) ys zero at is = absurd (omega arith)
drop-append-add (x ∷ xs) ys (suc n) at is = drop-append-add xs ys n at (omega arith)

pub inserted-append_left : {A : Type 0} (at : ℕ) (new xs ys : List A) → at ≤ length xs →
    inserted at new (xs ++ ys) ≡ inserted at new xs ++ ys
inserted-append_left at new xs ys within =
    ap₂ (λ front back. front ++ new ++ back) (take-append-le at xs ys within) (drop-append-le at xs ys within)
    ∙ sym (append_assoc (take at xs ++ new) (drop at xs) ys)

pub inserted-append_right : {A : Type 0} (at : ℕ) (new xs ys : List A) →
    inserted (length xs + at) new (xs ++ ys) ≡ xs ++ inserted at new ys
inserted-append_right at new xs ys =
    ap₂ (λ front back. front ++ new ++ back) (take-append-add xs ys (length xs + at) at refl)
    (drop-append-add xs ys (length xs + at) at refl)
    ∙ ap (λ zs. zs ++ drop at ys) (append_assoc xs (take at ys) new) ∙ append_assoc xs (take at ys ++ new) (drop at ys)

pub removed-append_left : {A : Type 0} (from to : ℕ) (xs ys : List A) → from ≤ to → to ≤ length xs →
    removed from to (xs ++ ys) ≡ removed from to xs ++ ys
removed-append_left from to xs ys ordered within =
    ap₂ (λ front back. front ++ back) (take-append-le from xs ys (omega arith)) (drop-append-le to xs ys within)
    ∙ sym (append_assoc (take from xs) (drop to xs) ys)

pub removed-append_right : {A : Type 0} (from to : ℕ) (xs ys : List A) →
    removed (length xs + from) (length xs + to) (xs ++ ys) ≡ xs ++ removed from to ys
removed-append_right from to xs ys =
    ap₂ (λ front back. front ++ back) (take-append-add xs ys (length xs + from) from refl)
    (drop-append-add xs ys (length xs + to) to refl)
    ∙ append_assoc xs (take from ys) (drop to ys)

pub changed-append_left : {A : Type 0} (f : A → A) (from to : ℕ) (xs ys : List A) → from ≤ to → to ≤ length xs →
    changed f from to (xs ++ ys) ≡ changed f from to xs ++ ys
changed-append_left f from to xs ys ordered within =
    let middle : slice_range (xs ++ ys) from to ≡ slice_range xs from to =
    ap (take (to - from)) (drop-append-le from xs ys (omega arith))
    ∙ take-append-le (to - from) (drop from xs) ys (omega (arith, length-drop from xs)) in
    ap₂ (λ front back. front ++ back) (ap₂ (λ front part. front ++ map f part) (take-append-le from xs ys (omega arith))
    middle) (drop-append-le to xs ys within)
    ∙ sym (append_assoc (take from xs ++ map f (slice_range xs from to)) (drop to xs) ys)

pub changed-append_right : {A : Type 0} (f : A → A) (from to : ℕ) (xs ys : List A) →
    changed f (length xs + from) (length xs + to) (xs ++ ys) ≡ xs ++ changed f from to ys
changed-append_right f from to xs ys =
    let middle : slice_range (xs ++ ys) (length xs + from) (length xs + to) ≡ slice_range ys from to =
    ap₂ (λ count zs. take count zs) (let same : (length xs + to) - (length xs + from) ≡ to - from = omega arith in
    same) (drop-append-add xs ys (length xs + from) from refl) in
    ap₂ (λ front back. front ++ back) (ap₂ (λ front part. front ++ map f part)
    (take-append-add xs ys (length xs + from) from refl) middle) (drop-append-add xs ys (length xs + to) to refl)
    ∙ ap (λ zs. zs ++ drop to ys) (append_assoc xs (take from ys) (map f (slice_range ys from to)))
    ∙ append_assoc xs (take from ys ++ map f (slice_range ys from to)) (drop to ys)
