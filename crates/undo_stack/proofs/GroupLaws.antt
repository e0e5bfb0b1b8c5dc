-- What a row in groups is, as the row or the lengths change at an end, or the border between two groups moves.
use Rattle.undo_stack.proofs.Common.{◌≡◌, take_all, ℕ, zero, suc, ◌+◌, ◌<◌, ◌≤◌, List, [], ◌∷◌, ◌++◌, length, take}
use Rattle.undo_stack.proofs.Common.{drop, get_or, Some, refl, sym, ap, ap₂, ◌∙◌, arith, length-append, length-drop}
use Rattle.undo_stack.proofs.Common.{length-take, sum, slice_get, drop-drop, take-append-le, drop-append-le}
use Rattle.undo_stack.proofs.Common.{take-append-drop, drop_of_length-le, Action, onto_last, grouped}
use Rattle.std.proofs.lemmas.List.Sums.{sum_by-cons, sum_by-append}

pub sum-cons : (n : ℕ) (ns : List ℕ) → sum (n ∷ ns) ≡ n + sum ns
sum-cons n ns = sum_by-cons (λ x. x) n ns

pub sum-append : (ns ms : List ℕ) → sum (ns ++ ms) ≡ sum ns + sum ms
sum-append ns ms = sum_by-append (λ x. x) ns ms

pub sum-one : (ns : List ℕ) (n : ℕ) → sum (ns ++ n ∷ []) ≡ sum ns + n
sum-one ns n =
    sum-append ns (n ∷ []) ∙ ap (λ k. sum ns + k) (let e : sum (n ∷ []) ≡ n = sum-cons n [] ∙ omega arith in e)

pub length-grouped : {A : Type 0} (lengths : List ℕ) (xs : List A) → length (grouped lengths xs) ≡ length lengths
length-grouped [] xs = refl
length-grouped (n ∷ lengths) xs = ap suc (length-grouped lengths (drop n xs))

pub take-grouped : {A : Type 0} (k : ℕ) (lengths : List ℕ) (xs : List A) →
    take k (grouped lengths xs) ≡ grouped (take k lengths) xs
take-grouped zero lengths xs = refl
take-grouped (suc k) [] xs = refl
take-grouped (suc k) (n ∷ lengths) xs = ap (λ gs. take n xs ∷ gs) (take-grouped k lengths (drop n xs))

pub grouped-append : {A : Type 0} (lengths others : List ℕ) (xs : List A)
    → grouped (lengths ++ others) xs ≡ grouped lengths xs ++ grouped others (drop (sum lengths) xs)
grouped-append [] others xs = refl
grouped-append (n ∷ lengths) others xs =
    ap (λ gs. take n xs ∷ gs) (grouped-append lengths others (drop n xs))
    ∙ ap (λ ys. take n xs ∷ (grouped lengths (drop n xs) ++ grouped others ys)) (drop-drop (sum lengths) n xs
    ∙ ap (λ k. drop k xs) (sym (sum-cons n lengths)))

-- what stands behind the last group is no matter
pub grouped-front : {A : Type 0} (lengths : List ℕ) (xs ys : List A) → sum lengths ≤ length xs →
    grouped lengths (xs ++ ys) ≡ grouped lengths xs
grouped-front [] xs ys within = refl
grouped-front (n ∷ lengths) xs ys within =
    let whole : n + sum lengths ≤ length xs = rw (sym (sum-cons n lengths)) within in
    let first : n ≤ length xs = omega arith in
    let rest : sum lengths ≤ length (drop n xs) = rw (length-drop n xs) (omega arith) in
    ap₂ (λ g gs. g ∷ gs) (take-append-le n xs ys first)
    (ap (grouped lengths) (drop-append-le n xs ys first) ∙ grouped-front lengths (drop n xs) ys rest)

pub grouped-take : {A : Type 0} (lengths : List ℕ) (count : ℕ) (xs : List A) → sum lengths ≡ count → count ≤ length xs →
    grouped lengths (take count xs) ≡ grouped lengths xs
grouped-take lengths count xs is within =
    sym (ap (grouped lengths) (sym (take-append-drop count xs))
    ∙ grouped-front lengths (take count xs) (drop count xs) (rw (length-take count xs, is) (omega arith)))

-- a group of one action more
pub grouped-new : {A : Type 0} (lengths : List ℕ) (xs : List A) (x : A) → sum lengths ≡ length xs
    → grouped (lengths ++ 1 ∷ []) (xs ++ x ∷ []) ≡ grouped lengths xs ++ (x ∷ []) ∷ []
grouped-new lengths xs x is =
    grouped-append lengths (1 ∷ []) (xs ++ x ∷ [])
    ∙ ap₂ (λ gs ys. gs ++ grouped (1 ∷ []) ys) (grouped-front lengths xs (x ∷ []) (omega (arith, is)))
    (drop-append-le (sum lengths) xs (x ∷ []) (omega (arith, is))
    ∙ ap (λ ys. ys ++ x ∷ []) (drop_of_length-le xs (omega (arith, is))))

onto_last-append : (action : Action) (groups : List (List Action)) (group : List Action)
    → onto_last action (groups ++ group ∷ []) ≡ groups ++ (group ++ action ∷ []) ∷ []
onto_last-append action [] group = refl
onto_last-append action (g ∷ []) group = refl
onto_last-append action (g ∷ h ∷ groups) group = ap (λ gs. g ∷ gs) (onto_last-append action (h ∷ groups) group)

-- an action more in the last group
pub grouped-join : (front : List ℕ) (n : ℕ) (xs : List Action) (x : Action) → sum front + n ≡ length xs
    → grouped (front ++ (n + 1) ∷ []) (xs ++ x ∷ []) ≡ onto_last x (grouped (front ++ n ∷ []) xs)
grouped-join front n xs x is =
    let ys = drop (sum front) xs in
    let count : length ys ≡ n = length-drop (sum front) xs ∙ omega (arith, is) in
    grouped-append front ((n + 1) ∷ []) (xs ++ x ∷ [])
    ∙ ap₂ (λ gs zs. gs ++ take (n + 1) zs ∷ []) (grouped-front front xs (x ∷ []) (omega (arith, is)))
    (drop-append-le (sum front) xs (x ∷ []) (omega (arith, is)))
    ∙ ap (λ g. grouped front xs ++ g ∷ []) (take_all (n + 1) (ys ++ x ∷ [])
    (rw (length-append ys (x ∷ []), count) (omega arith))
    ∙ ap (λ g. g ++ x ∷ []) (sym (take_all n ys (omega (arith, count)))))
    ∙ sym (onto_last-append x (grouped front xs) (take n ys))
    ∙ ap (onto_last x) (sym (grouped-append front (n ∷ []) xs))

-- the group at a place
pub slice_get-grouped : {A : Type 0} (lengths : List ℕ) (k : ℕ) (xs : List A) → k < length lengths
    → slice_get (grouped lengths xs) k ≡ Some (take (get_or lengths k 0) (drop (sum (take k lengths)) xs))
slice_get-grouped [] k xs within = absurd (omega arith)
slice_get-grouped (n ∷ lengths) zero xs within = refl
slice_get-grouped (n ∷ lengths) (suc k) xs within =
    slice_get-grouped lengths k (drop n xs) (omega arith)
    ∙ ap (λ ys. Some (take (get_or lengths k 0) ys)) (drop-drop (sum (take k lengths)) n xs
    ∙ ap (λ j. drop j xs) (sym (sum-cons n (take k lengths))))
