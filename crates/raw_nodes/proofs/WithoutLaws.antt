-- A list but for one element: how long it is, what is read of it, its sums.
use Rattle.raw_nodes.proofs.Common.{◌≡◌, ℕ, ◌<◌, ◌+◌, List, [], ◌∷◌, length, get_or, map, refl, ap, arith, sum_by}
use Rattle.raw_nodes.proofs.Common.{sum_by-cons, without}
use Prim.Native.Nat.{zero, suc}

pub length-without : {X : Type 0} (xs : List X) (i : ℕ) → i < length xs → length (without xs i) + 1 ≡ length xs
length-without [] i h = absurd (omega arith)
length-without (x ∷ xs) zero h = omega arith
length-without (x ∷ xs) (suc i) h = let rest = length-without xs i (omega arith) in omega (arith, rest)

pub map-without : {X Y : Type 0} (f : X → Y) (xs : List X) (i : ℕ) → map f (without xs i) ≡ without (map f xs) i
map-without f [] i = refl
map-without f (x ∷ xs) zero = refl
map-without f (x ∷ xs) (suc i) = ap (λ l. f x ∷ l) (map-without f xs i)

pub sum_by-without : {X : Type 0} (f : X → ℕ) (xs : List X) (i : ℕ) (d : X) → i < length xs →
    sum_by f (without xs i) + f (get_or xs i d) ≡ sum_by f xs
sum_by-without f [] i d h = absurd (omega arith)
sum_by-without f (x ∷ xs) zero d h = let cut = sum_by-cons f x xs in omega (arith, cut)
sum_by-without f (x ∷ xs) (suc i) d h =
    let rest = sum_by-without f xs i d (omega arith) in let cut = sum_by-cons f x xs in
    let less = sum_by-cons f x (without xs i) in omega (arith, rest, cut, less)
