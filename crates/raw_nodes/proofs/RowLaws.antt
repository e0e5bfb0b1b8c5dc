-- The children of a record as a list.
--     get_or-nones    no name stands in an empty slot
--     get_or-row      what stands in a slot is the child of that number
--     somes-row       the names in a row are the children that it was made of; somes, of any number of empty slots
--     length-row      a row has 12 slots
use Rattle.raw_nodes.proofs.Common.{◌≡◌, ℕ, zero, suc, ◌+◌, ◌-◌, ◌≤◌, List, [], ◌∷◌, ◌++◌, length, get_or, map}
use Rattle.raw_nodes.proofs.Common.{replicate, refl, ap, ◌∙◌, arith, Option, None, Some, slice_get, filter_map}
use Rattle.raw_nodes.proofs.Common.{length-replicate, NodePtr}
use Rattle.raw_nodes.specs.Rows.{row}

pub get_or-nones : (n i : ℕ) → get_or (replicate {A = Option NodePtr} n None) i None ≡ None
get_or-nones zero i = refl
get_or-nones (suc n) zero = refl
get_or-nones (suc n) (suc i) = get_or-nones n i

rowed : (cs : List NodePtr) (n i : ℕ) → get_or (map (λ c. Some c) cs ++ replicate n None) i None ≡ slice_get cs i
rowed [] n i = get_or-nones n i
rowed (c ∷ cs) n zero = refl
rowed (c ∷ cs) n (suc i) = rowed cs n i

pub get_or-row : (cs : List NodePtr) (i : ℕ) → get_or (row cs) i None ≡ slice_get cs i
get_or-row cs i = rowed cs (12 - length cs) i

pub somes : (cs : List NodePtr) (n : ℕ) → filter_map (λ c. c) (map (λ c. Some c) cs ++ replicate n None) ≡ cs
somes [] zero = refl
somes [] (suc n) = somes [] n
somes (c ∷ cs) n = ap (λ ds. c ∷ ds) (somes cs n)

pub somes-row : (cs : List NodePtr) → filter_map (λ c. c) (row cs) ≡ cs
somes-row cs = somes cs (12 - length cs)

row_long : (cs : List NodePtr) (n k : ℕ) → length cs + n ≡ k →
    length (map (λ c. Some c) cs ++ replicate {A = Option NodePtr} n None) ≡ k
row_long [] n k e = length-replicate {A = Option NodePtr} n None ∙ (let f : n ≡ k = omega arith in f)
row_long (c ∷ cs) n zero e = absurd (omega arith)
row_long (c ∷ cs) n (suc k) e = ap suc (row_long cs n k (omega arith))

pub length-row : (cs : List NodePtr) → length cs ≤ 12 → length (row cs) ≡ 12
length-row cs few = row_long cs (12 - length cs) 12 (omega arith)
