-- The names of marks by their ranks.
use Rattle.search_dump.proofs.Common.{◌≡◌, ℕ, suc, ◌+◌, List, [], refl, ap, arith, codes, slice_index_or, name_of_rank}
use Rattle.std.specs.Str.{chars}

pub insert-characters : chars (codes "insert") ≡ codes "insert"
unfolding chars
insert-characters = refl

pub current-characters : chars (codes "current") ≡ codes "current"
unfolding chars
current-characters = refl

pub shared-name : (names : List (List ℕ)) (at : ℕ) → name_of_rank names (2 + at) ≡ slice_index_or names at []
shared-name names at = let two : 2 + at ≡ suc (suc at) = omega arith in ap (name_of_rank names) two
