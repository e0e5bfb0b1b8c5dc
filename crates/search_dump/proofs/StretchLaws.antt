-- The matches of a search are those of its stretches.
use Rattle.search_dump.proofs.Common.{◌≡◌, ℕ, List, ◌++◌, refl, ap, ◌∙◌, filter-append, Direction, Forward, Back}
use Rattle.search_dump.proofs.Common.{SearchSwitches, candidates, matches_at, places, first_high, first_low}
use Rattle.search_dump.proofs.Common.{first_stretch, matches_in, ordered, second_high, second_low, second_stretch, None}
use Rattle.std.specs.Prelude.{filter}

candidates-round : (direction : Direction) (len from : ℕ) → candidates direction len from None
    ≡ ordered direction (places (first_low direction from None) (first_high direction len from None))
    ++ ordered direction (places (second_low direction from) (second_high direction len from))
candidates-round Forward len from = refl
candidates-round Back len from = refl

-- round the end of the text
pub matches-round : (search : SearchSwitches) (pattern text : List ℕ) (size from : ℕ)
    → filter (matches_at pattern text size) (candidates search.direction size from None)
    ≡ matches_in search.direction pattern text (first_stretch search size from None)
    ++ matches_in search.direction pattern text (second_stretch search.direction size from)
matches-round search pattern text size from =
    let test = matches_at pattern text size in
    ap (filter test) (candidates-round search.direction size from)
    ∙ filter-append test (ordered search.direction
    (places (first_low search.direction from None) (first_high search.direction size from None)))
    (ordered search.direction (places (second_low search.direction from) (second_high search.direction size from)))
