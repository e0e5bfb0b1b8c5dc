-- The stretch that is searched first, up to a stop.
use Rattle.search_dump.proofs.Common.{◌≡◌, ℕ, ◌≤◌, Bool, false, true, Some, List, ap, arith, refl, if◌then◌else◌}
use Rattle.search_dump.proofs.Common.{Direction, Forward, Back, bound, candidates, limit, matches_at, places}
use Rattle.search_dump.proofs.Common.{first_high, first_low, first_stretch, matches_in, ordered, SearchSwitches}
use Rattle.std.specs.Prelude.{filter}
use Rattle.search_dump.proofs.RoundLaws.{LiesIn}

high-lies : (direction : Direction) (len from stop : ℕ) → from ≤ len → stop ≤ len →
    first_high direction len from (Some stop) ≤ len
high-lies Forward len from stop begun within = within
high-lies Back len from stop begun within = begun

end-lies : (is_strict : Bool) (direction : Direction) (len from stop : ℕ) → from ≤ len → stop ≤ len →
    (if is_strict then limit direction from stop else len) ≤ len
end-lies true Forward len from stop begun within = within
end-lies true Back len from stop begun within = begun
end-lies false direction len from stop begun within = omega arith

-- it lies in the text
pub first-lies : (search : SearchSwitches) (len from stop : ℕ) → from ≤ len → stop ≤ len →
    LiesIn len (first_stretch search len from (Some stop))
first-lies search len from stop begun within = record {
  high = high-lies search.direction len from stop begun within;
  end = end-lies search.is_strict search.direction len from stop begun within;
}

first-places : (direction : Direction) (len from stop : ℕ) →
    ordered direction (places (first_low direction from (Some stop)) (first_high direction len from (Some stop)))
    ≡ candidates direction len from (Some stop)
first-places Forward len from stop = refl
first-places Back len from stop = refl

-- its matches are those of the search
pub first-matches : (search : SearchSwitches) (pattern text : List ℕ) (len from stop : ℕ) →
    matches_in search.direction pattern text (first_stretch search len from (Some stop))
    ≡ filter (matches_at pattern text (bound search len from (Some stop)))
    (candidates search.direction len from (Some stop))
first-matches search pattern text len from stop = ap
    (filter (matches_at pattern text (bound search len from (Some stop)))) (first-places search.direction len from stop)
