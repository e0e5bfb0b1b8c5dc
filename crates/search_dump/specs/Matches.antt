-- What `search` answers (text(n), "search"): the places at which a match may begin in their order, and which of them
-- are listed.
use Rattle.std.specs.Prelude.{ℕ, ◌+◌, ◌-◌, nat_lt, nat_le, Bool, ◌&&◌, Option, None, Some, List, [], ◌∷◌, ◌++◌, map}
use Rattle.std.specs.Prelude.{filter, reverse, length, take, drop, bytes_eq, if◌then◌else◌}
use Rattle.std.specs.List.{list_any, range_with_len}
use Rattle.index_grammar.specs.declared.indices.Direction.{Direction}
use Rattle.index_grammar.specs.declared.indices.Direction.TheVariants.{Forward, Back}
use Rattle.text_index.specs.Positions.{position_text}
use Rattle.ucd_case.specs.CaseFolding.{simple_fold}
use Rattle.search_dump.specs.declared.searching.SearchSwitches.{SearchSwitches}
use Rattle.search_dump.specs.declared.searching.Wanted.{Wanted}
use Rattle.search_dump.specs.declared.searching.Wanted.TheVariants.{First, Apart, All}

-- the places from one to before another
abbrev pub places : ℕ → ℕ → List ℕ
places from to = range_with_len from (to - from)

-- The places of a text of so many characters at which a match may begin, in the order of the search: from the index on,
-- and round the end of the text where no stop is given. Backwards it begins before the index.
abbrev pub candidates : Direction → ℕ → ℕ → Option ℕ → List ℕ
candidates Forward len from None = places from len ++ places 0 from
candidates Forward len from (Some stop) = places from stop
candidates Back len from None = reverse (places 0 from) ++ reverse (places from len)
candidates Back len from (Some stop) = reverse (places stop from)

-- the place behind the limits of the search: the stop, or the index of a backwards search
abbrev pub limit : Direction → ℕ → ℕ → ℕ
limit Forward from stop = stop
limit Back from stop = from

-- the place up to which a match may go
abbrev pub bound : SearchSwitches → ℕ → ℕ → Option ℕ → ℕ
bound search len from None = len
bound search len from (Some stop) = if search.is_strict then limit search.direction from stop else len

-- characters as they are compared
abbrev pub compared : Bool → List ℕ → List ℕ
compared ignores_case text = if ignores_case then map simple_fold text else text

-- the characters from a place on begin with the pattern, and those that match it end at a bound or before it
abbrev pub matches_at : List ℕ → List ℕ → ℕ → ℕ → Bool
matches_at pattern text end place =
    nat_le (place + length pattern) end && bytes_eq (take (length pattern) (drop place text)) pattern

-- the places of the matches in the order of the search
abbrev pub matches : SearchSwitches → List ℕ → List ℕ → ℕ → Option ℕ → List ℕ
matches search pattern text from stop =
    filter (matches_at (compared search.ignores_case pattern) (compared search.ignores_case text)
    (bound search (length text) from stop))
    (candidates search.direction (length text) from stop)

-- whether matches of so many characters at two places share a character
abbrev pub shares : ℕ → ℕ → ℕ → Bool
shares len place other = nat_lt place (other + len) && nat_lt other (place + len)

-- those that share no character with an earlier one that is kept, nor with the ones kept before all
abbrev pub apart : ℕ → List ℕ → List ℕ → List ℕ
apart len kept [] = []
apart len kept (place ∷ later) =
    if list_any (shares len place) kept then apart len kept later else place ∷ apart len (place ∷ kept) later

abbrev pub wanted_of : Wanted → ℕ → List ℕ → List ℕ
wanted_of First len found = take 1 found
wanted_of Apart len found = apart len [] found
wanted_of All len found = found

-- the places of the matches that are listed
abbrev pub found_places : SearchSwitches → List ℕ → List ℕ → ℕ → Option ℕ → List ℕ
found_places search pattern text from stop =
    wanted_of search.wanted (length pattern) (matches search pattern text from stop)

abbrev pub search_result : SearchSwitches → List ℕ → List ℕ → ℕ → Option ℕ → List (List ℕ)
search_result search pattern text from stop = map (position_text text) (found_places search pattern text from stop)
