-- Where a pattern matches in a part of a text.
use Rattle.std.specs.Prelude.{ℕ, List, Option, chars, filter, length, map}
use Rattle.index_grammar.specs.declared.indices.Direction.{Direction}
use Rattle.text_index.specs.Positions.{position_text}
use Rattle.text_index.specs.Views.{Part, shown}
use Rattle.search_dump.specs.Matches.{bound, candidates, compared, matches_at, wanted_of}
use Rattle.search_dump.specs.Stretches.{listed_round, matches_in, nearest, second_stretch, HasMatch}
use Rattle.search_dump.specs.declared.matching.Stretch.{Stretch}
use Rattle.search_dump.specs.declared.patterns.Pattern.{Pattern}
use Rattle.search_dump.specs.declared.searching.SearchSwitches.{SearchSwitches}

-- the characters of the part as they are compared with the pattern
abbrev pub searched : Part → Pattern → List ℕ
searched part pattern = compared pattern.ignores_case (shown part)

-- a match begins at a place
abbrev pub HasMatchIn : Part → Pattern → ℕ → Type 0
HasMatchIn part pattern place = HasMatch (chars pattern.text.now) (searched part pattern) place

-- the match of a stretch that comes first in a direction
abbrev pub nearest_in : Part → Pattern → Direction → Stretch → Option ℕ
nearest_in part pattern direction stretch =
    nearest direction (chars pattern.text.now) (searched part pattern) stretch

-- ---- what is listed, as the texts of places

-- of a stretch
abbrev pub listed_in : Part → Pattern → SearchSwitches → Stretch → List (List ℕ)
listed_in part pattern search stretch =
    map (position_text (shown part)) (wanted_of search.wanted (length (chars pattern.text.now))
    (matches_in search.direction (chars pattern.text.now) (searched part pattern) stretch))

-- of the stretch round the end of the text, behind the first match listed before
abbrev pub listed_behind : Part → Pattern → SearchSwitches → ℕ → Option ℕ → List (List ℕ)
listed_behind part pattern search from listed =
    map (position_text (shown part))
    (listed_round search.wanted search.direction (chars pattern.text.now) (searched part pattern)
    (second_stretch search.direction (length (shown part)) from) listed)

-- from a place on, and round the end of the text or up to a stop
abbrev pub listed_whole : Part → Pattern → SearchSwitches → ℕ → Option ℕ → List (List ℕ)
listed_whole part pattern search from stop =
    map (position_text (shown part)) (wanted_of search.wanted (length (chars pattern.text.now))
    (filter (matches_at (chars pattern.text.now) (searched part pattern)
    (bound search (length (shown part)) from stop))
    (candidates search.direction (length (shown part)) from stop)))
