-- A stretch of places at which a match may begin, and what is left of it behind a match that is listed.
use Rattle.std.specs.Prelude.{◌≡◌, ◌≢◌, ℕ, ◌+◌, ◌-◌, ◌<◌, ◌≤◌, max, min, true, List, [], ◌∷◌, Option, None, Some}
use Rattle.std.specs.Prelude.{filter, find, reverse, length, take, drop, unwrap_or}
use Rattle.index_grammar.specs.declared.indices.Direction.{Direction}
use Rattle.index_grammar.specs.declared.indices.Direction.TheVariants.{Forward, Back}
use Rattle.search_dump.specs.declared.matching.Stretch.{Stretch}
use Rattle.search_dump.specs.declared.searching.SearchSwitches.{SearchSwitches}
use Rattle.search_dump.specs.declared.searching.Wanted.{Wanted}
use Rattle.search_dump.specs.declared.searching.Wanted.TheVariants.{First, Apart, All}
use Rattle.search_dump.specs.Matches.{apart, bound, matches_at, places, wanted_of}

-- places in the order of a search
abbrev pub ordered : Direction → List ℕ → List ℕ
ordered Forward xs = xs
ordered Back xs = reverse xs

-- the places of a stretch at which a text has a pattern, in the order of a search
abbrev pub matches_in : Direction → List ℕ → List ℕ → Stretch → List ℕ
matches_in direction pattern text stretch =
    filter (matches_at pattern text stretch.end) (ordered direction (places stretch.low stretch.high))

-- the first so many places of a stretch in the order of a search, and the others
abbrev pub front : Direction → ℕ → Stretch → Stretch
front Forward count stretch = record stretch { high = stretch.low + count }
front Back count stretch = record stretch { low = stretch.high - count }

abbrev pub behind_front : Direction → ℕ → Stretch → Stretch
behind_front Forward count stretch = record stretch { low = stretch.low + count }
behind_front Back count stretch = record stretch { high = stretch.high - count }

-- the first match of a stretch
abbrev pub nearest : Direction → List ℕ → List ℕ → Stretch → Option ℕ
nearest direction pattern text stretch =
    find (matches_at pattern text stretch.end) (ordered direction (places stretch.low stretch.high))

-- a pattern goes on like itself at a distance, and at no lesser one
pub record IsPeriod (pattern : List ℕ) (distance : ℕ) (first last : List ℕ) : Type 0 where
  pub some : 0 < distance
  pub within : distance ≤ length pattern
  pub again : drop distance pattern ≡ take (length pattern - distance) pattern
  pub least : (less : ℕ) → 0 < less → less < distance → drop less pattern ≢ take (length pattern - less) pattern
  pub front : first ≡ take distance pattern
  pub tail : last ≡ drop (length pattern - distance) pattern

-- a pattern stands at a place of a text
abbrev pub HasMatch : List ℕ → List ℕ → ℕ → Type 0
HasMatch pattern text place = matches_at pattern text (length text) place ≡ true

-- the place at a distance in a direction
abbrev pub beside : Direction → ℕ → ℕ → ℕ
beside Forward place distance = place + distance
beside Back place distance = place - distance

-- a text has room for a match at a distance of one
abbrev pub HasRoom : Direction → List ℕ → ℕ → ℕ → ℕ → Type 0
HasRoom Forward text place len distance = place + len + distance ≤ length text
HasRoom Back text place len distance = distance ≤ place

-- all places of a stretch stand behind one in a direction
abbrev pub IsBehind : Direction → Stretch → ℕ → Type 0
IsBehind Forward stretch place = place < stretch.low
IsBehind Back stretch place = stretch.high ≤ place

-- Where a search begins: from the index on, or backwards before it, up to a stop if one is given.
abbrev pub first_low : Direction → ℕ → Option ℕ → ℕ
first_low Forward from stop = from
first_low Back from stop = unwrap_or stop 0

abbrev pub first_high : Direction → ℕ → ℕ → Option ℕ → ℕ
first_high Forward len from stop = unwrap_or stop len
first_high Back len from stop = from

abbrev pub first_stretch : SearchSwitches → ℕ → ℕ → Option ℕ → Stretch
first_stretch search len from stop =
    record {
      low = first_low search.direction from stop;
      high = first_high search.direction len from stop;
      end = bound search len from stop;
    }

-- Where it goes on round the end of the text.
abbrev pub second_low : Direction → ℕ → ℕ
second_low Forward from = 0
second_low Back from = from

abbrev pub second_high : Direction → ℕ → ℕ → ℕ
second_high Forward len from = from
second_high Back len from = len

abbrev pub second_stretch : Direction → ℕ → ℕ → Stretch
second_stretch direction len from =
    record { low = second_low direction from; high = second_high direction len from; end = len }

-- What is left of a stretch behind a match of so many characters at a place: those that share no character with it,
-- where no two may, and else all others.
abbrev pub left_behind : Wanted → Direction → Stretch → ℕ → ℕ → Stretch
left_behind First Forward stretch place len = record stretch { low = max stretch.low (place + 1) }
left_behind First Back stretch place len = record stretch { high = min stretch.high place }
left_behind All Forward stretch place len = record stretch { low = max stretch.low (place + 1) }
left_behind All Back stretch place len = record stretch { high = min stretch.high place }
left_behind Apart Forward stretch place len = record stretch { low = max stretch.low (place + max len 1) }
left_behind Apart Back stretch place len = record stretch { high = min stretch.high place; end = min stretch.end place }

-- What is left of the stretch round the end of the text, where the first match listed is one of so many characters at a
-- place.
abbrev pub left_round : Wanted → Direction → Stretch → ℕ → ℕ → Stretch
left_round First direction stretch place len = stretch
left_round All direction stretch place len = stretch
left_round Apart Forward stretch place len = record stretch { end = min stretch.end place }
left_round Apart Back stretch place len = record stretch { low = max stretch.low (place + len) }

-- That where it is listed behind the first match listed before, if there is one; none where nothing more is.
abbrev pub left_to_list : Wanted → Direction → Stretch → Option ℕ → ℕ → Option Stretch
left_to_list wanted direction stretch None len = Some stretch
left_to_list First direction stretch (Some place) len = None
left_to_list Apart direction stretch (Some place) len = Some (left_round Apart direction stretch place len)
left_to_list All direction stretch (Some place) len = Some stretch

-- ---- what is listed

-- what is listed of some matches behind the first that is listed
abbrev pub rest_of : Wanted → ℕ → List ℕ → List ℕ
rest_of First len found = []
rest_of Apart len found = apart len [] found
rest_of All len found = found

-- the next match to list behind another one
abbrev pub next_of : Wanted → Option ℕ → Option ℕ
next_of First next = None
next_of Apart next = next
next_of All next = next

-- what is listed of a stretch from its first match on
abbrev pub listed_from : Wanted → Direction → List ℕ → List ℕ → Stretch → Option ℕ → List ℕ
listed_from wanted direction pattern text stretch None = []
listed_from wanted direction pattern text stretch (Some place) =
    place ∷ rest_of wanted (length pattern) (matches_in direction pattern text
    (left_behind wanted direction stretch place (length pattern)))

-- what is listed of the stretch round the end of the text, behind the first match listed before
abbrev pub listed_round : Wanted → Direction → List ℕ → List ℕ → Stretch → Option ℕ → List ℕ
listed_round wanted direction pattern text stretch None =
    wanted_of wanted (length pattern) (matches_in direction pattern text stretch)
listed_round wanted direction pattern text stretch (Some place) =
    rest_of wanted (length pattern) (matches_in direction pattern text
    (left_round wanted direction stretch place (length pattern)))
