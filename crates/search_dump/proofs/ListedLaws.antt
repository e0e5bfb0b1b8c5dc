-- Which matches of a search are listed.
use Rattle.search_dump.proofs.Common.{◌≡◌, ℕ, inl, inr, ◌+◌, ◌-◌, ◌<◌, ◌≤◌, ◌&&◌, ◌||◌, max, min, Bool, true, false}
use Rattle.search_dump.proofs.Common.{Option, None, Some, List, [], ◌∷◌, ◌++◌, length, map, reverse, refl, sym, ap}
use Rattle.search_dump.proofs.Common.{subst, ◌∙◌, arith, IfSome, nat_le, nat_lt, not, none-some, Goes, goes_nowhere}
use Rattle.search_dump.proofs.Common.{goes_on, filter, list_any, and_from, and_left, and_parts, and_right, cases_lt}
use Rattle.search_dump.proofs.Common.{le-leb, le-ltb, lt-leb, lt-ltb, ltb-true, or_left, map-append, get_or-reverse}
use Rattle.search_dump.proofs.Common.{length-reverse, All-filter, Direction, Forward, Back, Stretch, SearchSwitches}
use Rattle.search_dump.proofs.Common.{Wanted, First, Apart, apart, bound, candidates, compared, found_places, matches}
use Rattle.search_dump.proofs.Common.{matches_at, places, shares, wanted_of, HasMatch, first_high, first_low}
use Rattle.search_dump.proofs.Common.{first_stretch, left_behind, left_round, listed_from, listed_round, matches_in}
use Rattle.search_dump.proofs.Common.{nearest, next_of, ordered, second_stretch, and-false, and-true}
use Rattle.std.specs.List.{All}
use Rattle.std.proofs.lemmas.List.FromFn.{get_or-range_with_len, length-range_with_len}
use Rattle.search_dump.specs.declared.searching.Wanted.TheVariants.{All as Every}
use Rattle.search_dump.proofs.ApartLaws.{apart-append, apart-behind, kept_by, kept_by-any, kept_by-first}
use Rattle.search_dump.proofs.MatchLaws.{match-fits, match-from, match-same}
use Rattle.search_dump.proofs.OrderLaws.{behind_first, filter-both, filter-none, filter-ordered, first-of, places-agree}
use Rattle.search_dump.proofs.OrderLaws.{places-from}
use Rattle.search_dump.proofs.PlaceLaws.{found-ordered}
use Rattle.search_dump.proofs.StretchLaws.{matches-round}
use Rattle.search_dump.proofs.WindowLaws.{length-compared, match-past, match-where}

shares-yes : (len k place : ℕ) → k < place + len → place < k + len → shares len k place ≡ true
shares-yes len k place first second = and_from _ _ (lt-ltb k (place + len) first) (lt-ltb place (k + len) second)

shares-behind : (len k place : ℕ) → place + len ≤ k → shares len k place ≡ false
shares-behind len k place past = and_left _ (nat_lt place (k + len)) (le-ltb k (place + len) past)

shares-before : (len k place : ℕ) → k + len ≤ place → shares len k place ≡ false
shares-before len k place past = and_right (nat_lt k (place + len)) _ (le-ltb place (k + len) past)

-- a test of what is behind a place or before it
unshared-behind : (len k place low : ℕ) (test : Bool) → place < k → (k < low → k < place + len) →
    (low ≤ k → place + len ≤ k)
    → (test && not (shares len k place || false)) ≡ (nat_le low k && test)
unshared-behind len k place low test behind yes-it no-it =
    elim (cases_lt k low) [
      | inl before ↦
          ap (λ b. test && not (b || false)) (shares-yes len k place (yes-it before) (omega arith)) ∙ and-false test
          ∙ sym (ap (λ b. b && test) (lt-leb low k before))
      | inr inside ↦
          ap (λ b. test && not (b || false)) (shares-behind len k place (no-it inside)) ∙ and-true test
          ∙ sym (ap (λ b. b && test) (le-leb low k inside))
    ]

match-end : (pattern text : List ℕ) (end place k : ℕ) → k + length pattern ≤ place →
    matches_at pattern text end k ≡ matches_at pattern text (min end place) k
match-end pattern text end place k within =
    elim (cases_lt end (k + length pattern)) [
      | inl past ↦ match-past pattern text end k past ∙ sym (match-past pattern text (min end place) k (omega arith))
      | inr fits ↦ match-where pattern text end k fits ∙ sym (match-where pattern text (min end place) k (omega arith))
    ]

unshared-before : (pattern text : List ℕ) (end place k : ℕ) → k < place
    → (matches_at pattern text end k && not (shares (length pattern) k place || false))
    ≡ matches_at pattern text (min end place) k
unshared-before pattern text end place k before =
    elim (cases_lt place (k + length pattern)) [
      | inl beyond ↦
          ap (λ b. matches_at pattern text end k && not (b || false))
          (shares-yes (length pattern) k place (omega arith) beyond) ∙ and-false (matches_at pattern text end k)
          ∙ sym (match-past pattern text (min end place) k (omega arith))
      | inr inside ↦
          ap (λ b. matches_at pattern text end k && not (b || false)) (shares-before (length pattern) k place inside)
          ∙ and-true (matches_at pattern text end k)
          ∙ match-end pattern text end place k inside
    ]

-- ---- behind the first match of a stretch

apart-left : (direction : Direction) (pattern text : List ℕ) (stretch : Stretch) (place : ℕ) → stretch.low ≤ place →
    place < stretch.high
    → apart (length pattern) (place ∷ []) (filter (matches_at pattern text stretch.end)
    (behind_first direction stretch.low stretch.high place))
    ≡ apart (length pattern) [] (matches_in direction pattern text
    (left_behind Apart direction stretch place (length pattern)))
apart-left Forward pattern text stretch place above below =
    let len = length pattern in
    let test = matches_at pattern text stretch.end in
    apart-behind len (place ∷ []) [] (filter test (places (place + 1) stretch.high))
    ∙ ap (apart len [])
    (filter-both test (λ x. not (list_any (shares len x) (place ∷ []))) (places (place + 1) stretch.high)
    ∙ places-agree (λ x. test x && not (list_any (shares len x) (place ∷ []))) (λ k. nat_le (place + max len 1) k
    && test k) (place + 1) stretch.high
    (λ k from to. unshared-behind len k place (place + max len 1) (test k) (omega arith) (λ before. omega arith)
    (λ inside. omega arith))
    ∙ places-from test (place + 1) (place + max len 1) stretch.high (omega arith)
    ∙ ap (λ low. filter test (places low stretch.high)) (let e : place + max len 1
    ≡ max stretch.low (place + max len 1) = omega arith in e))
apart-left Back pattern text stretch place above below =
    let len = length pattern in
    let test = matches_at pattern text stretch.end in
    apart-behind len (place ∷ []) [] (filter test (reverse (places stretch.low place)))
    ∙ ap (apart len [])
    (filter-both test (λ x. not (list_any (shares len x) (place ∷ []))) (reverse (places stretch.low place))
    ∙ filter-ordered Back (λ x. test x && not (list_any (shares len x) (place ∷ []))) (places stretch.low place)
    ∙ ap reverse (places-agree (λ x. test x && not (list_any (shares len x) (place ∷ [])))
    (matches_at pattern text (min stretch.end place)) stretch.low place
    (λ k from to. unshared-before pattern text stretch.end place k to))
    ∙ sym (filter-ordered Back (matches_at pattern text (min stretch.end place)) (places stretch.low place))
    ∙ ap (λ high. filter (matches_at pattern text (min stretch.end place)) (reverse (places stretch.low high)))
    (let e : place ≡ min stretch.high place = omega arith in e))

every-left : (direction : Direction) (pattern text : List ℕ) (stretch : Stretch) (place : ℕ) → stretch.low ≤ place →
    place < stretch.high
    → filter (matches_at pattern text stretch.end) (behind_first direction stretch.low stretch.high place)
    ≡ matches_in direction pattern text (left_behind Every direction stretch place (length pattern))
every-left Forward pattern text stretch place above below =
    ap (λ low. filter (matches_at pattern text stretch.end) (places low stretch.high)) (omega arith)
every-left Back pattern text stretch place above below =
    ap (λ high. filter (matches_at pattern text stretch.end) (reverse (places stretch.low high))) (omega arith)

wanted-none : (wanted : Wanted) (len : ℕ) → wanted_of wanted len [] ≡ []
wanted-none First len = refl
wanted-none wanted len = refl

listed-some : (wanted : Wanted) (direction : Direction) (pattern text : List ℕ) (stretch : Stretch) (place : ℕ) →
    stretch.low ≤ place → place < stretch.high
    → wanted_of wanted (length pattern) (place
    ∷ filter (matches_at pattern text stretch.end) (behind_first direction stretch.low stretch.high place))
    ≡ listed_from wanted direction pattern text stretch (Some place)
listed-some First direction pattern text stretch place above below = refl
listed-some Apart direction pattern text stretch place above below =
    ap (λ xs. place ∷ xs) (apart-left direction pattern text stretch place above below)
listed-some Every direction pattern text stretch place above below =
    ap (λ xs. place ∷ xs) (every-left direction pattern text stretch place above below)

-- what is listed of a stretch, by its first match
pub listed-is : (wanted : Wanted) (direction : Direction) (pattern text : List ℕ) (stretch : Stretch) (first : Option ℕ)
    → first ≡ nearest direction pattern text stretch
    → wanted_of wanted (length pattern) (matches_in direction pattern text stretch)
    ≡ listed_from wanted direction pattern text stretch first
listed-is wanted direction pattern text stretch None is =
    ap (wanted_of wanted (length pattern)) (filter-none (matches_at pattern text stretch.end)
    (ordered direction (places stretch.low stretch.high)) (sym is)) ∙ wanted-none wanted (length pattern)
listed-is wanted direction pattern text stretch (Some place) is =
    let found = found-ordered direction (matches_at pattern text stretch.end) stretch.low stretch.high place (sym is) in
    ap (wanted_of wanted (length pattern)) (first-of direction (matches_at pattern text stretch.end) stretch.low
    stretch.high place (sym is))
    ∙ listed-some wanted direction pattern text stretch place found.above found.below

-- one match on
pub listed-next : (wanted : Wanted) (direction : Direction) (pattern text : List ℕ) (stretch : Stretch) (place : ℕ)
    (next : Option ℕ)
    → next ≡ next_of wanted (nearest direction pattern text
    (left_behind wanted direction stretch place (length pattern)))
    → listed_from wanted direction pattern text stretch (Some place)
    ≡ place ∷ listed_from wanted direction pattern text
    (left_behind wanted direction stretch place (length pattern)) next
listed-next First direction pattern text stretch place next is =
    ap (λ o. place ∷ listed_from First direction pattern text
    (left_behind First direction stretch place (length pattern)) o) (sym is)
listed-next Apart direction pattern text stretch place next is = ap (λ xs. place ∷ xs)
    (listed-is Apart direction pattern text (left_behind Apart direction stretch place (length pattern)) next is)
listed-next Every direction pattern text stretch place next is = ap (λ xs. place ∷ xs)
    (listed-is Every direction pattern text (left_behind Every direction stretch place (length pattern)) next is)

-- ---- round the end of the text

module _ (P : ℕ → Type 0) (low high : ℕ) (each : (k : ℕ) → low ≤ k → k < high → P k) where
  All-places : All P (places low high)
  All-places k d within =
      let long : length (places low high) ≡ high - low = length-range_with_len low (high - low) in
      subst P (sym (get_or-range_with_len low (high - low) k d (omega arith)))
      (each (low + k) (omega arith) (omega arith))

  All-ordered : (direction : Direction) → All P (ordered direction (places low high))
  All-ordered Forward k d within = All-places k d within
  All-ordered Back k d within =
      let long : length (reverse (places low high)) ≡ length (places low high) = length-reverse (places low high) in
      subst P (sym (get_or-reverse (places low high) k d (omega arith)))
      (All-places (length (places low high) - 1 - k) d (omega arith))

-- what is kept of the matches before says no more of a place than the first of them
kept-shares : (len k place : ℕ) (later : List ℕ) →
    All (λ y. shares len k y ≡ true → (shares len k place || false) ≡ true) later
    → list_any (shares len k) (kept_by len [] (place ∷ later)) ≡ (shares len k place || false)
kept-shares len k place later all =
    ap (list_any (shares len k)) (kept_by-first len place later) ∙ kept_by-any len (shares len k) (place ∷ []) later all

shares-ahead : (len k place other : ℕ) → k < place → place < other → shares len k other ≡ true →
    (shares len k place || false) ≡ true
shares-ahead len k place other before behind is =
    let parts = and_parts (nat_lt k (other + len)) (nat_lt other (k + len)) is in
    let near : other < k + len = ltb-true other (k + len) parts.1 in
    or_left (shares len k place) false (shares-yes len k place (omega arith) (omega arith))

shares-back : (len k place other : ℕ) → place < k → other < place → shares len k other ≡ true →
    (shares len k place || false) ≡ true
shares-back len k place other behind before is =
    let parts = and_parts (nat_lt k (other + len)) (nat_lt other (k + len)) is in
    let near : k < other + len = ltb-true k (other + len) parts.0 in
    or_left (shares len k place) false (shares-yes len k place (omega arith) (omega arith))

-- where the first of them stands
abbrev IsIn : Direction → ℕ → ℕ → ℕ → Type 0
IsIn Forward size from place = (from ≤ place) × (place < size)
IsIn Back size from place = (0 ≤ place) × (place < from)

-- the matches round the end that share no character with the first one listed before
apart-round : (direction : Direction) (pattern text : List ℕ) (size from place : ℕ) (test : ℕ → Bool)
    → IsIn direction size from place
    → apart (length pattern) (kept_by (length pattern) [] (place
    ∷ filter test (behind_first direction (first_low direction from None) (first_high direction size from None) place)))
    (matches_in direction pattern text (second_stretch direction size from))
    ≡ apart (length pattern) [] (matches_in direction pattern text
    (left_round Apart direction (second_stretch direction size from) place (length pattern)))
apart-round Forward pattern text size from place test within =
    let len = length pattern in
    let all = matches_at pattern text size in
    let later = filter test (places (place + 1) size) in
    let kept = kept_by len [] (place ∷ later) in
    apart-behind len kept [] (filter all (places 0 from))
    ∙ ap (apart len [])
    (filter-both all (λ x. not (list_any (shares len x) kept)) (places 0 from)
    ∙ places-agree (λ x. all x && not (list_any (shares len x) kept)) (matches_at pattern text (min size place)) 0 from
    (λ k above below.
    ap (λ b. all k && not b)
    (kept-shares len k place later
    (All-filter test (λ y. shares len k y ≡ true → (shares len k place || false) ≡ true) (places (place + 1) size)
    (All-places (λ y. shares len k y ≡ true → (shares len k place || false)
    ≡ true) (place + 1) size (λ y low high. shares-ahead len k place y (omega (arith, within.0)) (omega arith)))))
    ∙ unshared-before pattern text size place k (omega (arith, within.0))))
apart-round Back pattern text size from place test within =
    let len = length pattern in
    let all = matches_at pattern text size in
    let later = filter test (reverse (places 0 place)) in
    let kept = kept_by len [] (place ∷ later) in
    let next = max from (place + len) in
    apart-behind len kept [] (filter all (reverse (places from size)))
    ∙ ap (apart len [])
    (filter-both all (λ x. not (list_any (shares len x) kept)) (reverse (places from size))
    ∙ filter-ordered Back (λ x. all x && not (list_any (shares len x) kept)) (places from size)
    ∙ ap reverse
    (places-agree (λ x. all x && not (list_any (shares len x) kept)) (λ k. nat_le next k && all k) from size
    (λ k above below.
    ap (λ b. all k && not b)
    (kept-shares len k place later
    (All-filter test (λ y. shares len k y ≡ true → (shares len k place || false) ≡ true) (reverse (places 0 place))
    (All-ordered (λ y. shares len k y ≡ true → (shares len k place || false)
    ≡ true) 0 place (λ y low high. shares-back len k place y (omega (arith, within.1)) high) Back)))
    ∙ unshared-behind len k place next (all k) (omega (arith, within.1)) (λ before. omega arith) (λ inside.
    omega arith))
    ∙ places-from all from next size (omega arith))
    ∙ sym (filter-ordered Back all (places next size)))

round-some : (wanted : Wanted) (direction : Direction) (pattern text : List ℕ) (size from place : ℕ) (test : ℕ → Bool) →
    IsIn direction size from place
    → wanted_of wanted (length pattern) (place
    ∷ filter test (behind_first direction (first_low direction from None) (first_high direction size from None) place)
    ++ matches_in direction pattern text (second_stretch direction size from))
    ≡ wanted_of wanted (length pattern) (place
    ∷ filter test (behind_first direction (first_low direction from None) (first_high direction size from None) place))
    ++ listed_round wanted direction pattern text (second_stretch direction size from) (Some place)
round-some First direction pattern text size from place test within = refl
round-some Apart direction pattern text size from place test within =
    let before = place ∷ filter test
    (behind_first direction (first_low direction from None) (first_high direction size from None) place) in
    apart-append (length pattern) [] before (matches_in direction pattern text (second_stretch direction size from))
    ∙ ap (λ xs. apart (length pattern) [] before ++ xs) (apart-round direction pattern text size from place test within)
round-some Every direction pattern text size from place test within = refl

in-first : (direction : Direction) (size from place : ℕ) → first_low direction from None ≤ place →
    place < first_high direction size from None → IsIn direction size from place
in-first Forward size from place above below = (above, below)
in-first Back size from place above below = (above, below)

-- what is listed before the end of the text, and round it
pub round-is : (search : SearchSwitches) (pattern text : List ℕ) (size from : ℕ) (first : Option ℕ) →
    first ≡ nearest search.direction pattern text (first_stretch search size from None)
    → wanted_of search.wanted (length pattern)
    (matches_in search.direction pattern text (first_stretch search size from None)
    ++ matches_in search.direction pattern text (second_stretch search.direction size from))
    ≡ wanted_of search.wanted (length pattern)
    (matches_in search.direction pattern text (first_stretch search size from None))
    ++ listed_round search.wanted search.direction pattern text (second_stretch search.direction size from) first
round-is search pattern text size from None is =
    let later = matches_in search.direction pattern text (second_stretch search.direction size from) in
    let none = filter-none (matches_at pattern text size)
    (ordered search.direction (places (first_low search.direction from None)
    (first_high search.direction size from None))) (sym is) in
    ap (λ xs. wanted_of search.wanted (length pattern) (xs ++ later)) none
    ∙ sym (ap (λ xs. wanted_of search.wanted (length pattern) xs ++ wanted_of search.wanted (length pattern) later) none
    ∙ ap (λ xs. xs ++ wanted_of search.wanted (length pattern) later) (wanted-none search.wanted (length pattern)))
round-is search pattern text size from (Some place) is =
    let direction = search.direction in
    let test = matches_at pattern text size in
    let low = first_low direction from None in
    let high = first_high direction size from None in
    let found = found-ordered direction test low high place (sym is) in
    let begins = first-of direction test low high place (sym is) in
    let later = matches_in direction pattern text (second_stretch direction size from) in
    ap (λ xs. wanted_of search.wanted (length pattern) (xs ++ later)) begins
    ∙ round-some search.wanted direction pattern text size from place test
    (in-first direction size from place found.above found.below)
    ∙ sym (ap (λ xs. wanted_of search.wanted (length pattern) xs
    ++ listed_round search.wanted direction pattern text (second_stretch direction size from) (Some place)) begins)

-- ---- as they are listed

-- a match that comes next
pub record IsNext (direction : Direction) (pattern text : List ℕ) (stretch : Stretch) (place : ℕ) : Type 0 where
  pub is : nearest direction pattern text stretch ≡ Some place
  pub above : stretch.low ≤ place
  pub below : place < stretch.high
  pub fits : place + length pattern ≤ stretch.end
  pub matches : HasMatch pattern text place

-- fewer places are left behind it
pub left-less : (wanted : Wanted) (direction : Direction) (stretch : Stretch) (place len : ℕ) → stretch.low ≤ place →
    place < stretch.high
    → (left_behind wanted direction stretch place len).high - (left_behind wanted direction stretch place len).low
    < stretch.high - stretch.low
left-less First Forward stretch place len above below = omega arith
left-less Apart Forward stretch place len above below = omega arith
left-less Every Forward stretch place len above below = omega arith
left-less wanted direction stretch place len above below = omega arith

-- and none goes further
pub left-within : (wanted : Wanted) (direction : Direction) (stretch : Stretch) (place len size : ℕ) →
    stretch.high ≤ size → stretch.end ≤ size
    → ((left_behind wanted direction stretch place len).high ≤ size)
    × ((left_behind wanted direction stretch place len).end ≤ size)
left-within First Forward stretch place len size high end = (omega arith, omega arith)
left-within Apart Forward stretch place len size high end = (omega arith, omega arith)
left-within Every Forward stretch place len size high end = (omega arith, omega arith)
left-within wanted direction stretch place len size high end = (omega arith, omega arith)

next-some : (wanted : Wanted) (direction : Direction) (pattern text : List ℕ) (stretch : Stretch) (next : Option ℕ) →
    next ≡ next_of wanted (nearest direction pattern text stretch)
    → IfSome next (λ at. nearest direction pattern text stretch ≡ Some at)
next-some wanted direction pattern text stretch None is = tt
next-some First direction pattern text stretch (Some at) is = absurd (none-some at (sym is))
next-some Apart direction pattern text stretch (Some at) is = sym is
next-some Every direction pattern text stretch (Some at) is = sym is

pub first-some : (direction : Direction) (pattern text : List ℕ) (stretch : Stretch) (first : Option ℕ) →
    first ≡ nearest direction pattern text stretch
    → IfSome first (λ at. nearest direction pattern text stretch ≡ Some at)
first-some direction pattern text stretch None is = tt
first-some direction pattern text stretch (Some at) is = sym is

-- a list that grows by what is listed, whatever the rest will be
pub record IsListing (wanted : Wanted) (direction : Direction) (pattern text : List ℕ) (show : ℕ →
    List ℕ) (all : List ℕ) (old now : List ℕ) (rest : Stretch) (next : Option ℕ) (size : ℕ) : Type 0 where
  pub goes : (bytes : List ℕ) → Goes now bytes (map show (listed_from wanted direction pattern text rest next)) →
      Goes old bytes (map show all)
  pub found : IfSome next (λ at. nearest direction pattern text rest ≡ Some at)
  pub high : rest.high ≤ size
  pub end : rest.end ≤ size

pub listing-begun : {wanted : Wanted} {direction : Direction} {pattern text : List ℕ} {show : ℕ → List ℕ}
    {old : List ℕ} {stretch : Stretch} {first : Option ℕ} {size : ℕ}
    → first ≡ nearest direction pattern text stretch → stretch.high ≤ size → stretch.end ≤ size
    → IsListing wanted direction pattern text show
    (wanted_of wanted (length pattern) (matches_in direction pattern text stretch)) old old stretch first size
listing-begun {wanted} {direction} {pattern} {text} {show} {old} {stretch} {first} is high end = record {
  goes = λ bytes goes. subst (λ xs. Goes old bytes (map show xs))
      (sym (listed-is wanted direction pattern text stretch first is)) goes;
  found = first-some direction pattern text stretch first is;
  high = high;
  end = end;
}

module _ {wanted : Wanted} {direction : Direction} {pattern text : List ℕ} {show : ℕ → List ℕ}
    {all old now : List ℕ} {rest : Stretch} {next : Option ℕ} {size : ℕ}
    (listing : IsListing wanted direction pattern text show all old now rest next size) where
  pub next-at : {place : ℕ} → next ≡ Some place → size ≤ length text → IsNext direction pattern text rest place
  next-at {place} was within =
      let found = subst (λ o. IfSome o (λ at. nearest direction pattern text rest ≡ Some at)) was listing.found in
      let at = found-ordered direction (matches_at pattern text rest.end) rest.low rest.high place found in
      let fits = match-fits pattern text rest.end place at.passes in
      record {
        is = found;
        above = at.above;
        below = at.below;
        fits = fits;
        matches = match-from pattern text (length text) place (omega (arith, listing.end))
            (match-same pattern text rest.end place at.passes);
      }

  pub listing-on : {later : List ℕ} {left : Stretch} {following : Option ℕ} {place len : ℕ} → next ≡ Some place →
      Goes now later (show place ∷ []) → len ≡ length pattern
      → left ≡ left_behind wanted direction rest place len
      → following ≡ next_of wanted (nearest direction pattern text left)
      → IsListing wanted direction pattern text show all old later left following size
  listing-on {later} {left} {following} {place} was pushed is_len is_left is =
      let same : left ≡ left_behind wanted direction rest place (length pattern) = is_left
      ∙ ap (left_behind wanted direction rest place) is_len in
      let bounds = left-within wanted direction rest place (length pattern) size listing.high listing.end in
      record {
        goes = λ bytes goes. listing.goes bytes
            (subst (λ xs. Goes now bytes (map show xs))
            (sym (ap (listed_from wanted direction pattern text rest) was
            ∙ listed-next wanted direction pattern text rest place following (is
            ∙ ap (λ s. next_of wanted (nearest direction pattern text s)) same)
            ∙ ap (λ s. place ∷ listed_from wanted direction pattern text s following) (sym same)))
            (goes_on now later bytes (show place ∷ [])
            (map show (listed_from wanted direction pattern text left following)) pushed goes));
        found = next-some wanted direction pattern text left following is;
        high = omega (arith, ap (λ (s : Stretch). s.high) same);
        end = omega (arith, ap (λ (s : Stretch). s.end) same);
      }

  pub listing-done : next ≡ None → Goes old now (map show all)
  listing-done none =
      listing.goes now (subst (λ o. Goes now now (map show (listed_from wanted direction pattern text rest o)))
      (sym none) (goes_nowhere now))

-- ---- the whole text

pub first-fits : (direction : Direction) (pattern text : List ℕ) (stretch : Stretch) (first : Option ℕ) (len size : ℕ) →
    first ≡ nearest direction pattern text stretch → len ≡ length pattern → stretch.end ≤ size
    → IfSome first (λ place. place + len ≤ size)
first-fits direction pattern text stretch None len size is is_len within = tt
first-fits direction pattern text stretch (Some place) len size is is_len within =
    omega (
      arith,
      match-fits pattern text stretch.end place
          (found-ordered direction (matches_at pattern text stretch.end) stretch.low stretch.high place
          (sym is)).passes,
    )

pub round-goes : (search : SearchSwitches) (pattern text : List ℕ) (show : ℕ →
    List ℕ) (size from : ℕ) (stretch : Stretch) (first : Option ℕ) (old between new : List ℕ)
    → stretch ≡ first_stretch search size from None → first ≡ nearest search.direction pattern text stretch
    →
    Goes old between (map show (wanted_of search.wanted (length pattern)
    (matches_in search.direction pattern text stretch)))
    →
    Goes between new (map show (listed_round search.wanted search.direction pattern text
    (second_stretch search.direction size from) first))
    →
    Goes old new (map show (wanted_of search.wanted (length pattern)
    (filter (matches_at pattern text size) (candidates search.direction size from None))))
round-goes search pattern text show size from stretch first old between new is_stretch is before round =
    let direction = search.direction in
    let begin = first_stretch search size from None in
    let later = listed_round search.wanted direction pattern text (second_stretch direction size from) first in
    let listed = wanted_of search.wanted (length pattern) (matches_in direction pattern text begin) in
    subst (λ xs. Goes old new (map show xs))
    (sym (ap (wanted_of search.wanted (length pattern)) (matches-round search pattern text size from)
    ∙ round-is search pattern text size from first (is ∙ ap (nearest direction pattern text) is_stretch)))
    (subst (Goes old new) (sym (map-append show listed later))
    (goes_on old between new (map show listed) (map show later)
    (subst (λ s. Goes old between
    (map show (wanted_of search.wanted (length pattern) (matches_in direction pattern text s)))) is_stretch before)
    round))

-- as characters are compared
pub search-is : (search : SearchSwitches) (asked all pattern : List ℕ) (ignores_case : Bool) (from : ℕ)
    (stop : Option ℕ) → pattern ≡ compared search.ignores_case asked → ignores_case ≡ search.ignores_case
    → wanted_of search.wanted (length pattern)
    (filter (matches_at pattern (compared ignores_case all) (bound search (length all) from stop))
    (candidates search.direction (length all) from stop))
    ≡ found_places search asked all from stop
search-is search asked all pattern ignores_case from stop is same =
    let listed = λ (p : List ℕ) (b : Bool). wanted_of search.wanted (length p)
    (filter (matches_at p (compared b all) (bound search (length all) from stop))
    (candidates search.direction (length all) from stop)) in
    ap (λ p. listed p ignores_case) is ∙ ap (listed (compared search.ignores_case asked)) same
    ∙ ap (λ n. wanted_of search.wanted n (matches search asked all from stop))
    (length-compared search.ignores_case asked)
