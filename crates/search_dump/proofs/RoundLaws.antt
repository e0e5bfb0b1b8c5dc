-- The stretch round the end of the text.
use Rattle.search_dump.proofs.Common.{◌≡◌, ℕ, ◌≤◌, Option, None, Some, List, [], length, ap, arith, refl, subst, sym}
use Rattle.search_dump.proofs.Common.{unwrap_or, Direction, Forward, Back, wanted_of, left_round, left_to_list}
use Rattle.search_dump.proofs.Common.{listed_round, matches_in, second_stretch, Stretch, Wanted, First, Apart, All}

-- a stretch lies in a text of so many characters
pub record LiesIn (len : ℕ) (stretch : Stretch) : Type 0 where
  pub high : stretch.high ≤ len
  pub end : stretch.end ≤ len

pub round-lies : (direction : Direction) (len from : ℕ) → from ≤ len → LiesIn len (second_stretch direction len from)
round-lies Forward len from within = record { high = within; end = omega arith }
round-lies Back len from within = record { high = omega arith; end = omega arith }

left-lies : (direction : Direction) (len place count : ℕ) (stretch : Stretch) → LiesIn len stretch →
    LiesIn len (left_round Apart direction stretch place count)
left-lies Forward len place count stretch lies = record { high = lies.high; end = omega (arith, lies.end) }
left-lies Back len place count stretch lies = record { high = lies.high; end = lies.end }

-- what is left of it lies there too
pub rest-lies : (wanted : Wanted) (direction : Direction) (count : ℕ) (listed : Option ℕ) {len : ℕ}
    {stretch rest : Stretch}
    → LiesIn len stretch → Some rest ≡ left_to_list wanted direction stretch listed count → LiesIn len rest
rest-lies wanted direction count None {len} {stretch} lies is =
    subst (LiesIn len) (sym (ap (λ o. unwrap_or o stretch) is)) lies
rest-lies First direction count (Some place) lies is = absurd (cc)
rest-lies Apart direction count (Some place) {len} {stretch} lies is =
    subst (LiesIn len) (sym (ap (λ o. unwrap_or o stretch) is)) (left-lies direction len place count stretch lies)
rest-lies All direction count (Some place) {len} {stretch} lies is =
    subst (LiesIn len) (sym (ap (λ o. unwrap_or o stretch) is)) lies

-- it is listed whole
pub rest-listed : (wanted : Wanted) (direction : Direction) (pattern text : List ℕ) (stretch rest : Stretch)
    (listed : Option ℕ) → Some rest ≡ left_to_list wanted direction stretch listed (length pattern)
    → wanted_of wanted (length pattern) (matches_in direction pattern text rest)
    ≡ listed_round wanted direction pattern text stretch listed
rest-listed wanted direction pattern text stretch rest None is =
    ap (λ o. wanted_of wanted (length pattern) (matches_in direction pattern text (unwrap_or o stretch))) is
rest-listed First direction pattern text stretch rest (Some place) is = absurd (cc)
rest-listed wanted direction pattern text stretch rest (Some place) is =
    ap (λ o. wanted_of wanted (length pattern) (matches_in direction pattern text (unwrap_or o stretch))) is

-- nothing is listed where nothing is left
pub none-listed : (wanted : Wanted) (direction : Direction) (pattern text : List ℕ) (stretch : Stretch)
    (listed : Option ℕ) → None ≡ left_to_list wanted direction stretch listed (length pattern)
    → [] ≡ listed_round wanted direction pattern text stretch listed
none-listed wanted direction pattern text stretch None is = absurd (cc)
none-listed First direction pattern text stretch (Some place) is = refl
none-listed wanted direction pattern text stretch (Some place) is = absurd (cc)
