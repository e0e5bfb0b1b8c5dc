-- The searches for `aba` that were worked out by hand, in the text `ababa`.
use Rattle.search_dump.proofs.Common.{◌≡◌, ℕ, Bool, true, false, List, [], ◌∷◌, Some, None, refl, codes, Direction}
use Rattle.search_dump.proofs.Common.{Forward, Back, found_places, SearchSwitches, Wanted, First, Apart, All, Option}

abbrev how : Direction → Wanted → Bool → SearchSwitches
how direction wanted strict =
    record { direction = direction; wanted = wanted; ignores_case = false; is_strict = strict }

abbrev found : Direction → Wanted → Bool → ℕ → Option ℕ → List ℕ
found direction wanted strict from stop =
    found_places (how direction wanted strict) (codes "aba") (codes "ababa\n") from stop

all-apart : found Forward Apart false 0 None ≡ 0 ∷ []
all-apart = refl

all : found Forward All false 0 None ≡ 0 ∷ 2 ∷ []
all = refl

backwards : found Back First false 0 None ≡ 2 ∷ []
backwards = refl

stop-before : found Forward First false 2 (Some 0) ≡ []
stop-before = refl

strict : found Forward First true 0 (Some 2) ≡ []
strict = refl

begins-before-stop : found Forward First false 0 (Some 1) ≡ 0 ∷ []
begins-before-stop = refl

round-the-end : found Forward Apart false 1 None ≡ 2 ∷ []
round-the-end = refl

all-round-the-end : found Forward All false 1 None ≡ 2 ∷ 0 ∷ []
all-round-the-end = refl

apart-backwards-round : found Back Apart false 1 None ≡ 0 ∷ []
apart-backwards-round = refl

-- an empty pattern stands at each place, in the order of the search
empty : found_places (how Back All false) [] (codes "ab\n") 1 None ≡ 0 ∷ 2 ∷ 1 ∷ []
empty = refl

empty-apart : found_places (how Forward Apart false) [] (codes "ab\n") 1 None ≡ 1 ∷ 2 ∷ 0 ∷ []
empty-apart = refl
