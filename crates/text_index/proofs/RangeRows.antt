-- The ranges of flags that were worked out by hand: `ab`, `cd`, an empty line and `ef`, of which the first character
-- and the second line have a tag.
use Rattle.text_index.proofs.Common.{◌≡◌, ℕ, Bool, true, false, List, [], ◌∷◌, Some, None, refl, tag_ranges}
use Rattle.text_index.proofs.Common.{ranges_from, next_range, previous_range, TagRange}

abbrev tagged : List Bool
tagged = true ∷ false ∷ false ∷ true ∷ true ∷ true ∷ false ∷ false ∷ false ∷ false ∷ []

abbrev range : ℕ → ℕ → TagRange
range start end = record { start = start; end = end }

all : tag_ranges tagged ≡ range 0 1 ∷ range 3 6 ∷ []
all = refl

none : tag_ranges (false ∷ false ∷ []) ≡ []
none = refl

to-the-end : tag_ranges (false ∷ true ∷ true ∷ []) ≡ range 1 3 ∷ []
to-the-end = refl

from-the-second : ranges_from tagged 1 ≡ range 3 6 ∷ []
from-the-second = refl

next-at-0 : next_range tagged 0 ≡ Some (range 0 1)
next-at-0 = refl

next-at-1 : next_range tagged 1 ≡ Some (range 3 6)
next-at-1 = refl

next-within : next_range tagged 4 ≡ None
next-within = refl

previous-at-0 : previous_range tagged 0 ≡ None
previous-at-0 = refl

previous-at-3 : previous_range tagged 3 ≡ Some (range 0 1)
previous-at-3 = refl

previous-within : previous_range tagged 4 ≡ Some (range 3 6)
previous-within = refl
