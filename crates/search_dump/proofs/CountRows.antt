-- The numbers that were worked out by hand: in `ab`, `cd`, an empty line and `ef`, and in a new text.
use Rattle.search_dump.proofs.Common.{◌≡◌, ℕ, List, [], ◌∷◌, refl, codes, decimal, counted}
use Rattle.search_dump.specs.declared.counting.Counted.TheVariants.{Characters, Lines}

abbrev text : List ℕ
text = codes "ab\ncd\n\nef\n"

lines-and-characters : counted (Lines ∷ Characters ∷ []) text 0 8 ≡ decimal 3 ∷ decimal 8 ∷ []
lines-and-characters = refl

backwards : counted [] text 8 0 ≡ (45 ∷ decimal 8) ∷ []
backwards = refl

new : counted [] (codes "\n") 0 1 ≡ decimal 1 ∷ []
new = refl
