-- What holds of a text and of its marks at any time.
use Rattle.std.specs.Prelude.{◌≡◌, ℕ, ◌≤◌, ◌==◌, Bool, true, false, List, [], ◌∷◌, length, Some}
use Rattle.std.specs.List.{All}
use Rattle.std.specs.Char.{IsScalar}
use Rattle.std.specs.FinMap as finite
use Rattle.text_model.specs.declared.places.Place.{Place}
use Rattle.text_model.specs.Content.{Content}

-- the last character is a newline
abbrev pub ends_in_newline : List ℕ → Bool
ends_in_newline [] = false
ends_in_newline (character ∷ []) = character == 10
ends_in_newline (character ∷ next ∷ others) = ends_in_newline (next ∷ others)

-- the text of a document: Unicode scalar values, of which the last is a newline
pub record IsDocument (text : List ℕ) : Type 0 where
  pub newline : ends_in_newline text ≡ true
  pub scalars : All IsScalar text

-- no mark stands behind the end of the text
abbrev pub MarksStand : Content → Type 0
MarksStand content =
    (number : ℕ) (place : Place) → finite.get content.marks number ≡ Some place → place.offset ≤ length content.cells
