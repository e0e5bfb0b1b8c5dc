-- A draft whose text goes on being put in at its place.
use Rattle.std.specs.Prelude.{◌≡◌, ℕ, ◌+◌, ◌<◌, ◌^◌, true, List, Some, length}
use Rattle.std.specs.FinMap as finite
use Rattle.text_model.specs.declared.places.Place.{Place}
use Rattle.text_model.specs.Content.{Marks}
use Rattle.text_model.specs.Splices.{is_right}
use Rattle.segments.specs.Columns.{LineContent, after_text}
use Rattle.line_lists.specs.declared.drafts.Copied.{Copied}
use Rattle.line_lists.specs.declared.drafts.Stop.{Stop}
use Rattle.line_lists.specs.Drafts.{IsText, place_of, text_at}

-- each mark at an offset has right gravity
abbrev pub StandRight : ℕ → Marks → Type 0
StandRight at marks =
    (number : ℕ) (place : Place) → finite.get marks number ≡ Some place → place.offset ≡ at →
    is_right place.gravity ≡ true

-- the place stands before a line of the text, and the marks there would go behind what is put in
pub record IsOpen (lines : List LineContent) (front : List Stop) (back : List Copied) : Type 0 where
  pub text : IsText lines front back
  pub within : place_of lines front < length (text_at lines front back).columns
  pub right : StandRight (place_of lines front) (text_at lines front back).marks

-- a text went into another at an offset, and the place stands behind it
pub record Opens (lines : List LineContent) (front : List Stop) (back : List Copied) (offset : ℕ) (text : List ℕ)
    (old : LineContent) : Type 0 where
  pub is : IsOpen lines front back
  pub place : place_of lines front ≡ offset + length text
  pub new : text_at lines front back ≡ after_text offset text old

-- a text goes into another at an offset, and the rest of it is to go in at the place
pub record IsPartly (lines : List LineContent) (front : List Stop) (back : List Copied) (offset : ℕ)
    (text rest : List ℕ) (old : LineContent) : Type 0 where
  pub is : IsOpen lines front back
  pub counted : length (text_at lines front back).columns + length rest < 2 ^ 64
  pub new : after_text (place_of lines front) rest (text_at lines front back) ≡ after_text offset text old
