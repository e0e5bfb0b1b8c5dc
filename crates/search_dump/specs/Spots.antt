-- A place of a text with its line.
use Rattle.std.specs.Prelude.{ℕ, ◌≤◌, List}
use Rattle.text_model.specs.Lines.{IsLineOf}
use Rattle.search_dump.specs.declared.listing.Spot.{Spot}

pub record IsSpot (text : List ℕ) (spot : Spot) : Type 0 where
  pub line : IsLineOf text spot.place spot.line
  pub before : spot.line.start ≤ spot.place
