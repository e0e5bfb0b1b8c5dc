-- The words of a command, as lists of characters.
use Rattle.std.specs.Prelude.{ℕ, Bool, List, ◌||◌}
use Rattle.std.specs.List.{list_any}
pub use Rattle.command_table.specs.Words.{is_same, literal}

-- the names of the two marks that each widget has of its own
abbrev pub is_own : List ℕ → Bool
is_own name = is_same name (literal "insert") || is_same name (literal "current")

-- a word is one of some
abbrev pub is_among : List ℕ → List (List ℕ) → Bool
is_among name names = list_any (is_same name) names
