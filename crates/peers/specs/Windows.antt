-- Where widgets are found: for the name of each the place of its document.
use Rattle.std.specs.Prelude.{ℕ, suc, List, [], ◌∷◌, ◌++◌, map, Option, None, Some, String, chars, string_bytes}
use Rattle.std.specs.Prelude.{if◌then◌else◌}
use Rattle.command_effects.specs.Words.{is_same}
use Rattle.documents.specs.Documents.{Document}
use Rattle.documents.specs.WellFormed.{window_names}

-- the name of a widget with the place of its document
abbrev pub Homes : Type 0
Homes = List (List ℕ × ℕ)

-- those of the widgets of one document
abbrev pub homes_at : ℕ → List (List ℕ) → Homes
homes_at place names = map (λ name. (name, place)) names

-- those of the widgets of documents, each a list of its names, of which the first stands at a place
abbrev pub homes_from : ℕ → List (List (List ℕ)) → Homes
homes_from place [] = []
homes_from place (names ∷ others) = homes_at place names ++ homes_from (suc place) others

-- those of all widgets, in the order of their documents
abbrev pub homes_of : List Document → Homes
homes_of documents = homes_from 0 (map window_names documents)

-- the place that goes with a name
abbrev pub home_in : List ℕ → Homes → Option ℕ
home_in name [] = None
home_in name (home ∷ homes) = if is_same name home.0 then Some home.1 else home_in name homes

-- how they are kept
abbrev pub home_kept : {Z : Type 0} → String Z × ℕ → List ℕ × ℕ
home_kept entry = (chars (string_bytes entry.0), entry.1)
