-- Which widgets a report concerns: those that show the text, by the places of documents.
use Rattle.std.specs.Prelude.{ℕ, ◌==◌, Bool, true, false, List, [], ◌∷◌, Option, None, Some, if◌then◌else◌}
use Rattle.command_effects.specs.Words.{is_same, literal}
use Rattle.documents.specs.Documents.{Document}
use Rattle.peers.specs.Windows.{Homes, homes_of}
use Rattle.peers.specs.World.{World, home}

-- whether a document is the one at a place
abbrev pub is_at : Option ℕ → ℕ → Bool
is_at None place = false
is_at (Some other) place = other == place

-- whether two widgets show one document, by the places of the documents that they show
abbrev pub is_one : Option ℕ → Option ℕ → Bool
is_one other None = false
is_one other (Some place) = is_at other place

-- the place of the document that a command's widget shows; none of a command of no widget
abbrev pub text_of_words : World → List (List ℕ) → Option ℕ
text_of_words world [] = None
text_of_words world (name ∷ words) = home name world.documents

-- where each widget is before `destroy`; of any other command nothing is wanted
abbrev pub homes_before : List Document → List (List ℕ) → Homes
homes_before documents [] = []
homes_before documents (name ∷ words) = if is_same name (literal "destroy") then homes_of documents else []

-- the same where it is asked for
abbrev pub homes_asked : Bool → List Document → List (List ℕ) → Homes
homes_asked true documents words = homes_before documents words
homes_asked false documents words = []
