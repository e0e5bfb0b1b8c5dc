-- Which marks a report has: those of the text that the command's widget shows, and those that `destroy` drops.
use Rattle.std.specs.Prelude.{◌≡◌, ℕ, Bool, true, false, List, [], ◌∷◌, ◌++◌, Option, None, Some}
use Rattle.edit_ops.specs.declared.changes.TextChange.{TextChange}
use Rattle.command_effects.specs.Words.{is_same, literal}
use Rattle.documents.specs.Documents.{Document}
use Rattle.documents.specs.MarksTold.{TellsMarks}
use Rattle.documents.specs.Widgets.{without_widgets}
use Rattle.documents.specs.declared.mark_lists.MarkChange.{MarkChange}
use Rattle.peers.specs.Laws.{names_dropped}
use Rattle.peers.specs.World.{World, document_at, home}

-- the marks that changes of the text of the document at a place don't take to where they are; none where there is no
-- such document
abbrev pub MarksTellAt : World → World → Option ℕ → List TextChange → List MarkChange → Type 0
MarksTellAt old new None changes marks = marks ≡ []
MarksTellAt old new (Some place) changes marks =
    TellsMarks changes (document_at old.documents place) (document_at new.documents place) marks

-- what `destroy` drops: of each document, in order, the marks of its widgets of these names
abbrev pub TellsDropped : List (List ℕ) → List Document → List MarkChange → Type 0
TellsDropped names [] marks = marks ≡ []
TellsDropped names (document ∷ documents) marks =
    (part : List MarkChange) × (others : List MarkChange) × (marks ≡ part ++ others)
    × TellsMarks [] document (without_widgets names document) part × TellsDropped names documents others

-- the same of a command that is `destroy` or isn't, whose first word names the widget if it is a widget's command
abbrev pub MarksTellBy : Bool → World → World → List (List ℕ) → Option ℕ → List TextChange → List MarkChange → Type 0
MarksTellBy true old new words at changes marks = TellsDropped (names_dropped words) old.documents marks
MarksTellBy false old new words at changes marks = MarksTellAt old new at changes marks

-- the same of a command of these words
abbrev pub MarksTellOf : World → World → List (List ℕ) → List TextChange → List MarkChange → Type 0
MarksTellOf old new [] changes marks = marks ≡ []
MarksTellOf old new (name ∷ words) changes marks =
    MarksTellBy (is_same name (literal "destroy")) old new (name ∷ words) (home name old.documents) changes marks
