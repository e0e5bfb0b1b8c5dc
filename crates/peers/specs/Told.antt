-- What is told of a command: what it changed of the text that its widget shows, and of the tags there.
use Rattle.std.specs.Prelude.{◌≡◌, ℕ, Bool, true, List, [], ◌∷◌, Option, None, Some, Result, Ok, Err, IfOk}
use Rattle.undo_stack.specs.declared.actions.Action.{Action}
use Rattle.command_effects.specs.declared.answers.Answer.{Answer}
use Rattle.command_effects.specs.declared.answers.Answer.TheVariants.{Empty}
use Rattle.command_effects.specs.declared.answers.Fault.{Fault}
use Rattle.documents.specs.Documents.{Document}
use Rattle.reports.specs.Cells.{KeyedCell}
use Rattle.documents.specs.Promise.{Change}
use Rattle.reports.specs.Told.{TellsCells}
use Rattle.reports.specs.declared.told.EditTold.{EditTold}
use Rattle.peers.specs.Step.{step}
use Rattle.peers.specs.World.{World, document_at, home}
use Rattle.peers.specs.declared.told.Told.{Told}

-- nothing is reported
abbrev pub no_edit : EditTold
no_edit = record { changes = []; tags = [] }

-- the characters of the document at a place, with their tags
abbrev pub cells_at : World → ℕ → List KeyedCell
cells_at world place = (document_at world.documents place).cells

-- what became of the document at a place by edits; nothing is reported where there is none
abbrev pub TellsAt : World → World → Option ℕ → List Action → EditTold → Type 0
TellsAt old new None edits told = told ≡ no_edit
TellsAt old new (Some place) edits told = TellsCells edits (cells_at old place) (cells_at new place) told

-- what a command of this first word changed, which names the widget if it is a widget's command
abbrev pub TellsOf : World → World → List (List ℕ) → EditTold → Type 0
TellsOf old new [] told = told ≡ no_edit
TellsOf old new (name ∷ words) told =
    TellsAt old new (home name old.documents) (step old (name ∷ words)).edits told

-- the answer among what was told, or the fault
abbrev pub answer_of : Result Told Fault → Result Answer Fault
answer_of (Ok told) = Ok told.answer
answer_of (Err fault) = Err fault

-- the report of a command by its answer alone, and by what it changed of the text
abbrev pub answered : Result Answer Fault → Result Told Fault
answered (Ok answer) = Ok (record { answer = answer; edit = no_edit; marks = [] })
answered (Err fault) = Err fault

abbrev pub edited : Result EditTold Fault → Result Told Fault
edited (Ok edit) = Ok (record { answer = Empty; edit = edit; marks = [] })
edited (Err fault) = Err fault

-- who follows the text gets a report of what a command of a widget made of its document, unless it is refused
abbrev pub AreTold : Bool → Change → Document → Document → Result Told Fault → Type 0
AreTold follows change old new result =
    follows ≡ true → IfOk result (λ told. TellsCells change.edits old.cells new.cells told.edit)
