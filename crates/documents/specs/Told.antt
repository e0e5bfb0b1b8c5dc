-- What is told of a command: the changes of the text and of tags that it makes, unless it is refused.
use Rattle.std.specs.Prelude.{◌≡◌, Bool, true, Result, Ok, Err, IfOk, is_ok}
use Rattle.command_effects.specs.declared.answers.Answer.{Answer}
use Rattle.command_effects.specs.declared.answers.Answer.TheVariants.{Empty}
use Rattle.command_effects.specs.declared.answers.Fault.{Fault}
use Rattle.documents.specs.Documents.{Document}
use Rattle.documents.specs.Promise.{Change}
use Rattle.reports.specs.Told.{TellsCells}
use Rattle.reports.specs.declared.told.EditTold.{EditTold}

-- where a command is answered, this is what it made of the text
abbrev pub Foretells : Document → Change → EditTold → Type 0
Foretells document change told =
    is_ok change.reply ≡ true → TellsCells change.edits document.cells change.document.cells told

-- a command that gives what it changed answers nothing
abbrev pub reply_of : {A : Type 0} → Result A Fault → Result Answer Fault
reply_of (Ok told) = Ok Empty
reply_of (Err fault) = Err fault

-- who follows the text is told what a command made of it, unless it is refused
abbrev pub IsTold : Bool → Change → Document → Document → Result EditTold Fault → Type 0
IsTold follows change old new result =
    follows ≡ true → IfOk result (λ told. TellsCells change.edits old.cells new.cells told)
