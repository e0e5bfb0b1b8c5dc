-- What every command promises.
use Rattle.std.specs.Prelude.{◌≡◌, ◌≢◌, List, [], Result, Ok, Err, IfErr, if◌then◌else◌}
use Rattle.text_model.specs.LimitTable.{LimitTable}
use Rattle.undo_stack.specs.declared.actions.Action.{Action}
use Rattle.command_effects.specs.declared.answers.Answer.{Answer}
use Rattle.command_effects.specs.declared.answers.Fault.{Fault}
use Rattle.command_effects.specs.declared.answers.Fault.TheVariants.{Memory}
use Rattle.documents.specs.Documents.{Document, Widget}
use Rattle.documents.specs.Views.{is_idle}
use Rattle.documents.specs.WellFormed.{IsWellFormedDocument, window_names}
use Rattle.command_effects.specs.declared.answers.Answer.TheVariants.{Empty}

-- the answer or the fault, the document after the command, and what the command did to the text, in order
pub record Change : Type 0 where
  pub reply : Result Answer Fault
  pub document : Document
  pub edits : List Action

abbrev pub refused : Document → Fault → Change
refused document fault = record { reply = Err fault; document = document; edits = [] }

abbrev pub answered : Document → Answer → Change
answered document answer = record { reply = Ok answer; document = document; edits = [] }

-- a command that edits the text answers nothing
abbrev pub edited : Document → List Action → Change
edited document edits = record { reply = Ok Empty; document = document; edits = edits }

-- a command that only reads leaves the document unchanged
abbrev pub unchanged : Document → Result Answer Fault → Change
unchanged document reply = record { reply = reply; document = document; edits = [] }

-- what follows a value changes the document; a fault refuses the command
abbrev pub change_with : {A : Type 0} → Document → Result A Fault → (A → Change) → Change
change_with document (Err fault) next = refused document fault
change_with document (Ok value) next = next value

-- a command that changes the text leaves it as it is where the widget is disabled, or shows nothing
abbrev pub unless_idle : Widget → Document → Change → Change
unless_idle widget document change = if is_idle document widget then answered document Empty else change

-- a command that reads gives what its definition gives, unless memory is wanted
abbrev pub Gives : {A : Type 0} → Result A Fault → Result A Fault → Type 0
Gives result defined = result ≢ Err Memory → result ≡ defined

-- A command of a widget gives and leaves what its definition says, unless memory is wanted. Where it is refused, it
-- leaves the document as it was, and in any case a well-formed one well formed, with the same widgets by their names.
pub record Does (limits : LimitTable) (old new : Document) (result : Result Answer Fault) (change : Change) : Type 0
  where
    pub reply : Gives result change.reply
    pub document : result ≢ Err Memory → new ≡ change.document
    pub refused : IfErr result (λ _. new ≡ old)
    pub well_formed : IsWellFormedDocument limits old → IsWellFormedDocument limits new
    pub windows : window_names new ≡ window_names old
