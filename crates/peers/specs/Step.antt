-- One command of a script: the new world and an answer, or the first fault and the same world.
use Rattle.std.specs.Prelude.{◌≡◌, ◌≢◌, ℕ, Bool, false, nat_le, nat_lt, List, [], ◌∷◌, ◌++◌, filter, length, map}
use Rattle.std.specs.Prelude.{slice_set, Option, None, Some, Result, Ok, Err, IfErr, if◌then◌else◌}
use Rattle.undo_stack.specs.declared.actions.Action.{Action}
use Rattle.command_effects.specs.declared.answers.Answer.{Answer}
use Rattle.command_effects.specs.declared.answers.Answer.TheVariants.{Empty, Word}
use Rattle.command_effects.specs.declared.answers.Fault.{Fault}
use Rattle.command_effects.specs.declared.answers.Fault.TheVariants.{WrongArguments, InvalidCommandName, WindowExists}
use Rattle.command_effects.specs.declared.answers.Fault.TheVariants.{Memory, TooManyWidgets}
use Rattle.command_effects.specs.Faults.{shape_fault}
use Rattle.command_effects.specs.Settings.{first_settings}
use Rattle.command_effects.specs.declared.settings.Settings.{Settings}
use Rattle.command_effects.specs.Words.{is_among, is_same, literal}
use Rattle.command_table.specs.Reading.{reading}
use Rattle.command_table.specs.declared.shapes.Shape.{Shape}
use Rattle.command_table.specs.declared.shapes.ShapeFault.{ShapeFault}
use Rattle.documents.specs.Documents.{Document, Widget, widget_at}
use Rattle.documents.specs.Kept.{is_window_name}
use Rattle.documents.specs.Promise.{Change, Gives}
use Rattle.documents.specs.Widgets.{bare_document, new_document, widget_named, without_widgets}
use Rattle.peers.specs.WellFormed.{IsWellFormed}
use Rattle.peers.specs.World.{World, all_windows, document_at, home}
use Rattle.peers.specs.Commands.{command, arguments_of, is_frugal_reading}
use Rattle.peers.specs.Options.{settings_given}

-- the answer or the fault, the world after the command, and what the command did to the text of its widget, in order
pub record Outcome : Type 0 where
  pub reply : Result Answer Fault
  pub world : World
  pub edits : List Action

abbrev pub refuses : World → Fault → Outcome
refuses world fault = record { reply = Err fault; world = world; edits = [] }

-- A command makes what its definition says, unless memory is wanted. Where it is refused, it leaves the world as it
-- was, and in any case well formed.
pub record Makes (old new : World) (result : Result Answer Fault) (outcome : Outcome) : Type 0 where
  pub reply : Gives result outcome.reply
  pub world : result ≢ Err Memory → new ≡ outcome.world
  pub refused : IfErr result (λ _. new ≡ old)
  pub well_formed : IsWellFormed new

-- ---- text

-- the world with one document more, of a widget of its own, unless there are too many widgets
abbrev pub create_new : World → List ℕ → Settings → Outcome
create_new world name settings =
    if nat_le world.limits.widgets (length (all_windows world)) then refuses world TooManyWidgets
    else record {
      reply = Ok (Word 1);
      world = record world { documents = world.documents ++ new_document name settings ∷ [] };
      edits = [];
    }

abbrev pub create_named : World → List ℕ → Settings → Outcome
create_named world name settings =
    if is_among name (all_windows world) then refuses world (WindowExists 1) else create_new world name settings

abbrev pub create_with : World → List ℕ → Result Settings Fault → Outcome
create_with world name (Err fault) = refuses world fault
create_with world name (Ok settings) = create_named world name settings

-- `text W ?option value ..?`
abbrev pub create : World → List (List ℕ) → Outcome
create world [] = refuses world WrongArguments
create world (name ∷ options) =
    if is_window_name name then create_with world name (settings_given bare_document 2 options first_settings)
    else refuses world (InvalidCommandName 1)

abbrev pub create_shaped : World → List (List ℕ) → Result Shape ShapeFault → Outcome
create_shaped world words (Err fault) = refuses world (shape_fault fault)
create_shaped world words (Ok shape) = create world (arguments_of shape words)

-- ---- destroy

abbrev pub has_widgets : Document → Bool
has_widgets document = nat_lt 0 (length document.widgets)

-- `destroy ?W ..?`: the widgets of these names go, and each document goes with its last widget
abbrev pub destroy : World → List (List ℕ) → Outcome
destroy world names = record {
  reply = Ok Empty;
  world = record world { documents = filter has_widgets (map (without_widgets names) world.documents) };
  edits = [];
}

abbrev pub destroy_shaped : World → List (List ℕ) → Result Shape ShapeFault → Outcome
destroy_shaped world words (Err fault) = refuses world (shape_fault fault)
destroy_shaped world words (Ok shape) = destroy world (arguments_of shape words)

-- ---- a widget's command

-- the world with the document at a place changed
abbrev pub changed : World → ℕ → Change → Outcome
changed world place change =
    record {
      reply = change.reply;
      world = record world { documents = slice_set world.documents place change.document };
      edits = change.edits;
    }

-- a command of the widget at a seat of the document at a place
abbrev pub seat_step : World → ℕ → ℕ → List (List ℕ) → Outcome
seat_step world place seat words =
    let document = document_at world.documents place in
    changed world place (command world.limits (all_windows world) document (widget_at document seat) words)

abbrev pub on_found : World → ℕ → Document → List (List ℕ) → Option Widget → Outcome
on_found world place document words None = refuses world (InvalidCommandName 0)
on_found world place document words (Some widget) =
    changed world place (command world.limits (all_windows world) document widget words)

abbrev pub on_home : World → List ℕ → List (List ℕ) → Option ℕ → Outcome
on_home world name words None = refuses world (InvalidCommandName 0)
on_home world name words (Some place) =
    let document = document_at world.documents place in on_found world place document words (widget_named name document)

-- a command of the widget of that name, which changes its own document alone
abbrev pub on_widget : World → List ℕ → List (List ℕ) → Outcome
on_widget world name words = on_home world name words (home name world.documents)

-- ---- any command

-- words of a frugal command of a widget, which takes no memory: `edit modified`, `edit reset` or `edit separator`, or
-- words that are no command
abbrev pub are_frugal : List (List ℕ) → Bool
are_frugal [] = false
are_frugal (name ∷ others) =
    if is_same name (literal "text") then false
    else (if is_same name (literal "destroy") then false
    else is_frugal_reading (reading (name ∷ others)))

-- a command, of one word at least
abbrev pub step : World → List (List ℕ) → Outcome
step world [] = refuses world WrongArguments
step world (name ∷ others) =
    if is_same name (literal "text") then create_shaped world (name ∷ others) (reading (name ∷ others))
    else (if is_same name (literal "destroy") then destroy_shaped world (name ∷ others) (reading (name ∷ others))
    else on_widget world name (name ∷ others))
