-- A command as its caller gave it.
use Rattle.std.specs.Prelude.{ℕ, List}
use Rattle.tcl_words.specs.Unread.{texts_of}
use Rattle.command_table.specs.declared.commands.Command.{Command}
use Rattle.documents.specs.Documents.{Document, Widget, widget_at}
use Rattle.peers.specs.Commands.{Call, done}
use Rattle.peers.specs.Step.{Outcome, changed}
use Rattle.peers.specs.World.{World, all_windows, document_at}
use Rattle.peers.specs.declared.requests.Request.{Request}

-- the widget that calls it
abbrev pub widget_of : Document → Request → Widget
widget_of document request = widget_at document request.caller.seat

-- the characters of its arguments
abbrev pub words_of : Request → List (List ℕ)
words_of request = texts_of request.arguments.now

-- what its definition reads of it, where the names of all windows are known
abbrev pub called : List (List ℕ) → Document → Request → Call
called windows document request = record {
  limits = request.caller.limits.now;
  windows = windows;
  widget = widget_of document request;
  switches = texts_of request.switches.now;
  position = request.position;
  arguments = words_of request;
}

-- a command of a widget of the document at a place
abbrev pub request_step : World → ℕ → Command → Request → Outcome
request_step world place command request =
    let document = document_at world.documents place in
    changed world place (done command document (called (all_windows world) document request))
