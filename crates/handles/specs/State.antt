-- What a caller in C sees of a session.
use Rattle.std.specs.Prelude.{ℕ, List, [], Option, Some, None, Err, encode_utf8_all}
use Rattle.text_model.specs.LimitTable.{LimitTable}
use Rattle.tcl_words.specs.Unread.{Unread, nothing_fed, texts_of}
use Rattle.edit_ops.specs.declared.changes.TextChange.{TextChange}
use Rattle.command_effects.specs.declared.answers.Fault.TheVariants.{Memory}
use Rattle.documents.specs.declared.mark_lists.MarkChange.{MarkChange}
use Rattle.reports.specs.declared.tag_lists.TagChange.{TagChange}
use Rattle.peers.specs.Windows.{Homes}
use Rattle.peers.specs.World.{World}
use Rattle.script_cli.specs.Lines.{piece}
use Rattle.script_cli.specs.Run.{last_piece, no_documents}
use Rattle.handles.specs.declared.report.Report.{Report}
use Rattle.handles.specs.declared.session.Said.{Said}
use Rattle.handles.specs.declared.session.Said.TheVariants.{Nothing, Reply, Fault}
use Rattle.handles.specs.declared.session.Session.{Session}

-- what a command told: the changes of a text and of its tags, and the marks that these alone don't take to where they
-- are; the place of the document whose text it is; and where each widget was before `destroy` dropped some
pub record Telling : Type 0 where
  pub changes : List TextChange
  pub tags : List TagChange
  pub marks : List MarkChange
  pub text : Option ℕ
  pub homes : Homes

abbrev pub nothing_told : Telling
nothing_told = record { changes = []; tags = []; marks = []; text = None; homes = [] }

abbrev pub telling_of : Report → Telling
telling_of report = record {
  changes = report.edit.changes;
  tags = report.edit.tags;
  marks = report.marks;
  text = report.text;
  homes = report.homes;
}

-- the world, what is still to be read of the script that is fed, the words of the command that was given last, the
-- bytes that were said then, what the last command that tells told, and the script's status
pub record State : Type 0 where
  pub world : World
  pub script : Unread
  pub words : List (List ℕ)
  pub said : List ℕ
  pub told : Telling
  pub status : ℕ

-- the bytes that the program prints for it
abbrev pub said_text : List (List ℕ) → Said → List ℕ
said_text words Nothing = []
said_text words (Reply reply) = encode_utf8_all (piece words reply)
said_text words (Fault fault) = encode_utf8_all (last_piece (Some fault))

-- what is said where memory is refused
abbrev pub memory_said : List ℕ
memory_said = encode_utf8_all (piece [] (Err Memory))

abbrev pub state_of : Session → State
state_of session = record {
  world = session.world;
  script = session.splitter;
  words = texts_of session.words.items;
  said = said_text (texts_of session.words.items) session.said;
  told = telling_of session.report;
  status = session.status;
}

-- a world without documents, and a script of which nothing was fed
abbrev pub start : LimitTable → State
start limits = record {
  world = no_documents limits;
  script = nothing_fed;
  words = [];
  said = [];
  told = nothing_told;
  status = 0;
}
