-- One command of a widget, by what stands where in its words.
use Rattle.std.specs.Prelude.{ℕ, ◌-◌, Bool, true, false, List, drop, Result, Ok, Err, take}
use Rattle.text_model.specs.LimitTable.{LimitTable}
use Rattle.command_table.specs.Reading.{reading}
use Rattle.command_table.specs.declared.commands.Command.{Command}
use Rattle.command_table.specs.declared.commands.Command.TheVariants.{Insert, Delete, Replace, Get, Index, Compare}
use Rattle.command_table.specs.declared.commands.Command.TheVariants.{MarkGravity, MarkNames, MarkNext, MarkPrevious}
use Rattle.command_table.specs.declared.commands.Command.TheVariants.{MarkSet, MarkUnset, TagAdd, TagRemove, TagDelete}
use Rattle.command_table.specs.declared.commands.Command.TheVariants.{TagNames, TagRanges, TagNextRange}
use Rattle.command_table.specs.declared.commands.Command.TheVariants.{TagPreviousRange, TagRaise, TagLower, Configure}
use Rattle.command_table.specs.declared.commands.Command.TheVariants.{Cget, EditUndo, EditRedo, EditModified, EditReset}
use Rattle.command_table.specs.declared.commands.Command.TheVariants.{EditSeparator, Search, Count, Dump, PeerCreate}
use Rattle.command_table.specs.declared.commands.Command.TheVariants.{PeerNames, Text, Destroy}
use Rattle.command_table.specs.declared.shapes.Shape.{Shape}
use Rattle.command_table.specs.declared.shapes.ShapeFault.{ShapeFault}
use Rattle.command_effects.specs.declared.answers.Fault.TheVariants.{BadOption}
use Rattle.command_effects.specs.Faults.{shape_fault}
use Rattle.peers.specs.Deletions.{delete, replace}
use Rattle.documents.specs.History.{edit_reset, edit_separator}
use Rattle.peers.specs.History.{edit_modified}
use Rattle.peers.specs.Indices.{index, compare}
use Rattle.documents.specs.Marks.{mark_unset}
use Rattle.peers.specs.Marks.{mark_set, mark_gravity, mark_names_of, mark_next, mark_previous}
use Rattle.peers.specs.Options.{cget, configure}
use Rattle.documents.specs.Promise.{Change, refused, unchanged}
use Rattle.peers.specs.Queries.{count, dump, search}
use Rattle.documents.specs.History.{edit_redo, edit_undo}
use Rattle.documents.specs.Tags.{tag_delete}
use Rattle.peers.specs.Tags.{tag_add, tag_remove, tag_names, tag_ranges_of, tag_nextrange, tag_prevrange, tag_raise}
use Rattle.peers.specs.Tags.{tag_lower}
use Rattle.peers.specs.Texts.{insert, get}
use Rattle.documents.specs.Documents.{Document, Widget}
use Rattle.peers.specs.Widgets.{peer_create, peer_names}

-- the switches of a command
abbrev pub switches_of : Shape → List (List ℕ) → List (List ℕ)
switches_of shape words = take (shape.arguments - shape.switches) (drop shape.switches words)

-- the arguments of a command, and its options behind them
abbrev pub arguments_of : Shape → List (List ℕ) → List (List ℕ)
arguments_of shape words = drop shape.arguments words

-- who calls a command, and with which words: its switches, and its arguments, which stand from a position on
pub record Call : Type 0 where
  pub limits : LimitTable
  pub windows : List (List ℕ)
  pub widget : Widget
  pub switches : List (List ℕ)
  pub position : ℕ
  pub arguments : List (List ℕ)

-- a command as it is called, where the names of all windows are known
abbrev pub done : Command → Document → Call → Change
done Insert document call = insert call.limits document call.widget call.position call.arguments
done Delete document call = delete document call.widget call.position call.arguments
done Replace document call = replace call.limits document call.widget call.position call.arguments
done Get document call = unchanged document (get document call.widget call.position call.arguments)
done Index document call = unchanged document (index document call.widget call.position call.arguments)
done Compare document call = unchanged document (compare document call.widget call.position call.arguments)
done MarkGravity document call = mark_gravity document call.widget call.position call.arguments
done MarkNames document call = unchanged document (mark_names_of document)
done MarkNext document call = unchanged document (mark_next document call.widget call.position call.arguments)
done MarkPrevious document call = unchanged document (mark_previous document call.widget call.position call.arguments)
done MarkSet document call = mark_set call.limits document call.widget call.position call.arguments
done MarkUnset document call = mark_unset document call.arguments
done TagAdd document call = tag_add call.limits document call.widget call.position call.arguments
done TagRemove document call = tag_remove document call.widget call.position call.arguments
done TagDelete document call = tag_delete document call.arguments
done TagNames document call = unchanged document (tag_names document call.widget call.position call.arguments)
done TagRanges document call = unchanged document (tag_ranges_of document call.widget call.arguments)
done TagNextRange document call = unchanged document (tag_nextrange document call.widget call.position call.arguments)
done TagPreviousRange document call =
    unchanged document (tag_prevrange document call.widget call.position call.arguments)
done TagRaise document call = tag_raise document call.position call.arguments
done TagLower document call = tag_lower document call.position call.arguments
done Configure document call = configure document call.widget call.position call.arguments
done Cget document call = unchanged document (cget document call.widget call.arguments)
done EditUndo document call = edit_undo document call.widget
done EditRedo document call = edit_redo document call.widget
done EditModified document call = edit_modified document call.position call.arguments
done EditReset document call = edit_reset document
done EditSeparator document call = edit_separator document
done Search document call = unchanged document (search document call.widget call.switches call.position call.arguments)
done Count document call = unchanged document (count document call.widget call.switches call.position call.arguments)
done Dump document call = unchanged document (dump document call.widget call.switches call.position call.arguments)
done PeerCreate document call = peer_create call.limits call.windows document call.widget call.position call.arguments
done PeerNames document call = unchanged document (peer_names document call.widget)
done Text document call = refused document (BadOption 1)
done Destroy document call = refused document (BadOption 1)

-- commands that edit the text or its tags
abbrev pub is_told : Command → Bool
is_told Insert = true
is_told Delete = true
is_told Replace = true
is_told EditUndo = true
is_told EditRedo = true
is_told TagAdd = true
is_told TagRemove = true
is_told TagDelete = true
is_told command = false

-- frugal commands, which take no memory
abbrev pub is_frugal : Command → Bool
is_frugal EditModified = true
is_frugal EditReset = true
is_frugal EditSeparator = true
is_frugal command = false

-- words that are a frugal command, or none
abbrev pub is_frugal_reading : Result Shape ShapeFault → Bool
is_frugal_reading (Err fault) = true
is_frugal_reading (Ok shape) = is_frugal shape.command

-- the call of a command of this shape
abbrev pub call_of : LimitTable → List (List ℕ) → Widget → Shape → List (List ℕ) → Call
call_of limits windows widget shape words = record {
  limits = limits;
  windows = windows;
  widget = widget;
  switches = switches_of shape words;
  position = shape.arguments;
  arguments = arguments_of shape words;
}

-- a command of this shape, or none
abbrev pub shaped : LimitTable → List (List ℕ) → Document → Widget → List (List ℕ) → Result Shape ShapeFault → Change
shaped limits windows document widget words (Err fault) = refused document (shape_fault fault)
shaped limits windows document widget words (Ok shape) =
    done shape.command document (call_of limits windows widget shape words)

-- a command of a widget: all its words, of which the first names the widget
abbrev pub command : LimitTable → List (List ℕ) → Document → Widget → List (List ℕ) → Change
command limits windows document widget words = shaped limits windows document widget words (reading words)
