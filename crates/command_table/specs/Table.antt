-- The commands: the words of each subcommand, and how many words may stand behind it (text(n), "WIDGET COMMAND").
use Rattle.std.specs.Prelude.{ℕ, ◌≡◌, ◌<◌, List, [], ◌∷◌, length, get_or, true, false, Option, None, Some}
use Rattle.std.specs.List.{find}
use Rattle.command_table.specs.Words.{Word, literal}
use Rattle.command_table.specs.Entries.{EntryRule, SwitchRule, begins}
use Rattle.command_table.specs.declared.commands.Command.{Command}
use Rattle.command_table.specs.declared.commands.Command.TheVariants.{Text, Insert, Delete, Replace, Get, Index}
use Rattle.command_table.specs.declared.commands.Command.TheVariants.{Compare, MarkGravity, MarkNames, MarkNext}
use Rattle.command_table.specs.declared.commands.Command.TheVariants.{MarkPrevious, MarkSet, MarkUnset, TagAdd}
use Rattle.command_table.specs.declared.commands.Command.TheVariants.{TagRemove, TagDelete, TagNames, TagRanges}
use Rattle.command_table.specs.declared.commands.Command.TheVariants.{TagNextRange, TagPreviousRange, TagRaise}
use Rattle.command_table.specs.declared.commands.Command.TheVariants.{TagLower, EditModified, EditUndo, EditRedo}
use Rattle.command_table.specs.declared.commands.Command.TheVariants.{EditReset, EditSeparator, Configure, Cget, Search}
use Rattle.command_table.specs.declared.commands.Command.TheVariants.{Count, Dump, Destroy, PeerCreate, PeerNames}

-- the options of a widget and of its document
abbrev pub option_names : List (List ℕ)
option_names = literal "-undo" ∷ literal "-maxundo" ∷ literal "-autoseparators" ∷ literal "-state"
    ∷ literal "-startline" ∷ literal "-endline" ∷ []

-- `text W ?option value ..?`
abbrev pub text_entry : EntryRule
text_entry = record {
  spelling = [];
  command = Text;
  switches = None;
  options = Some (record { names = option_names; after = 1; valued = true });
  least = 1;
  greatest = None;
}

-- `W configure option value ?option value ..?`
abbrev pub configure_entry : EntryRule
configure_entry = record {
  spelling = literal "configure" ∷ [];
  command = Configure;
  switches = None;
  options = Some (record { names = option_names; after = 0; valued = true });
  least = 2;
  greatest = None;
}

-- `W cget option`
abbrev pub cget_entry : EntryRule
cget_entry = record {
  spelling = literal "cget" ∷ [];
  command = Cget;
  switches = None;
  options = Some (record { names = option_names; after = 0; valued = false });
  least = 1;
  greatest = Some 1;
}

-- `W peer create V ?option value ..?`
abbrev pub peer_create_entry : EntryRule
peer_create_entry = record {
  spelling = literal "peer" ∷ literal "create" ∷ [];
  command = PeerCreate;
  switches = None;
  options = Some (record { names = option_names; after = 1; valued = true });
  least = 1;
  greatest = None;
}

-- a subcommand of arguments alone
abbrev pub plain : List (List ℕ) → Command → ℕ → Option ℕ → EntryRule
plain spelling command least greatest = record {
  spelling = spelling;
  command = command;
  switches = None;
  options = None;
  least = least;
  greatest = greatest;
}

-- `destroy ?W ..?`
abbrev pub destroy_entry : EntryRule
destroy_entry = plain [] Destroy 0 None

-- a subcommand with switches before its arguments
abbrev pub switched : List ℕ → Command → SwitchRule → ℕ → ℕ → EntryRule
switched name command switches least greatest = record {
  spelling = name ∷ [];
  command = command;
  switches = Some switches;
  options = None;
  least = least;
  greatest = Some greatest;
}

-- the switches of `search`, of `count` and of `dump`
abbrev pub search_switches : SwitchRule
search_switches = record {
  names = literal "-all" ∷ literal "-backwards" ∷ literal "-exact" ∷ literal "-forwards" ∷ literal "-nocase"
      ∷ literal "-overlap" ∷ literal "-strictlimits"
      ∷ literal "--" ∷ [];
  abbreviated = true;
}

abbrev pub count_switches : SwitchRule
count_switches = record { names = literal "-chars" ∷ literal "-indices" ∷ literal "-lines" ∷ []; abbreviated = false }

abbrev pub dump_switches : SwitchRule
dump_switches =
    record { names = literal "-all" ∷ literal "-mark" ∷ literal "-tag" ∷ literal "-text" ∷ []; abbreviated = true }

abbrev pub alone : List ℕ → Command → ℕ → Option ℕ → EntryRule
alone name command least greatest = plain (name ∷ []) command least greatest

abbrev pub member : List ℕ → List ℕ → Command → ℕ → Option ℕ → EntryRule
member family name command least greatest = plain (family ∷ name ∷ []) command least greatest

abbrev pub table : List EntryRule
table =
    alone (literal "insert") Insert 2 None
    ∷ alone (literal "delete") Delete 1 None
    ∷ alone (literal "replace") Replace 3 None
    ∷ alone (literal "get") Get 1 None
    ∷ alone (literal "index") Index 1 (Some 1)
    ∷ alone (literal "compare") Compare 3 (Some 3)
    ∷ member (literal "mark") (literal "gravity") MarkGravity 1 (Some 2)
    ∷ member (literal "mark") (literal "names") MarkNames 0 (Some 0)
    ∷ member (literal "mark") (literal "next") MarkNext 1 (Some 1)
    ∷ member (literal "mark") (literal "previous") MarkPrevious 1 (Some 1)
    ∷ member (literal "mark") (literal "set") MarkSet 2 (Some 2)
    ∷ member (literal "mark") (literal "unset") MarkUnset 0 None
    ∷ member (literal "tag") (literal "add") TagAdd 2 None
    ∷ member (literal "tag") (literal "remove") TagRemove 2 None
    ∷ member (literal "tag") (literal "delete") TagDelete 1 None
    ∷ member (literal "tag") (literal "names") TagNames 0 (Some 1)
    ∷ member (literal "tag") (literal "ranges") TagRanges 1 (Some 1)
    ∷ member (literal "tag") (literal "nextrange") TagNextRange 2 (Some 3)
    ∷ member (literal "tag") (literal "prevrange") TagPreviousRange 2 (Some 3)
    ∷ member (literal "tag") (literal "raise") TagRaise 1 (Some 2)
    ∷ member (literal "tag") (literal "lower") TagLower 1 (Some 2)
    ∷ member (literal "edit") (literal "modified") EditModified 0 (Some 1)
    ∷ member (literal "edit") (literal "undo") EditUndo 0 (Some 0)
    ∷ member (literal "edit") (literal "redo") EditRedo 0 (Some 0)
    ∷ member (literal "edit") (literal "reset") EditReset 0 (Some 0)
    ∷ member (literal "edit") (literal "separator") EditSeparator 0 (Some 0)
    ∷ configure_entry
    ∷ cget_entry
    ∷ switched (literal "search") Search search_switches 2 3
    ∷ switched (literal "count") Count count_switches 2 2
    ∷ switched (literal "dump") Dump dump_switches 1 2
    ∷ peer_create_entry
    ∷ member (literal "peer") (literal "names") PeerNames 0 (Some 0)
    ∷ []

-- the first of some entries whose subcommand begins the words
abbrev pub find_in : List EntryRule → List Word → Option EntryRule
find_in entries words = find (λ entry. begins entry.spelling words) entries

-- at this place of the table stands the first entry whose subcommand begins the words
abbrev pub IsPlaceOf : ℕ → List Word → Type 0
IsPlaceOf place words = (place < length table) × (find_in table words ≡ Some (get_or table place text_entry))
