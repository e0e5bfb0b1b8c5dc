-- What the code's table lends, as the definitions see it.
use Rattle.std.specs.Prelude.{List, [], ◌∷◌, chars, option_map}
use Rattle.command_table.specs.Words.{Word, lent}
use Rattle.command_table.specs.Entries.{SwitchRule, OptionRule, EntryRule}
use Rattle.command_table.specs.Table.{option_names}
use Rattle.command_table.specs.declared.spellings.Spelling.{Spelling}
use Rattle.command_table.specs.declared.spellings.Spelling.TheVariants.{First, Alone, Member}
use Rattle.command_table.specs.declared.switches.Switches.{Switches}
use Rattle.command_table.specs.declared.options.Options.{Options}
use Rattle.command_table.specs.declared.entries.Entry.{Entry}

abbrev pub spelled : Spelling → List Word
spelled First = []
spelled (Alone name) = chars name.now ∷ []
spelled (Member family name) = chars family.now ∷ chars name.now ∷ []

abbrev pub switch_rule : Switches → SwitchRule
switch_rule switches = record { names = lent switches.names.now; abbreviated = switches.abbreviated }

abbrev pub option_rule : Options → OptionRule
option_rule options = record { names = option_names; after = options.after; valued = options.valued }

abbrev pub entry_rule : Entry → EntryRule
entry_rule entry = record {
  spelling = spelled entry.spelling;
  command = entry.command;
  switches = option_map switch_rule entry.switches;
  options = option_map option_rule entry.options;
  least = entry.least;
  greatest = entry.greatest;
}
