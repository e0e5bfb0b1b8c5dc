-- What the words of a command are: the command, and where its switches, its arguments and its options stand.
use Rattle.std.specs.Prelude.{ℕ, ◌+◌, Bool, List, [], ◌∷◌, length, take, drop, Option, None, Some, Result, Ok, Err}
use Rattle.std.specs.Prelude.{if◌then◌else◌}
use Rattle.std.specs.List.{find, list_any}
use Rattle.command_table.specs.Words.{Word, is_same, literal}
use Rattle.command_table.specs.Entries.{EntryRule, begins, switch_words, bad_switch, bad_option, fits, before_options}
use Rattle.command_table.specs.Table.{text_entry, destroy_entry, table}
use Rattle.command_table.specs.declared.shapes.Shape.{Shape}
use Rattle.command_table.specs.declared.shapes.ShapeFault.{ShapeFault}
use Rattle.command_table.specs.declared.shapes.ShapeFault.TheVariants.{BadOption, WrongArguments}

-- the word at a position is no switch or option, or else what follows
abbrev pub bad_or : Option ℕ → Result Shape ShapeFault → Result Shape ShapeFault
bad_or None reading = reading
bad_or (Some position) reading = Err (BadOption position)

-- the shape of a command whose switches begin at a position
abbrev pub shape_in : EntryRule → ℕ → ℕ → ℕ → Shape
shape_in entry switches arguments count = record {
  command = entry.command;
  switches = switches;
  arguments = arguments;
  count = before_options entry.options count;
}

-- how many arguments there are is decided last
abbrev pub decided_by_count : EntryRule → ℕ → ℕ → ℕ → Result Shape ShapeFault
decided_by_count entry switches arguments count =
    if fits entry count then Ok (shape_in entry switches arguments count) else Err WrongArguments

-- Behind the subcommand, from a position on, stand these switches and then these arguments: first the switches are
-- decided, then the options, then how many words there are.
abbrev pub decided : EntryRule → ℕ → List Word → List Word → Result Shape ShapeFault
decided entry position switches arguments =
    let from = position + length switches in
    bad_or (bad_switch entry.switches position switches)
    (bad_or (bad_option entry.options from arguments)
    (decided_by_count entry position from (length arguments)))

-- the words behind the subcommand, from a position on
abbrev pub behind : EntryRule → ℕ → List Word → Result Shape ShapeFault
behind entry position words =
    let switches = switch_words entry.switches words in
    decided entry position switches (drop (length switches) words)

-- some subcommand begins with these words
abbrev pub go_on : List Word → Bool
go_on words = list_any (λ entry. begins words entry.spelling) table

-- words that begin with no subcommand: there are too few, or the second of a family or the first is none
abbrev pub unknown : List Word → Result Shape ShapeFault
unknown words =
    if go_on words then Err WrongArguments
    else (if go_on (take 1 words) then Err (BadOption 2)
    else Err (BadOption 1))

abbrev pub found : List Word → Option EntryRule → Result Shape ShapeFault
found words None = unknown words
found words (Some entry) = behind entry (1 + length entry.spelling) (drop (length entry.spelling) words)

-- the words behind the name of a widget
abbrev pub subcommand : List Word → Result Shape ShapeFault
subcommand words = found words (find (λ entry. begins entry.spelling words) table)

-- the words of a command
abbrev pub reading : List Word → Result Shape ShapeFault
reading [] = Err WrongArguments
reading (name ∷ words) =
    if is_same name (literal "text") then behind text_entry 1 words
    else (if is_same name (literal "destroy") then behind destroy_entry 1 words
    else subcommand words)
