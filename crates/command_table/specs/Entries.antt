-- What an entry of the command table says, and which words it fits.
use Rattle.std.specs.Prelude.{ℕ, ◌+◌, ◌-◌, ◌%◌, ◌==◌, nat_le, Bool, true, false, ◌&&◌, List, [], ◌∷◌, length, filter}
use Rattle.std.specs.Prelude.{Option, None, Some, option_map, if◌then◌else◌}
use Rattle.std.specs.List.{starts_with, find, position_from, enumerate_from}
use mathlib.Core.Bool.{not}
use Rattle.command_table.specs.Words.{Word, is_same, is_character, is_dashed, is_among, literal}
use Rattle.command_table.specs.declared.commands.Command.{Command}

-- the switches that a command takes, and whether they may be abbreviated
pub record SwitchRule : Type 0 where
  pub names : List Word
  pub abbreviated : Bool

-- the options of a command, how many arguments stand before them, and whether each has a value behind it
pub record OptionRule : Type 0 where
  pub names : List Word
  pub after : ℕ
  pub valued : Bool

-- a command, the words of its subcommand, and how many words may stand behind its switches
pub record EntryRule : Type 0 where
  pub spelling : List Word
  pub command : Command
  pub switches : Option SwitchRule
  pub options : Option OptionRule
  pub least : ℕ
  pub greatest : Option ℕ

-- the words of a list begin with these
abbrev pub begins : List Word → List Word → Bool
begins [] words = true
begins (first ∷ front) [] = false
begins (first ∷ front) (word ∷ words) = is_same word first && begins front words

-- ---- switches

-- `--`, where it is among the switches, ends them
abbrev pub ends_switches : SwitchRule → Word → Bool
ends_switches rule word = is_same word (literal "--") && is_among rule.names word

-- the words that stand in place of switches: those at the front that begin with `-`, through the one that ends them
abbrev pub dashed_words : SwitchRule → List Word → List Word
dashed_words rule [] = []
dashed_words rule (word ∷ words) =
    if is_dashed word then word ∷ (if ends_switches rule word then [] else dashed_words rule words) else []

abbrev pub switch_words : Option SwitchRule → List Word → List Word
switch_words None words = []
switch_words (Some rule) words = dashed_words rule words

-- a word is a switch if it is the name of one, or, where they may be abbreviated, the front of one name alone
abbrev pub is_switch : SwitchRule → Word → Bool
is_switch rule word =
    if rule.abbreviated then length (filter (λ name. starts_with is_character name word) rule.names) == 1
    else is_among rule.names word

-- the position of the first word that is no switch; the words stand from a position on
abbrev pub bad_switch : Option SwitchRule → ℕ → List Word → Option ℕ
bad_switch None position words = None
bad_switch (Some rule) position words = position_from (λ word. not (is_switch rule word)) position words

-- ---- options

-- the places among the arguments at which options stand: each second one, or just one where they have no values
abbrev pub is_option_place : OptionRule → ℕ → Bool
is_option_place rule place =
    if rule.valued then nat_le rule.after place && (place - rule.after) % 2 == 0 else place == rule.after

-- a word that stands in place of an option, and is none
abbrev pub is_bad_option : OptionRule → ℕ × Word → Bool
is_bad_option rule word = is_option_place rule word.0 && not (is_among rule.names word.1)

-- the position of the first such word; the arguments stand from a position on
abbrev pub bad_option : Option OptionRule → ℕ → List Word → Option ℕ
bad_option None position words = None
bad_option (Some rule) position words =
    option_map (λ word. position + word.0) (find (is_bad_option rule) (enumerate_from 0 words))

-- ---- how many words

abbrev pub at_most : ℕ → Option ℕ → Bool
at_most count None = true
at_most count (Some greatest) = nat_le count greatest

-- the arguments before the options are there, and each option has its value
abbrev pub are_paired : Option OptionRule → ℕ → Bool
are_paired None count = true
are_paired (Some rule) count = nat_le rule.after count && (if rule.valued then (count - rule.after) % 2 == 0 else true)

abbrev pub fits : EntryRule → ℕ → Bool
fits entry count = nat_le entry.least count && at_most count entry.greatest && are_paired entry.options count

-- how many arguments stand before the options
abbrev pub before_options : Option OptionRule → ℕ → ℕ
before_options None count = count
before_options (Some rule) count = rule.after
