-- The fault of a command, by the fault of one of its words, and what comes after a word without one.
use Rattle.std.specs.Prelude.{ℕ, Result, Ok, Err}
use Rattle.command_table.specs.declared.shapes.ShapeFault.{ShapeFault}
use Rattle.command_table.specs.declared.shapes.ShapeFault.TheVariants as shape
use Rattle.edit_ops.specs.declared.faults.EditFault.{EditFault}
use Rattle.edit_ops.specs.declared.faults.EditFault.TheVariants as edit
use Rattle.index_grammar.specs.declared.faults.IndexFault.{IndexFault}
use Rattle.index_grammar.specs.declared.faults.IndexFault.TheVariants as index
use Rattle.command_effects.specs.declared.answers.Fault.{Fault}
use Rattle.command_effects.specs.declared.answers.Fault.TheVariants.{BadIndex, NoTaggedCharacters, BadOption}
use Rattle.command_effects.specs.declared.answers.Fault.TheVariants.{WrongArguments, TextTooLong, Memory}

-- of an index, which stands at a position
abbrev pub index_fault : ℕ → IndexFault → Fault
index_fault position index.BadIndex = BadIndex position
index_fault position (index.NoTaggedCharacters len) = NoTaggedCharacters position len
index_fault position index.Memory = Memory

abbrev pub shape_fault : ShapeFault → Fault
shape_fault (shape.BadOption position) = BadOption position
shape_fault shape.WrongArguments = WrongArguments

-- of an edit whose indices are known to be in order
abbrev pub edit_fault : EditFault → Fault
edit_fault edit.TextTooLong = TextTooLong
edit_fault edit.IndexOrder = Memory
edit_fault edit.Memory = Memory

-- with a place, or the fault of the word at a position
abbrev pub at_position : ℕ → Result ℕ IndexFault → Result ℕ Fault
at_position position (Err fault) = Err (index_fault position fault)
at_position position (Ok place) = Ok place

-- what follows a value, or its fault
abbrev pub with_value : {A B : Type 0} → Result A Fault → (A → Result B Fault) → Result B Fault
with_value (Err fault) next = Err fault
with_value (Ok value) next = next value
