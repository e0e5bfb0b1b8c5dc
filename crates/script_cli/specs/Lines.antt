-- What is printed for a command or a script fault, as characters; and as bytes.
use Rattle.std.specs.Prelude.{ℕ, ◌-◌, Bool, true, false, ◌&&◌, ◌||◌, nat_le, nat_lt, List, [], ◌∷◌, ◌++◌, length, take}
use Rattle.std.specs.Prelude.{chars, encode_utf8_all, slice_index, slice_index_or, Result, Ok, Err, if◌then◌else◌}
use Rattle.command_effects.specs.declared.answers.Answer.{Answer}
use Rattle.command_effects.specs.declared.answers.Answer.TheVariants.{Empty, Word, Flag, Text}
use Rattle.command_effects.specs.declared.answers.Fault.{Fault}
use Rattle.command_effects.specs.declared.answers.Fault.TheVariants.{BadIndex, NoTaggedCharacters, NoSuchMark}
use Rattle.command_effects.specs.declared.answers.Fault.TheVariants.{NoSuchTag}
use Rattle.command_effects.specs.declared.answers.Fault.TheVariants.{BadOption, WrongArguments, InvalidCommandName}
use Rattle.command_effects.specs.declared.answers.Fault.TheVariants.{WindowExists, BadComparison, BadGravity, BadList}
use Rattle.command_effects.specs.declared.answers.Fault.TheVariants.{IndexOrder, BadBoolean, BadInteger}
use Rattle.command_effects.specs.declared.answers.Fault.TheVariants.{StartLineAfterEndLine, NothingToUndo}
use Rattle.command_effects.specs.declared.answers.Fault.TheVariants.{NothingToRedo}
use Rattle.command_effects.specs.declared.answers.Fault.TheVariants.{TooManyWidgets, TooManyTags, TooManyMarks}
use Rattle.command_effects.specs.declared.answers.Fault.TheVariants.{TextTooLong, Memory}
use Rattle.tcl_words.specs.declared.fault.ScriptFault.{ScriptFault}
use Rattle.tcl_words.specs.declared.fault.ScriptFault.TheVariants as script
use Prim.Native.String.{String}
use Rattle.command_effects.specs.Words.{literal}

-- the word of a command at a position
abbrev pub word_at : List (List ℕ) → ℕ → List ℕ
word_at words position = slice_index_or words position []

-- a character of a text begins at a byte, or the text ends there
abbrev pub is_boundary : List ℕ → ℕ → Bool
is_boundary bytes at =
    nat_le at (length bytes) && (nat_le (length bytes) at
    || (nat_lt (slice_index bytes at) 128 || nat_le 192 (slice_index bytes at)))

-- the characters that so many bytes at the front of a word spell; the whole word where these cut a character
abbrev pub front_of : ℕ → List ℕ → List ℕ
front_of len word =
    let bytes = encode_utf8_all word in
    if is_boundary bytes len then chars (take len bytes) else word

abbrev pub answer_text : List (List ℕ) → Answer → List ℕ
answer_text words Empty = []
answer_text words (Word position) = word_at words position
answer_text words (Flag true) = literal "1"
answer_text words (Flag false) = literal "0"
answer_text words (Text text) = text

-- a line that is printed: one or two words of the command, or parts of them, between texts of the program
pub record Line : Type 0 where
  pub before : List ℕ
  pub word : List ℕ
  pub between : List ℕ
  pub other : List ℕ
  pub after : List ℕ

abbrev pub around_two : String → List ℕ → String → List ℕ → String → Line
around_two before word between other after = record {
  before = literal before;
  word = word;
  between = literal between;
  other = other;
  after = literal after;
}

abbrev pub around : String → List ℕ → String → Line
around before word after = around_two before word "" (literal "") after

abbrev pub alone : String → Line
alone text = around text (literal "") ""

-- the lines of the faults
abbrev pub fault_line : List (List ℕ) → Fault → Line
fault_line words (BadIndex position) = around "error: bad text index \"" (word_at words position) "\"\n"
fault_line words (NoTaggedCharacters position len) =
    around "error: text doesn't contain any characters tagged with \"" (front_of len (word_at words position)) "\"\n"
fault_line words (NoSuchMark position) = around "error: there is no mark named \"" (word_at words position) "\"\n"
fault_line words (NoSuchTag position) =
    around "error: tag \"" (word_at words position) "\" isn't defined in text widget\n"
fault_line words (BadOption position) = around "error: bad option \"" (word_at words position) "\"\n"
fault_line words WrongArguments = alone "error: wrong # args\n"
fault_line words (InvalidCommandName position) = around "error: invalid command name \"" (word_at words position) "\"\n"
fault_line words (WindowExists position) = around "error: window name \"" (word_at words position) "\" already exists\n"
fault_line words (BadComparison position) = around "error: bad comparison operator \"" (word_at words position) "\"\n"
fault_line words (BadGravity position) = around "error: bad mark gravity \"" (word_at words position) "\"\n"
fault_line words (BadList position) = around "error: bad list \"" (word_at words position) "\"\n"
fault_line words (IndexOrder position) =
    around_two "error: index \"" (word_at words position) "\" before \"" (word_at words (position - 1))
    "\" in the text\n"
fault_line words (BadBoolean position) =
    around "error: expected boolean value but got \"" (word_at words position) "\"\n"
fault_line words (BadInteger position) = around "error: expected integer but got \"" (word_at words position) "\"\n"
fault_line words StartLineAfterEndLine = alone "error: -startline must be less than or equal to -endline\n"
fault_line words NothingToUndo = alone "error: nothing to undo\n"
fault_line words NothingToRedo = alone "error: nothing to redo\n"
fault_line words TooManyWidgets = alone "error: too many widgets\n"
fault_line words TooManyTags = alone "error: too many tags\n"
fault_line words TooManyMarks = alone "error: too many marks\n"
fault_line words TextTooLong = alone "error: text is too long\n"
fault_line words Memory = alone "error: out of memory\n"

abbrev pub line_text : Line → List ℕ
line_text line = line.before ++ (line.word ++ (line.between ++ (line.other ++ line.after)))

abbrev pub script_fault_text : ScriptFault → List ℕ
script_fault_text script.MissingBrace = literal "missing close-brace"
script_fault_text script.MissingQuote = literal "missing \""
script_fault_text script.ExtraAfterBrace = literal "extra characters after close-brace"
script_fault_text script.ExtraAfterQuote = literal "extra characters after close-quote"
script_fault_text script.Substitution = literal "substitution isn't supported"
script_fault_text script.NotUtf8 = literal "script isn't UTF-8"
script_fault_text script.BadCharacterCode = literal "bad character code"
script_fault_text script.Memory = literal "out of memory"

abbrev pub error_line : List ℕ → List ℕ
error_line text = literal "error: " ++ text ++ 10 ∷ []

abbrev pub memory_line : List ℕ
memory_line = line_text (alone "error: out of memory\n")

-- the piece of a command: its answer or its fault, and a newline
abbrev pub piece : List (List ℕ) → Result Answer Fault → List ℕ
piece words (Ok answer) = answer_text words answer ++ 10 ∷ []
piece words (Err fault) = line_text (fault_line words fault)

-- the bytes of a line
abbrev pub printed : Line → List ℕ
printed line = encode_utf8_all (line_text line)
