-- The place that an index stands for (text(n), "INDICES"), counted from the start of the view's text. Lines of the text
-- count from 0 here, and those of an index from 1.
use Rattle.std.specs.Prelude.{ℕ, zero, suc, ◌+◌, ◌-◌, ◌==◌, min, nat_lt, Bool, not, List, [], ◌∷◌, length, take, drop}
use Rattle.std.specs.Prelude.{slice_index, position, Option, None, Some, Result, Ok, Err, if◌then◌else◌}
use Rattle.std.specs.List.{prefix_len, suffix_len}
use Rattle.text_model.specs.Lines.{lines, line_of, line_start}
use Rattle.index_grammar.specs.declared.faults.IndexFault.{IndexFault}
use Rattle.index_grammar.specs.declared.faults.IndexFault.TheVariants.{BadIndex, NoTaggedCharacters}
use Rattle.index_grammar.specs.declared.indices.Base.{Base}
use Rattle.index_grammar.specs.declared.indices.Base.TheVariants as base
use Rattle.index_grammar.specs.declared.indices.Direction.{Direction}
use Rattle.index_grammar.specs.declared.indices.Direction.TheVariants as direction
use Rattle.index_grammar.specs.declared.indices.Modifier.{Modifier}
use Rattle.index_grammar.specs.declared.indices.Modifier.TheVariants as modifier
use Rattle.index_grammar.specs.declared.indices.Unit.TheVariants.{Characters, Lines}

-- ---- places in lines

-- the newline of a line
abbrev pub newline_of : ℕ → List ℕ → ℕ
newline_of line text = line_start (suc line) text - 1

-- a character of a line, or its newline where the line is shorter
abbrev pub in_line : ℕ → ℕ → List ℕ → ℕ
in_line line character text = min (line_start line text + character) (newline_of line text)

-- how many characters stand before a place in its line
abbrev pub column_of : List ℕ → ℕ → ℕ
column_of text place = place - line_start (line_of text place) text

-- a place in a line that counts from 1: line 0 is the first place, and a line behind the last is the end
abbrev pub on_line : ℕ → List ℕ → (ℕ → ℕ) → ℕ
on_line zero text place = 0
on_line (suc line) text place = if nat_lt line (lines text) then place line else length text

-- a character of a line, or its newline where none is named
abbrev pub line_value : ℕ → Option ℕ → List ℕ → ℕ
line_value line (Some character) text = on_line line text (λ k. in_line k character text)
line_value line None text = on_line line text (λ k. newline_of k text)

-- ---- modifiers: at the end, those that look for a line or a word change nothing

abbrev pub unless_end : List ℕ → ℕ → ℕ → ℕ
unless_end text place value = if place == length text then length text else value

-- the same character so many lines on, or on the last line
abbrev pub lines_on : ℕ → List ℕ → ℕ → ℕ
lines_on count text place =
    unless_end text place (in_line (min (line_of text place + count) (lines text - 1)) (column_of text place) text)

-- the same character so many lines back, or on the first line; the end is the first character of a line behind the last
abbrev pub lines_back : ℕ → List ℕ → ℕ → ℕ
lines_back count text place =
    let line = line_of text place - count in
    if line == lines text then length text else in_line line (column_of text place) text

abbrev pub lines_by : Direction → ℕ → List ℕ → ℕ → ℕ
lines_by direction.Forward count text place = lines_on count text place
lines_by direction.Back count text place = lines_back count text place

-- a letter or a digit of any script, or an underscore
abbrev pub word_front : (ℕ → Bool) → List ℕ → ℕ → ℕ
word_front is_word text place =
    if is_word (slice_index text place) then place - suffix_len is_word (take place text) else place

abbrev pub word_behind : (ℕ → Bool) → List ℕ → ℕ → ℕ
word_behind is_word text place =
    if is_word (slice_index text place) then place + prefix_len is_word (drop place text) else place + 1

-- the place after the word, but on the last character that character
abbrev pub word_end : (ℕ → Bool) → List ℕ → ℕ → ℕ
word_end is_word text place = if suc place == length text then place else word_behind is_word text place

abbrev pub modified : (ℕ → Bool) → List ℕ → ℕ → Modifier → ℕ
modified is_word text place (modifier.Forward Characters count) = min (place + count) (length text)
modified is_word text place (modifier.Back Characters count) = place - count
modified is_word text place (modifier.Forward Lines count) = lines_on count text place
modified is_word text place (modifier.Back Lines count) = lines_back count text place
modified is_word text place modifier.LineStart = unless_end text place (line_start (line_of text place) text)
modified is_word text place modifier.LineEnd = unless_end text place (newline_of (line_of text place) text)
modified is_word text place modifier.WordStart = unless_end text place (word_front is_word text place)
modified is_word text place modifier.WordEnd = unless_end text place (word_end is_word text place)

-- the modifiers from the first on
abbrev pub modified_by : (ℕ → Bool) → List ℕ → List Modifier → ℕ → ℕ
modified_by is_word text [] place = place
modified_by is_word text (first ∷ modifiers) place =
    modified_by is_word text modifiers (modified is_word text place first)

-- ---- bases, by where the view shows each mark, and which of its characters have the tag of a slot

-- the first place that has a tag, and the one after the last
abbrev pub first_tagged : List Bool → Option ℕ
first_tagged flags = position (λ b. b) flags

abbrev pub last_tagged : List Bool → Option ℕ
last_tagged flags =
    if nat_lt (suffix_len not flags) (length flags) then Some (length flags - suffix_len not flags) else None

abbrev pub or_fault : IndexFault → Option ℕ → Result ℕ IndexFault
or_fault fault None = Err fault
or_fault fault (Some place) = Ok place

abbrev pub base_value : (ℕ → Option ℕ) → (ℕ → List Bool) → List ℕ → Base → Result ℕ IndexFault
base_value marks flags text (base.At line character) = Ok (line_value line (Some character) text)
base_value marks flags text (base.LineEnd line) = Ok (line_value line None text)
base_value marks flags text base.End = Ok (length text)
base_value marks flags text (base.Mark number) = or_fault BadIndex (marks number.0)
base_value marks flags text (base.First slot len) = or_fault (NoTaggedCharacters len) (first_tagged (flags slot.0))
base_value marks flags text (base.Last slot len) = or_fault (NoTaggedCharacters len) (last_tagged (flags slot.0))

abbrev pub then_modified : (ℕ → Bool) → List ℕ → List Modifier → Result ℕ IndexFault → Result ℕ IndexFault
then_modified is_word text modifiers (Err fault) = Err fault
then_modified is_word text modifiers (Ok place) = Ok (modified_by is_word text modifiers place)

-- the modifiers that were read, or none where what was read is no list of them
abbrev pub read_modified : (ℕ → Bool) → List ℕ → Option (List Modifier) → Result ℕ IndexFault → Result ℕ IndexFault
read_modified is_word text None from = Err BadIndex
read_modified is_word text (Some modifiers) from = then_modified is_word text modifiers from

abbrev pub index_value : (ℕ → Bool) → (ℕ → Option ℕ) → (ℕ → List Bool) → List ℕ → Base → List Modifier →
    Result ℕ IndexFault
index_value is_word marks flags text base modifiers =
    then_modified is_word text modifiers (base_value marks flags text base)
