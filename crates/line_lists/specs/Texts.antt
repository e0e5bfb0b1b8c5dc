-- What a list of lines says: the lines in a row are one long line, and that is a text, in which a tag is on a cell
-- where its slot was toggled an odd number of times before it.
use Rattle.std.specs.Prelude.{List, [], ◌∷◌}
use Rattle.std.specs.FinSet as set
use Rattle.text_model.specs.declared.cells.Cell.{Cell}
use Rattle.text_model.specs.Content.{Content, Slots}
use Rattle.text_model.specs.SlotSets.{differing}
use Rattle.segments.specs.Columns.{Column, LineContent, joined, plain_line}

-- the cells of columns, where some slots are on at the start
abbrev pub cells_from : Slots → List Column → List Cell
cells_from on [] = []
cells_from on (column ∷ columns) =
    record { character = column.character; tags = differing on column.toggled }
    ∷ cells_from (differing on column.toggled) columns

abbrev pub cells_of_columns : List Column → List Cell
cells_of_columns columns = cells_from set.empty columns

-- the text of one long line
abbrev pub text_of : LineContent → Content
text_of line = record { cells = cells_of_columns line.columns; marks = line.marks }

-- lines in a row
abbrev pub whole : List LineContent → LineContent
whole [] = plain_line []
whole (line ∷ lines) = joined line (whole lines)

abbrev pub content_of : List LineContent → Content
content_of lines = text_of (whole lines)
