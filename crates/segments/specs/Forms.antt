-- What a line is as it is kept.
use Rattle.std.specs.Prelude.{Bool, true, false}
use Rattle.segments.specs.Columns.{LineContent, plain_line}
use Rattle.segments.specs.declared.form.Form.{Form}
use Rattle.segments.specs.declared.form.Form.TheVariants.{Plain, Rich}

abbrev pub content : Form → LineContent
content (Plain text) = plain_line text
content (Rich line) = line.value

abbrev pub is_plain : Form → Bool
is_plain (Plain text) = true
is_plain (Rich line) = false
