-- Where an offset stands in lines, also at the end of the text and behind it.
use Rattle.std.specs.Prelude.{◌≡◌, ℕ, suc, ◌+◌, ◌<◌, List, IfSome, length, take, slice_get}
use Rattle.segments.specs.Columns.{LineContent}
use Rattle.line_lists.specs.Texts.{whole}

-- an offset is a column of the line that holds it; from the end of the text on it is one of the last line
pub record IsAt (lines : List LineContent) (offset line column : ℕ) : Type 0 where
  pub behind : offset ≡ length (whole (take line lines)).columns + column
  pub within : line < length lines
  pub inside :
      suc line < length lines → IfSome (slice_get lines line) (λ (here : LineContent). column < length here.columns)
