-- The limits of a program: numbers above which it refuses to grow.
use Rattle.std.specs.Prelude.{ℕ, ◌<◌, ◌≤◌}

-- the greatest number of characters of a text, its last newline included
abbrev pub most_chars : ℕ
most_chars = 134217728

-- the greatest number of tags besides `sel`
abbrev pub most_tags : ℕ
most_tags = 960

-- the greatest number of marks that widgets share
abbrev pub most_marks : ℕ
most_marks = 4096

-- the greatest number of widgets
abbrev pub most_widgets : ℕ
most_widgets = 64

pub record LimitTable : Type 0 where
  pub chars : ℕ
  pub tags : ℕ
  pub marks : ℕ
  pub widgets : ℕ
  pub reads : ℕ

-- one character at least, the last newline, and no more than the greatest of each number
pub record AreLimits (limits : LimitTable) : Type 0 where
  pub some : 0 < limits.chars
  pub chars : limits.chars ≤ most_chars
  pub tags : limits.tags ≤ most_tags
  pub marks : limits.marks ≤ most_marks
  pub widgets : limits.widgets ≤ most_widgets
