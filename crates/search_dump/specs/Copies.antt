-- What is left of characters that are copied out of a text.
use Rattle.std.specs.Prelude.{◌≡◌, ℕ, ◌≤◌, List, chars, drop, length, slice_range, string_bytes}
use Rattle.search_dump.specs.declared.copied.Copied.{Copied}

-- the characters that are left
abbrev pub left_of : Copied → List ℕ
left_of copied = chars (drop copied.byte (string_bytes copied.text))

-- they are those of a text from a place on up to another one, and the text goes on as far as copies may
pub record AreLeft (text : List ℕ) (copied : Copied) : Type 0 where
  pub within : copied.end ≤ length text
  pub limit : copied.limit ≤ length text
  pub are : left_of copied ≡ slice_range text copied.place copied.end
