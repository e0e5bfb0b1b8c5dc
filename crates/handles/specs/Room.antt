-- Texts that are copied over what stands in some room.
use Rattle.std.specs.Prelude.{◌≡◌, ℕ, min, List, ◌++◌, length, take, drop}

-- the text at the front of the room, as far as it goes, and behind it what stood there
abbrev pub over : List ℕ → List ℕ → List ℕ
over text room = take (length room) text ++ drop (length text) room

-- so many bytes were copied to the room, which was another at first
pub record Copied (text start : List ℕ) (total : ℕ) (room : List ℕ) : Type 0 where
  pub count : total ≡ min (length text) 18446744073709551615
  pub bytes : room ≡ over text start
  pub long : length room ≡ length start
