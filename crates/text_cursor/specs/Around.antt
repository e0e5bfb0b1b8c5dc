-- What stands around a place of a text: the slots of the cells on both sides, and where the next line begins.
use Rattle.std.specs.Prelude.{ℕ, ◌+◌, List}
pub use Rattle.text_model.specs.Content.{shared_slots, slots_around}
use Rattle.text_model.specs.Lines.{line_of, line_start}

-- where the line after that of an offset begins; the length where there is none
abbrev pub next_line : List ℕ → ℕ → ℕ
next_line text offset = line_start (line_of text offset + 1) text
