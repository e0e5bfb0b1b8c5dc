-- Where the anchors of a widget go: they stand at line starts, or at the end of the text.
use Rattle.std.specs.Prelude.{ℕ, ◌+◌, ◌-◌, ◌≤◌, ◌&&◌, ◌==◌, not, nat_lt, nat_le, List, length, IfSome, option_map}
use Rattle.std.specs.Prelude.{unwrap_or, if◌then◌else◌}
use Rattle.text_model.specs.Lines.{IsLineStart, line_of, line_start}
use Rattle.text_model.specs.Splices.{removed}
use Rattle.text_cursor.specs.Around.{next_line}
use Rattle.edit_ops.specs.declared.anchors.Anchors.{Anchors}

-- no anchor stands behind the end of a text of so many characters
pub record AnchorsStand (len : ℕ) (anchors : Anchors) : Type 0 where
  pub start : IfSome anchors.start (λ start. start ≤ len)
  pub end : IfSome anchors.end (λ end. end ≤ len)

-- the anchors stand where lines of a text start, or at its end, and the start no later than the end
pub record AreAnchored (text : List ℕ) (anchors : Anchors) : Type 0 where
  pub start : IfSome anchors.start (IsLineStart text)
  pub end : IfSome anchors.end (IsLineStart text)
  pub ordered : unwrap_or anchors.start 0 ≤ unwrap_or anchors.end (length text)

-- what is put in at an offset takes along the anchors above it, and those alone
abbrev pub anchor_moved : ℕ → ℕ → ℕ → ℕ
anchor_moved at count anchor = if nat_lt at anchor then anchor + count else anchor

abbrev pub anchors_moved : ℕ → ℕ → Anchors → Anchors
anchors_moved at count anchors = record {
  start = option_map (anchor_moved at count) anchors.start;
  end = option_map (anchor_moved at count) anchors.end;
}

-- Characters from one offset to another are taken out of a line that begins at `line`, and afterwards the next line
-- begins at `next`. An anchor above them moves along, and a start among them goes to where the line begins.
abbrev pub start_drawn : ℕ → ℕ → ℕ → ℕ → ℕ
start_drawn line from to anchor =
    if nat_le anchor from then anchor else if nat_le anchor to then line else anchor - (to - from)

-- An end among them does so too; but where the widget begins no later than they, and the line keeps characters before
-- them, the widget goes on to show that line.
abbrev pub end_drawn : ℕ → ℕ → ℕ → ℕ → ℕ → ℕ → ℕ
end_drawn line next start from to anchor =
    if nat_le anchor from then anchor
    else if nat_le anchor to then (if nat_le start from && not (from == line) then next else line)
    else anchor - (to - from)

abbrev pub anchors_drawn : ℕ → ℕ → ℕ → ℕ → Anchors → Anchors
anchors_drawn line next from to anchors = record {
  start = option_map (start_drawn line from to) anchors.start;
  end = option_map (end_drawn line next (unwrap_or anchors.start 0) from to) anchors.end;
}

-- the anchors after the removal of the characters of a text from one offset to another
abbrev pub anchors_removed : List ℕ → ℕ → ℕ → Anchors → Anchors
anchors_removed text from to anchors =
    anchors_drawn (line_start (line_of text from) text) (next_line (removed from to text) from) from to anchors
