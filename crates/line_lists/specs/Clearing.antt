-- Where a slot is toggled next in the lines of a draft.
use Rattle.std.specs.Prelude.{◌≡◌, ℕ, ◌+◌, false, List, [], ◌∷◌, ⊤, length, drop, reverse, if◌then◌else◌}
use Rattle.segments.specs.Columns.{LineContent}
use Rattle.line_lists.specs.declared.drafts.Copied.{Copied}
use Rattle.line_lists.specs.declared.drafts.Stop.{Stop}
use Rattle.line_lists.specs.Drafts.{copies_of, drafted, place_of, used}
use Rattle.line_lists.specs.Lists.{has_toggle}

-- a slot is toggled in none of some lines
abbrev pub AreFree : ℕ → List LineContent → Type 0
AreFree slot [] = ⊤
AreFree slot (line ∷ lines) = (has_toggle slot line ≡ false) × AreFree slot lines

-- how many characters the lines before the first one have in which a slot is toggled
abbrev pub free_length : ℕ → List LineContent → ℕ
free_length slot [] = 0
free_length slot (line ∷ lines) = if has_toggle slot line then 0 else length line.columns + free_length slot lines

-- the lines behind the place of a draft
abbrev pub lines_on : List LineContent → List Stop → List Copied → List LineContent
lines_on lines front back = drafted (reverse back) (drop (used (copies_of front)) lines)

-- how many characters stand before the first line behind it in which a slot is toggled
abbrev pub free_end : ℕ → List LineContent → List Stop → List Copied → ℕ
free_end slot lines front back = place_of lines front + free_length slot (lines_on lines front back)
