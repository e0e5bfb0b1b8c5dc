-- What a draft says, by the draft itself: a function tells the lines of its list.
use Rattle.std.specs.Prelude.{ℕ, List}
use Rattle.segments.specs.Columns.{LineContent}
use Rattle.line_lists.specs.declared.drafts.Copied.{Copied}
use Rattle.line_lists.specs.declared.drafts.Draft.{Draft}
use Rattle.line_lists.specs.declared.drafts.Stop.{Stop}
use Rattle.line_lists.specs.declared.lists.LineList.{Ghosts}
use Rattle.line_lists.specs.Drafts.{BeginsBehind, BeginsBy, IsDraft, IsTaken, IsText, drafted_at}
use Rattle.line_lists.specs.Drafts.{place_of, taken_lines, text_at}

-- its copies are of lines that are there, and its text can be counted; its lines are those of a text
abbrev pub IsDraftIn : {L : Type 0} {g : Ghosts L} → (L → List LineContent) → Draft L g → Type 0
IsDraftIn lines draft = IsDraft (lines draft.list.now) draft.front.items draft.back.items

abbrev pub IsTextIn : {L : Type 0} {g : Ghosts L} → (L → List LineContent) → Draft L g → Type 0
IsTextIn lines draft = IsText (lines draft.list.now) draft.front.items draft.back.items

-- its lines, and these in a row
abbrev pub lines_in : {L : Type 0} {g : Ghosts L} → (L → List LineContent) → Draft L g → List LineContent
lines_in lines draft = drafted_at (lines draft.list.now) draft.front.items draft.back.items

abbrev pub text_in : {L : Type 0} {g : Ghosts L} → (L → List LineContent) → Draft L g → LineContent
text_in lines draft = text_at (lines draft.list.now) draft.front.items draft.back.items

-- how many characters stand before its place
abbrev pub place_in : {L : Type 0} {g : Ghosts L} → (L → List LineContent) → Draft L g → ℕ
place_in lines draft = place_of (lines draft.list.now) draft.front.items

-- the line of the last copy before its place begins at an offset or before it, and that of the first behind it begins
-- behind an offset
abbrev pub IsBegun : {L : Type 0} {g : Ghosts L} → (L → List LineContent) → Draft L g → ℕ → Type 0
IsBegun lines draft offset = BeginsBy (lines draft.list.now) offset draft.front.items

abbrev pub IsAhead : {L : Type 0} {g : Ghosts L} → (L → List LineContent) → Draft L g → ℕ → Type 0
IsAhead lines draft offset = BeginsBehind (lines draft.list.now) offset draft.front.items draft.back.items

-- a copy is taken out of it, and the lines with this copy
abbrev pub IsTakenFrom : {L : Type 0} {g : Ghosts L} → (L → List LineContent) → Draft L g → Stop → Type 0
IsTakenFrom lines draft stop = IsTaken (lines draft.list.now) draft.front.items draft.back.items stop

abbrev pub taken_in : {L : Type 0} {g : Ghosts L} → (L → List LineContent) → Draft L g → Copied → List LineContent
taken_in lines draft copy = taken_lines (lines draft.list.now) draft.front.items draft.back.items copy
