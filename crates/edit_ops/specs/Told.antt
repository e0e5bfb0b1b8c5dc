-- What is told of an edit: the changes of a text, in order, and where in its lines they are.
use Rattle.std.specs.Prelude.{◌≡◌, ◌≢◌, ◌<◌, ◌≤◌, ℕ, ◌+◌, ◌-◌, ◌^◌, List, [], ◌∷◌, ◌++◌, length, take, drop, ⊤}
use Rattle.std.specs.Prelude.{slice_range, sum_by, nat_lt, encode_utf8_all, map, reverse, if◌then◌else◌, true, false}
use Rattle.text_model.specs.Lines.{line_of, line_start}
use Rattle.text_model.specs.Splices.{inserted, removed}
use Rattle.undo_stack.specs.declared.actions.Action.{Action}
use Rattle.edit_ops.specs.declared.changes.TextChange.{TextChange}
use Rattle.edit_ops.specs.declared.hunks.Hunk.{Hunk}
use Rattle.edit_ops.specs.declared.spans.Span.{Span}
use Rattle.edit_ops.specs.declared.spots.Spot.{Spot}

-- ---- places in lines

-- how many units a character has in UTF-16
abbrev pub units_of : ℕ → ℕ
units_of character = if nat_lt character 65536 then 1 else 2

-- what stands in the line of an offset before it
abbrev pub line_front : List ℕ → ℕ → List ℕ
line_front text offset = slice_range text (line_start (line_of text offset) text) offset

-- an offset as its line, from 1, and what stands before it in that line, in characters, bytes and units of UTF-16
abbrev pub spot_at : List ℕ → ℕ → Spot
spot_at text offset = record {
  line = line_of text offset + 1;
  column = length (line_front text offset);
  bytes = length (encode_utf8_all (line_front text offset));
  units = sum_by units_of (line_front text offset);
}

-- where a text ends
abbrev pub end_of : List ℕ → Spot
end_of text = spot_at text (length text)

-- each number of a spot can grow by so much
pub record HasRoom (spot : Spot) (count : ℕ) : Type 0 where
  pub line : spot.line + count < 2 ^ 64
  pub column : spot.column + count < 2 ^ 64
  pub bytes : spot.bytes + count < 2 ^ 64
  pub units : spot.units + count < 2 ^ 64

-- ---- changes

-- A list with an element for each character of a text, after a change of the text: `put` gives the elements of what is
-- put in.
abbrev pub after_change_by : {A : Type 0} → (List ℕ → List A) → TextChange → List A → List A
after_change_by put change list =
    take change.at list ++ put change.inserted ++ drop (change.at + change.removed) list

-- a text after a change of it
abbrev pub after_change : TextChange → List ℕ → List ℕ
after_change change text = after_change_by (λ inserted. inserted) change text

-- such a list after changes, one after the other
abbrev pub after_changes_by : {A : Type 0} → (List ℕ → List A) → List TextChange → List A → List A
after_changes_by put [] list = list
after_changes_by put (change ∷ changes) list = after_changes_by put changes (after_change_by put change list)

-- A change of a text deletes characters of it, inserts some, or both. It begins at one spot; what it deletes ends at
-- one of the text before it, and what it inserts at one of the text after it.
pub record IsChange (text : List ℕ) (change : TextChange) : Type 0 where
  pub within : change.at + change.removed ≤ length text
  pub some : change.removed ≡ 0 → change.inserted ≢ []
  pub start : change.start ≡ spot_at text change.at
  pub old_end : change.old_end ≡ spot_at text (change.at + change.removed)
  pub new_end : change.new_end ≡ spot_at (after_change change text) (change.at + length change.inserted)

-- changes of one text, made one after the other, give another
abbrev pub Tells : List TextChange → List ℕ → List ℕ → Type 0
Tells [] old new = new ≡ old
Tells (change ∷ changes) old new = IsChange old change × Tells changes (after_change change old) new

-- ---- what an edit does

-- an insertion of a text, and a deletion of a text's characters from one offset to another, as actions
abbrev pub insertion : ℕ → List ℕ → Action
insertion at text = record { inserts = true; at = at; text = text }

abbrev pub deletion : List ℕ → ℕ → ℕ → Action
deletion text from to = record { inserts = false; at = from; text = slice_range text from to }

-- a text after an action
abbrev pub after_action : Action → List ℕ → List ℕ
after_action action text =
    if action.inserts then inserted action.at action.text text
    else removed action.at (action.at + length action.text) text

-- a text after actions, one after the other
abbrev pub after_actions : List Action → List ℕ → List ℕ
after_actions [] text = text
after_actions (action ∷ actions) text = after_actions actions (after_action action text)

-- the last position first: each change ends before the one before it begins, and a character stays between the two
abbrev pub AreFalling : List TextChange → Type 0
AreFalling [] = ⊤
AreFalling (change ∷ []) = ⊤
AreFalling (change ∷ next ∷ changes) = (next.at + next.removed < change.at) × AreFalling (next ∷ changes)

-- Changes are exactly what actions do to a text of `len` characters: of every such text they make what the actions
-- make, so that a character which stays is neither deleted nor inserted; and adjacent changes are one.
pub record AreExact (actions : List Action) (len : ℕ) (changes : List TextChange) : Type 0 where
  pub same : (text : List ℕ) → length text ≡ len
      → after_changes_by (λ inserted. inserted) changes text ≡ after_actions actions text
  pub falling : AreFalling changes

-- ---- hunks

-- a hunk deletes characters of an old text, inserts a text in their place, or between two of them, or both
pub record IsHunk (hunk : Hunk) : Type 0 where
  pub ordered : hunk.from ≤ hunk.to
  pub some : hunk.from ≡ hunk.to → hunk.text ≢ []

-- hunks in the order of an old text of `len` characters, from an offset of it on
abbrev pub AreHunks : ℕ → ℕ → List Hunk → Type 0
AreHunks at len [] = at ≤ len
AreHunks at len (hunk ∷ hunks) = (at ≤ hunk.from) × IsHunk hunk × AreHunks hunk.to len hunks

-- A list with an element for each character of an old text, from an offset on, with hunks of the text made: `put` gives
-- the elements of what is put in.
abbrev pub patched_by : {A : Type 0} → (List ℕ → List A) → ℕ → List Hunk → List A → List A
patched_by put at [] list = drop at list
patched_by put at (hunk ∷ hunks) list =
    slice_range list at hunk.from ++ put hunk.text ++ patched_by put hunk.to hunks list

-- an old text from an offset on, with hunks of it made
abbrev pub patched : ℕ → List Hunk → List ℕ → List ℕ
patched at hunks text = patched_by (λ put_in. put_in) at hunks text

-- the change that a hunk makes of a text that is the old one up to the hunk's end
abbrev pub hunk_change : List ℕ → Hunk → TextChange
hunk_change text hunk = record {
  at = hunk.from;
  removed = hunk.to - hunk.from;
  inserted = hunk.text;
  start = spot_at text hunk.from;
  old_end = spot_at text hunk.to;
  new_end = end_of (take hunk.from text ++ hunk.text);
}

-- the changes of hunks, the last hunk's first
abbrev pub hunk_changes : List ℕ → List Hunk → List TextChange
hunk_changes text hunks = reverse (map (hunk_change text) hunks)

-- a character of the old text stays between two hunks
abbrev pub AreSeparate : List Hunk → Type 0
AreSeparate [] = ⊤
AreSeparate (hunk ∷ []) = ⊤
AreSeparate (hunk ∷ next ∷ hunks) = (hunk.to < next.from) × AreSeparate (next ∷ hunks)

-- hunks are exactly what actions do to a text of `len` characters
pub record AreHunksOf (actions : List Action) (len : ℕ) (hunks : List Hunk) : Type 0 where
  pub stand : AreHunks 0 len hunks
  pub apart : AreSeparate hunks
  pub same : (text : List ℕ) → length text ≡ len → patched 0 hunks text ≡ after_actions actions text

-- the hunk that deletes the characters from one offset to another, if there are some
abbrev pub taking_out : ℕ → ℕ → List Hunk
taking_out from to = if nat_lt from to then record { from = from; to = to; text = [] } ∷ [] else []

-- the hunk that replaces the characters from one offset to another by a text, unless it does nothing
abbrev pub replacing : ℕ → ℕ → List ℕ → List Hunk
replacing from to [] = taking_out from to
replacing from to (character ∷ text) = record { from = from; to = to; text = character ∷ text } ∷ []

-- a list without spans, of which the last comes first
abbrev pub removed_all : {A : Type 0} → List Span → List A → List A
removed_all [] list = list
removed_all (span ∷ spans) list = removed_all spans (removed span.from span.to list)

-- hunks that delete spans, of which the last comes first
abbrev pub taking : List Span → List Hunk
taking spans = map (λ (span : Span). record { from = span.from; to = span.to; text = [] }) (reverse spans)
