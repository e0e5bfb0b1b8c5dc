-- The lines that a text will have, on the way: copies of some lines of a list, each in the place of some of them.
use Rattle.std.specs.Prelude.{◌≡◌, ℕ, ◌+◌, ◌-◌, min, ◌<◌, ◌≤◌, ◌^◌, List, [], ◌∷◌, ◌++◌, ⊤, length, map, take, drop}
use Rattle.std.specs.Prelude.{reverse, IfSome, None, Option, Some, slice_get}
use Rattle.std.specs.FinMap as finite
use Rattle.std.proofs.Props.{props}
use Rattle.text_model.specs.Content.{Slots}
use Rattle.text_model.specs.declared.places.Place.{Place}
use Rattle.text_model.specs.contracts.tag_set.TagSet as tag_set
use Rattle.segments.specs.Columns.{LineContent}
use Rattle.segments.specs.contracts.line.Line as line_row
use Rattle.line_lists.specs.declared.drafts.Before.{Before}
use Rattle.line_lists.specs.declared.drafts.Copied.{Copied}
use Rattle.line_lists.specs.declared.drafts.Known.{Known}
use Rattle.line_lists.specs.declared.drafts.Reached.{Reached}
use Rattle.line_lists.specs.declared.drafts.Seen.{Seen}
use Rattle.line_lists.specs.declared.drafts.Stop.{Stop}
use Rattle.line_lists.specs.Lists.{AreRows, count_of}
use Rattle.line_lists.specs.Texts.{whole}
use Rattle.line_lists.specs.Toggling.{tags_left_of}

-- how many lines of the list copies cover: those that they stand for, and those that are kept before them
abbrev pub covered : Copied → ℕ
covered copy = copy.kept + copy.gone

abbrev pub used : List Copied → ℕ
used [] = 0
used (copy ∷ copies) = covered copy + used copies

-- what copies make of the lines that they cover, and of all lines
abbrev pub made_lines : List Copied → List LineContent → List LineContent
made_lines [] lines = []
made_lines (copy ∷ copies) lines = take copy.kept lines ++ copy.line ∷ made_lines copies (drop (covered copy) lines)

abbrev pub drafted : List Copied → List LineContent → List LineContent
drafted copies lines = made_lines copies lines ++ drop (used copies) lines

-- what copies cover
pub record IsReached (reached : Reached) (copies : List Copied) (lines : List LineContent) : Type 0 where
  pub used : reached.used ≡ used copies
  pub characters : reached.characters ≡ length (whole (made_lines copies lines)).columns

-- a copy may follow what is covered: its lines are there, and the characters can be counted
pub record CanFollow (reached : Reached) (copy : Copied) (lines : List LineContent) : Type 0 where
  pub there : reached.used + covered copy ≤ length lines
  pub counted :
      reached.characters + length (whole (take copy.kept (drop reached.used lines))).columns
      + length copy.line.columns < 2 ^ 64

-- where its line begins in the text
abbrev pub line_start : Reached → Copied → List LineContent → ℕ
line_start reached copy lines =
    reached.characters + length (whole (take copy.kept (drop reached.used lines))).columns

abbrev pub copies_of : List Stop → List Copied
copies_of stops = map (λ (stop : Stop). stop.copy) stops

-- how many characters stand before the place behind them
abbrev pub place_of : List LineContent → List Stop → ℕ
place_of lines front = length (whole (made_lines (copies_of front) lines)).columns

-- the slots that are on behind copies
abbrev pub tags_after : List LineContent → List Stop → Slots
tags_after lines stops = tags_left_of (whole (made_lines (copies_of stops) lines)).columns

-- those before a line of a list
pub record IsBefore (lines : List LineContent) (before : Before) : Type 0 where
  pub within : before.line ≤ length lines
  pub tags : before.tags ≡ (count_of (take before.line lines)).parity

-- those behind the first so many of the copies before a place, and those before a line
pub record IsKnown (lines : List LineContent) (front : List Stop) (known : Known) : Type 0 where
  pub few : known.count ≤ length front
  pub tags : known.tags ≡ tags_after lines (take known.count front)
  pub before : IsBefore lines known.before

pub IsKnown-prop : {lines : List LineContent} {front : List Stop} {known : Known} → IsProp (IsKnown lines front known)
IsKnown-prop = Prim.hlevel (tag_set.the_row.coded, props)

-- a line of the list: the one of its number, which begins where it's said to
pub record IsSeen (lines : List LineContent) (seen : Seen) : Type 0 where
  pub start : seen.start ≡ length (whole (take seen.index lines)).columns
  pub line : slice_get lines seen.index ≡ Some seen.line.now

pub IsSeen-prop : (lines : List LineContent) (seen : Option Seen) → IsProp (IfSome seen (IsSeen lines))
IsSeen-prop lines None = Prim.hlevel props
IsSeen-prop lines (Some seen) = Prim.hlevel (line_row.the_row.coded, props)

-- copies before a place in their order, and those behind it from the last: all in order
abbrev pub in_order : List Stop → List Copied → List Copied
in_order front back = copies_of front ++ reverse back

-- the lines that they make
abbrev pub drafted_at : List LineContent → List Stop → List Copied → List LineContent
drafted_at lines front back = drafted (in_order front back) lines

-- a stop tells what the copies before it cover, and where the line of its copy begins
pub record IsStop (stop : Stop) (copies : List Copied) (lines : List LineContent) : Type 0 where
  pub reached : IsReached stop.reached copies lines
  pub start : stop.start ≡ line_start stop.reached stop.copy lines

abbrev pub AreStops : List LineContent → List Copied → List Stop → Type 0
AreStops lines before [] = ⊤
AreStops lines before (stop ∷ stops) =
    IsStop stop before lines × AreStops lines (before ++ stop.copy ∷ []) stops

-- the slots that are toggled an odd number of times in the line of a copy and in those kept before it
abbrev pub copy_tags : List LineContent → Stop → Slots
copy_tags lines stop =
    tags_left_of (whole (take stop.copy.kept (drop stop.reached.used lines) ++ stop.copy.line ∷ [])).columns

-- copies of lines that are there, whose text can be counted
pub record IsDraft (lines : List LineContent) (front : List Stop) (back : List Copied) : Type 0 where
  pub stops : AreStops lines [] front
  pub there : used (in_order front back) ≤ length lines
  pub counted : length (whole (drafted_at lines front back)).columns < 2 ^ 64

-- the lines before that of a copy that follows others
abbrev pub lines_before : List Copied → Copied → List LineContent → List LineContent
lines_before copies copy lines = made_lines copies lines ++ take copy.kept (drop (used copies) lines)

-- the line of the last copy before the place, if there is one, begins at an offset or before it
abbrev pub BeginsBy : List LineContent → ℕ → List Stop → Type 0
BeginsBy lines offset front =
    (before : List Stop) (stop : Stop) → front ≡ before ++ stop ∷ [] →
    length (whole (lines_before (copies_of before) stop.copy lines)).columns ≤ offset

-- it begins behind an offset
abbrev pub LastBeginsBehind : List LineContent → ℕ → List Stop → Type 0
LastBeginsBehind lines offset front =
    (before : List Stop) (stop : Stop) → front ≡ before ++ stop ∷ [] →
    offset < length (whole (lines_before (copies_of before) stop.copy lines)).columns

-- the line of the first copy behind the place, if there is one, begins behind an offset
abbrev pub BeginsBehind : List LineContent → ℕ → List Stop → List Copied → Type 0
BeginsBehind lines offset front back =
    (behind : List Copied) (copy : Copied) → back ≡ behind ++ copy ∷ [] →
    offset < length (whole (lines_before (copies_of front) copy lines)).columns

-- a kept line that holds an offset of the text, behind what is covered
pub record IsFound (reached : Reached) (lines : List LineContent) (offset line column : ℕ) : Type 0 where
  pub first : reached.used ≤ line
  pub within : line < length lines
  pub place :
      offset + length (whole (take reached.used lines)).columns
      ≡ reached.characters + length (whole (take line lines)).columns + column
  pub inside : IfSome (slice_get lines line) (λ (here : LineContent). column < length here.columns)

-- the lines behind that of a copy that follows others
abbrev pub lines_behind : List Copied → Copied → List Copied → List LineContent → List LineContent
lines_behind copies copy back lines = drafted (reverse back) (drop (used copies + covered copy) lines)

-- a copy that is taken out of a draft, at its place
pub record IsTaken (lines : List LineContent) (front : List Stop) (back : List Copied) (stop : Stop) : Type 0 where
  pub stops : AreStops lines [] front
  pub placed : IsStop stop (copies_of front) lines
  pub there : used (copies_of front) + covered stop.copy + used (reverse back) ≤ length lines

-- the lines of the draft with it
abbrev pub taken_lines : List LineContent → List Stop → List Copied → Copied → List LineContent
taken_lines lines front back copy =
    lines_before (copies_of front) copy lines ++ copy.line ∷ lines_behind (copies_of front) copy back lines

-- the line of such a copy holds an offset, at a column
pub record StandsAt (lines : List LineContent) (front : List Stop) (copy : Copied) (offset column : ℕ) : Type 0 where
  pub place : offset ≡ length (whole (lines_before (copies_of front) copy lines)).columns + column
  pub inside : column < length copy.line.columns

-- a draft of a text: its lines are those of one
pub record IsText (lines : List LineContent) (front : List Stop) (back : List Copied) : Type 0 where
  pub draft : IsDraft lines front back
  pub rows : AreRows (drafted_at lines front back)

-- its lines in a row
abbrev pub text_at : List LineContent → List Stop → List Copied → LineContent
text_at lines front back = whole (drafted_at lines front back)

-- the mark of a number stands before the character at an offset, or behind that one if it's the last, or nowhere
abbrev pub StandsBy : ℕ → ℕ → LineContent → Type 0
StandsBy number offset text =
    IfSome (finite.get text.marks number)
    (λ (place : Place). offset ≡ min place.offset (length text.columns - 1))
