-- What is told of tags: changes of tags, which make the new characters of those that the changes of the text leave.
use Rattle.std.specs.Prelude.{◌≡◌, ◌<◌, ◌≤◌, ℕ, ◌+◌, ◌⊎◌, ◌&&◌, Bool, true, false, not, nat_le, nat_lt, List, [], ◌∷◌}
use Rattle.std.specs.Prelude.{◌++◌, length, map, ⊤, slice_range, if◌then◌else◌}
use Rattle.std.specs.FinSet as set
use Rattle.std.specs.List.{All, list_any}
use Rattle.std.specs.Ordering.{eq_by_cmp}
use Rattle.text_model.specs.Changes.{flag_at}
use Rattle.text_model.specs.Content.{Slots}
use Rattle.text_model.specs.Splices.{changed}
use Rattle.edit_ops.specs.Told.{after_changes_by}
use Rattle.edit_ops.specs.declared.changes.TextChange.{TextChange}
use Rattle.edit_ops.specs.declared.slot_runs.SlotRun.{SlotRun}
use Rattle.edit_ops.specs.declared.spans.Span.{Span}
use Rattle.reports.specs.Cells.{KeyedCell, with_key, with_tag}
use Rattle.reports.specs.Keys.{Key, key_cmp}
use Rattle.reports.specs.declared.tag_lists.TagChange.{TagChange}

-- characters that have no tags yet
abbrev pub untagged : List ℕ → List KeyedCell
untagged text = map (λ character. record { character = character; keys = set.empty }) text

-- what changes of the text leave: what they put in has no tags
abbrev pub after_changes : List TextChange → List KeyedCell → List KeyedCell
after_changes changes cells = after_changes_by untagged changes cells

-- A change of a tag: it is put on some characters, of which none has it, or taken off some, of which each has it.
pub record IsTagChange (cells : List KeyedCell) (change : TagChange) : Type 0 where
  pub some : change.from < change.to
  pub within : change.to ≤ length cells
  pub differs : All (λ (cell : KeyedCell). set.contains cell.keys change.key ≡ not change.on)
      (slice_range cells change.from change.to)

-- changes of tags, made one after the other, give other characters
abbrev pub TellsTags : List TagChange → List KeyedCell → List KeyedCell → Type 0
TellsTags [] old new = new ≡ old
TellsTags (change ∷ changes) old new =
    IsTagChange old change
    × TellsTags changes (changed (with_key change.key change.on) change.from change.to old) new

-- ---- each a whole run

-- which characters have a key
abbrev pub flags_of : Key → List KeyedCell → List Bool
flags_of key cells = map (λ (cell : KeyedCell). set.contains cell.keys key) cells

-- the character at an offset gets a key, or loses it
abbrev pub Turns : Key → Bool → List KeyedCell → List KeyedCell → ℕ → Type 0
Turns key on old new at = (flag_at (flags_of key old) at ≡ not on) × (flag_at (flags_of key new) at ≡ on)

-- A change of a tag is a whole run: each of its characters gets the key, or loses it, as the change says, and neither
-- the character before the run nor the one after it does, if there is one.
pub record IsTagRun (old new : List KeyedCell) (change : TagChange) : Type 0 where
  pub some : change.from < change.to
  pub turned : (at : ℕ) → change.from ≤ at → at < change.to → Turns change.key change.on old new at
  pub before : (at : ℕ) → at + 1 ≡ change.from → ¬ Turns change.key change.on old new at
  pub after : ¬ Turns change.key change.on old new change.to

-- two changes of one key leave a character between them
abbrev pub LeavesGap : TagChange → TagChange → Type 0
LeavesGap change other = change.key ≡ other.key → (change.to < other.from) ⊎ (other.to < change.from)

-- and so do each two of some changes
abbrev pub AreGapped : List TagChange → Type 0
AreGapped [] = ⊤
AreGapped (change ∷ changes) = All (LeavesGap change) changes × AreGapped changes

-- ---- how they are reported

-- Behind what is told already it is told that a key is put on the characters from one offset to another, or taken off
-- them; which of them have it is known.
abbrev pub TellsSpan : Key → Bool → List Bool → ℕ → ℕ → List TagChange → List TagChange → Type 0
TellsSpan key on flags from to told more =
    (start cells : List KeyedCell) → length cells ≡ length flags
    → slice_range (flags_of key cells) from to ≡ slice_range flags from to → TellsTags told start cells
    → TellsTags more start (changed (with_key key on) from to cells)

-- the same of spans
abbrev pub TellsSpans : Key → Bool → List Bool → List Span → List TagChange → List TagChange → Type 0
TellsSpans key on flags spans told more =
    (start cells : List KeyedCell) → flags_of key cells ≡ flags → TellsTags told start cells
    → TellsTags more start (with_tag key on spans cells)

-- a change of a key between two offsets
pub record LiesIn (key : Key) (from to : ℕ) (change : TagChange) : Type 0 where
  pub same : change.key ≡ key
  pub above : from ≤ change.from
  pub some : change.from < change.to
  pub below : change.to ≤ to

-- a report with more changes at its end, of a key and between two offsets, with a character between each two
pub record AddsRuns (key : Key) (from to : ℕ) (told more : List TagChange) : Type 0 where
  pub added : List TagChange
  pub is : more ≡ told ++ added
  pub lie : All (LiesIn key from to) added
  pub gapped : AreGapped added

-- ---- by runs of characters that get slots, or lose them

-- the change of a key between two offsets, if there is a character between them
abbrev pub some_change : Key → ℕ → ℕ → Bool → List TagChange
some_change key from to on = if nat_lt from to then record { key = key; from = from; to = to; on = on } ∷ [] else []

-- changes turn a key at an offset
abbrev pub is_turned : Key → ℕ → List TagChange → Bool
is_turned key at changes = list_any (λ (change : TagChange).
    eq_by_cmp key_cmp key change.key && (nat_le change.from at && nat_lt at change.to)) changes

-- an offset is in a run that has a slot
abbrev pub in_run : ℕ → List SlotRun → ℕ → Bool
in_run slot runs at = list_any (λ (run : SlotRun).
    nat_le run.from at && nat_lt at run.to && set.contains run.slots slot) runs

-- and so for a key, by the slot that a pair knows it by
abbrev pub in_key_run : Key → List (ℕ × Key) → List SlotRun → ℕ → Bool
in_key_run key pairs runs at =
    list_any (λ (pair : ℕ × Key). eq_by_cmp key_cmp key pair.1 && in_run pair.0 runs at) pairs

-- runs that aren't empty, from an offset on, each after the one before it
abbrev pub AreRising : ℕ → List SlotRun → Type 0
AreRising at [] = ⊤
AreRising at (run ∷ runs) = (at ≤ run.from) × (run.from < run.to) × AreRising run.to runs

-- a set holds the slots of each run
abbrev pub HoldsSlots : List SlotRun → Slots → Type 0
HoldsSlots runs slots =
    (slot : ℕ) → All (λ (run : SlotRun). set.contains run.slots slot ≡ true → set.contains slots slot ≡ true) runs

-- each key is another
abbrev pub AreDistinct : List Key → Type 0
AreDistinct [] = ⊤
AreDistinct (key ∷ keys) = (list_any (eq_by_cmp key_cmp key) keys ≡ false) × AreDistinct keys

-- A report with more changes at its end, which put keys on the runs of characters that have their slots, or take them
-- off these: they turn each key exactly at the offsets in such a run.
pub record TellsRuns (pairs : List (ℕ × Key)) (on : Bool) (runs : List SlotRun) (told more : List TagChange) : Type 0
  where
    pub added : List TagChange
    pub is : more ≡ told ++ added
    pub shaped : All (λ (change : TagChange). (change.from < change.to) × (change.on ≡ on)) added
    pub turns : (key : Key) (at : ℕ) → is_turned key at added ≡ in_key_run key pairs runs at
    pub gapped : AreDistinct (map (λ (pair : ℕ × Key). pair.1) pairs) → AreGapped added
