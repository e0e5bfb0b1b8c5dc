-- What becomes of an old text where another one is made of parts of it, in its order, and of new texts between these.
use Rattle.std.specs.Prelude.{ℕ, ◌+◌, ◌-◌, List, [], ◌∷◌, ◌++◌, Option, None, Some, slice_range}
use Rattle.text_model.specs.Content.{Slots}
use Rattle.text_cursor.specs.declared.parts.Part.{Part}
use Rattle.text_cursor.specs.Cursors.{old_place}
use Rattle.edit_ops.specs.declared.hunks.Hunk.{Hunk}
use Rattle.edit_ops.specs.declared.slot_runs.SlotRun.{SlotRun}
use Rattle.edit_ops.specs.Told.{replacing}

-- up to a part of the old text a pending text replaces what is between a border and the part
abbrev pub hunks_before : Option Slots → ℕ → ℕ → List ℕ → List Hunk
hunks_before None from border text = replacing border from text
hunks_before (Some slots) from border text = []

-- the text that is pending after a part
abbrev pub pending_after : Option Slots → ℕ → ℕ → List ℕ → List ℕ → List ℕ
pending_after None from to fresh text = []
pending_after (Some slots) from to fresh text = text ++ slice_range fresh from to

-- from a border on, in an old text of `len` characters, where a text is pending
abbrev pub part_hunks : ℕ → List ℕ → ℕ → List ℕ → List Part → List Hunk
part_hunks border text len fresh [] = replacing border len text
part_hunks border text len fresh (part ∷ parts) =
    hunks_before part.slots part.from border text
    ++ part_hunks (old_place part.slots part.to border) (pending_after part.slots part.from part.to fresh text) len
    fresh parts

-- the run of a new text, in the text that the parts make
abbrev pub run_of : Option Slots → ℕ → ℕ → List SlotRun
run_of None from to = []
run_of (Some slots) from to = record { from = from; to = to; slots = slots } ∷ []

-- the runs of new texts, of parts that stand in that text from an offset on
abbrev pub part_runs : ℕ → List Part → List SlotRun
part_runs at [] = []
part_runs at (part ∷ parts) =
    let end = at + (part.to - part.from) in run_of part.slots at end ++ part_runs end parts
