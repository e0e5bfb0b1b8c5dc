-- Toggles of tags. A text has, before each of its cells, the set of the slots that are toggled there: a slot is on
-- from one of its toggles to the next one, and off from there to the one after.
use Rattle.std.specs.Prelude.{ℕ, List, [], ◌∷◌, count_by}
use Rattle.std.specs.FinSet as set
use Rattle.text_model.specs.Content.{Slots}
use Rattle.text_model.specs.SlotSets.{differing}

-- how many times a slot is toggled
abbrev pub toggle_count : ℕ → List Slots → ℕ
toggle_count slot toggles = count_by (λ (here : Slots). set.contains here slot) toggles

-- the slots that are toggled an odd number of times
abbrev pub parity : List Slots → Slots
parity [] = set.empty
parity (here ∷ toggles) = differing here (parity toggles)

-- the slots that are toggled at all
abbrev pub presence : List Slots → Slots
presence [] = set.empty
presence (here ∷ toggles) = set.union here (presence toggles)

-- the slots that are on each cell, where some are on at the start
abbrev pub tags_from : Slots → List Slots → List Slots
tags_from start [] = []
tags_from start (here ∷ toggles) = differing start here ∷ tags_from (differing start here) toggles
