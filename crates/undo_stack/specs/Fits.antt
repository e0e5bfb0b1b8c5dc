-- When the groups of a history can be reverted and repeated in a text.
use Rattle.std.specs.Prelude.{ℕ, ◌+◌, ◌<◌, ◌≤◌, nat_lt, nat_le, ◌&&◌, List, [], ◌∷◌, length, slice_range, bytes_eq}
use Rattle.std.specs.Prelude.{Option, None, Some, option_and_then, IsSome, if◌then◌else◌}
use Rattle.std.specs.List.{AllByRecursion}
use Rattle.text_model.specs.Splices.{inserted, removed}
use Rattle.undo_stack.specs.declared.actions.Action.{Action}
use Rattle.undo_stack.specs.History.{History}

-- A text goes in before the last newline, where the whole stays within the limit.
abbrev pub put_in : ℕ → ℕ → List ℕ → List ℕ → Option (List ℕ)
put_in limit at text all =
    if nat_lt at (length all) && nat_le (length all + length text) limit then Some (inserted at text all) else None

-- A text is taken out where it stands, before the last newline.
abbrev pub take_out : ℕ → List ℕ → List ℕ → Option (List ℕ)
take_out at text all =
    if nat_lt (at + length text) (length all) && bytes_eq (slice_range all at (at + length text)) text
    then Some (removed at (at + length text) all)
    else None

-- an action is made once more, or reverted; none where it can't be
abbrev pub repeated : ℕ → Action → List ℕ → Option (List ℕ)
repeated limit action all =
    if action.inserts then put_in limit action.at action.text all else take_out action.at action.text all

abbrev pub reverted : ℕ → Action → List ℕ → Option (List ℕ)
reverted limit action all =
    if action.inserts then take_out action.at action.text all else put_in limit action.at action.text all

-- the actions of a group, the first first
abbrev pub repeated_group : ℕ → List Action → List ℕ → Option (List ℕ)
repeated_group limit [] all = Some all
repeated_group limit (action ∷ actions) all = option_and_then (repeated_group limit actions) (repeated limit action all)

-- the actions of a group, the last first
abbrev pub reverted_group : ℕ → List Action → List ℕ → Option (List ℕ)
reverted_group limit [] all = Some all
reverted_group limit (action ∷ actions) all = option_and_then (reverted limit action) (reverted_group limit actions all)

-- the groups, the first first
abbrev pub repeated_groups : ℕ → List (List Action) → List ℕ → Option (List ℕ)
repeated_groups limit [] all = Some all
repeated_groups limit (group ∷ groups) all =
    option_and_then (repeated_groups limit groups) (repeated_group limit group all)

-- the groups, the last first
abbrev pub reverted_groups : ℕ → List (List Action) → List ℕ → Option (List ℕ)
reverted_groups limit [] all = Some all
reverted_groups limit (group ∷ groups) all =
    option_and_then (reverted_group limit group) (reverted_groups limit groups all)

-- The text is within the limit and no group is empty; the groups can be reverted in the text, the last first, and the
-- undone ones repeated, the last undone first.
pub record FitsText (limit : ℕ) (text : List ℕ) (history : History) : Type 0 where
  pub short : length text ≤ limit
  pub filled : AllByRecursion (λ group. 0 < length group) history.groups
  pub undone_filled : AllByRecursion (λ group. 0 < length group) history.undone
  pub reverts : IsSome (reverted_groups limit history.groups text)
  pub repeats : IsSome (repeated_groups limit history.undone text)
