-- Whether a text is modified: a count of the actions made less those reverted, and a flag that fixes the answer.
use Rattle.std.specs.Prelude.{ℕ, zero, suc, Bool, true, false, ◌||◌, not, ℤ, pos, negsuc, ◌+ℤ◌, ◌-ℤ◌, int_lt}
use Rattle.std.specs.Prelude.{if◌then◌else◌}
use Rattle.std.specs.Ordering.{int_eq}

pub record Modified : Type 0 where
  pub count : ℤ
  pub fixed : Bool

abbrev pub unmodified : Modified
unmodified = record { count = pos 0; fixed = false }

abbrev pub is_modified : Modified → Bool
is_modified modified = modified.fixed || not (int_eq modified.count (pos 0))

-- an action is made once more; a count that can't grow fixes the flag
abbrev pub counted_up : Modified → Modified
counted_up modified =
    if int_lt modified.count (pos 9223372036854775807) then record modified { count = modified.count +ℤ pos 1 }
    else record modified { fixed = true }

-- an action is reverted
abbrev pub counted_down : Modified → Modified
counted_down modified =
    if int_lt (negsuc 9223372036854775807) modified.count then record modified { count = modified.count -ℤ pos 1 }
    else record modified { fixed = true }

-- a new action: below 0 the unmodified text can't come back, so the flag is fixed
abbrev pub counted_new : Modified → Modified
counted_new modified = if int_lt modified.count (pos 0) then record modified { fixed = true } else counted_up modified

abbrev pub times : ℕ → (Modified → Modified) → Modified → Modified
times zero count modified = modified
times (suc n) count modified = times n count (count modified)

-- the answer is set: true fixes it, and false begins to count again
abbrev pub set_to : Bool → Modified → Modified
set_to true modified = record modified { fixed = true }
set_to false modified = unmodified
