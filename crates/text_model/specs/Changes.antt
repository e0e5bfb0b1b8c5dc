-- Where a tag begins and ends, over a list of flags: whether each cell has it.
use Rattle.std.specs.Prelude.{ℕ, ◌+◌, ◌-◌, Bool, false, not, List, get_or, take, drop, if◌then◌else◌}
use Rattle.std.specs.List.{prefix_len, suffix_len}

-- whether two flags are the same
abbrev pub is_alike : Bool → Bool → Bool
is_alike flag other = if flag then other else not other

abbrev pub flag_at : List Bool → ℕ → Bool
flag_at flags at = get_or flags at false

-- the least offset above a place at which the flag differs from that at the place, else the length: where the run of
-- flags that are like it ends
abbrev pub next_change : List Bool → ℕ → ℕ
next_change flags at = at + prefix_len (is_alike (flag_at flags at)) (drop at flags)

-- where the run of flags that are all like the one before a place begins
abbrev pub previous_change : List Bool → ℕ → ℕ
previous_change flags at = at - suffix_len (is_alike (flag_at flags (at - 1))) (take at flags)
