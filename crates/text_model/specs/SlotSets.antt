-- Sets of tag slots.
use Rattle.std.specs.FinSet as set
use Rattle.std.specs.Ordering.{nat_cmp}

-- the slots that are in one of two sets and not in the other
abbrev pub differing : set.FinSet nat_cmp → set.FinSet nat_cmp → set.FinSet nat_cmp
differing first second = set.union (set.difference first second) (set.difference second first)
