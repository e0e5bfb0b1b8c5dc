-- The ranges of a tag (text(n), "tag ranges"): the maximal runs of characters that have it, told by flags that say of
-- each character whether it has the tag.
use Rattle.std.specs.Prelude.{ℕ, zero, suc, ◌+◌, nat_le, nat_lt, Bool, true, false, not, ◌&&◌, List, [], ◌∷◌, filter}
use Rattle.std.specs.Prelude.{find, Option, None, Some}
use Rattle.std.specs.List.{prefix_len, last_or}
use Rattle.text_model.specs.Changes.{flag_at}
use Rattle.text_index.specs.declared.ranges.TagRange.{TagRange}

abbrev pub is_set : Bool → Bool
is_set flag = flag

-- the ranges of the flags from a place on, behind another flag: one begins at each flag that is set behind one that
-- isn't, and ends behind the last of that run
abbrev pub ranges_behind : Bool → ℕ → List Bool → List TagRange
ranges_behind before at [] = []
ranges_behind before at (false ∷ flags) = ranges_behind false (suc at) flags
ranges_behind true at (true ∷ flags) = ranges_behind true (suc at) flags
ranges_behind false at (true ∷ flags) =
    record { start = at; end = suc at + prefix_len is_set flags } ∷ ranges_behind true (suc at) flags

-- the ranges, from first to last
abbrev pub tag_ranges : List Bool → List TagRange
tag_ranges flags = ranges_behind false 0 flags

-- whether one begins at a place
abbrev pub begins : List Bool → ℕ → Bool
begins flags zero = flag_at flags 0
begins flags (suc before) = flag_at flags (suc before) && not (flag_at flags before)

-- whether a range begins at a place or behind it, and whether it begins before the place
abbrev pub begins_from : ℕ → TagRange → Bool
begins_from place range = nat_le place range.start

abbrev pub begins_before : ℕ → TagRange → Bool
begins_before place range = nat_lt range.start place

-- the ranges that begin at a place or behind it, and the first of them
abbrev pub ranges_from : List Bool → ℕ → List TagRange
ranges_from flags place = filter (begins_from place) (tag_ranges flags)

abbrev pub next_range : List Bool → ℕ → Option TagRange
next_range flags place = find (begins_from place) (tag_ranges flags)

-- the last range that begins before a place
abbrev pub previous_range : List Bool → ℕ → Option TagRange
previous_range flags place = last_or None (filter (begins_before place) (tag_ranges flags))

-- a range, if there is one, and those that begin at its end or behind it
abbrev pub and_later : List Bool → Option TagRange → List TagRange
and_later flags None = []
and_later flags (Some range) = range ∷ ranges_from flags range.end
