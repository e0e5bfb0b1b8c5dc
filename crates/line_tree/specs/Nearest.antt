-- The nearest line in which a slot is toggled, or a mark stands.
use Rattle.std.specs.Prelude.{◌<◌, ⊤, Bool, nat_lt}
use Rattle.std.specs.FinSet as set
use Rattle.text_model.specs.TagBits.{slot_count}
use Rattle.toggle_sums.specs.Counts.{Count}
use Rattle.segments.specs.Columns.{LineContent}
use Rattle.line_lists.specs.Lists.{has_marks, has_toggle}
use Rattle.line_tree.specs.declared.nearest.Wanted.{Wanted}
use Rattle.line_tree.specs.declared.nearest.Wanted.TheVariants.{Toggle, Mark}

-- whether a line has what is wanted
abbrev pub passes : Wanted → LineContent → Bool
passes (Toggle slot) = has_toggle slot.0
passes Mark = has_marks

-- whether one of some lines has it, by what is counted of them
abbrev pub shows : Wanted → Count → Bool
shows (Toggle slot) count = set.contains count.presence slot.0
shows Mark count = nat_lt 0 count.marks

abbrev pub IsKnown : Wanted → Type 0
IsKnown (Toggle slot) = slot.0 < slot_count
IsKnown Mark = ⊤
