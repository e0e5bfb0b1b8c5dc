-- What is counted of the text below an inner node: its numbers stand beside its room, its toggles in it.
use Rattle.toggle_sums.specs.Counts.{Count, count_of}
use Rattle.raw_nodes.specs.declared.branch.Branch.{Branch}

abbrev pub branch_sum : Branch → Count
branch_sum branch = count_of branch.lines branch.characters branch.marks branch.room.value.toggles
