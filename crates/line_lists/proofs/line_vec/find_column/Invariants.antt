use Rattle.line_lists.proofs.ListLaws.{Remains}
use Rattle.line_lists.proofs.line_vec.find_column.Given as goal

abbrev pub invariant-loop-index : goal.invariant-loop-index
invariant-loop-index l = Remains l.lines l.fn.offset l.index l.column
