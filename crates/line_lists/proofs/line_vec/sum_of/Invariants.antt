use Rattle.line_lists.proofs.Common.{◌≡◌, take, count_of}
use Rattle.line_lists.proofs.line_vec.sum_of.Given as goal

abbrev pub invariant-loop-line : goal.invariant-loop-line
invariant-loop-line l = l.sums ≡ count_of (take l.line-index l.lines)
