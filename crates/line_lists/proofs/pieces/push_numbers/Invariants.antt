use Rattle.line_lists.proofs.Common.{◌≡◌, ◌-◌, ◌++◌, length, take, named, numbers_of}
use Rattle.std.specs.FinMap as finite
use Rattle.line_lists.proofs.pieces.push_numbers.Given as goal

abbrev pub invariant-loop-number : goal.invariant-loop-number
invariant-loop-number l = named l.numbers.items ≡ named l.initial.numbers.items ++ take l.index (numbers_of l.line)

abbrev pub decreases-loop-number : goal.decreases-loop-number
decreases-loop-number l = length (finite.entries l.line.marks) - l.index
