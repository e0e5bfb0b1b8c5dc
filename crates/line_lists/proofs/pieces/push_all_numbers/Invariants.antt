use Rattle.line_lists.proofs.Common.{◌≡◌, ◌++◌, take, named, numbers_in}
use Rattle.line_lists.proofs.pieces.push_all_numbers.Given as goal

abbrev pub invariant-loop-line : goal.invariant-loop-line
invariant-loop-line l =
    named l.numbers.items ≡ named l.initial.numbers.items ++ numbers_in (take l.line-index l.lines)
