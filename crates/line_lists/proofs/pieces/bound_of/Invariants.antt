use Rattle.line_lists.proofs.Common.{◌<◌, take, All, copies_of, copied_lines, numbers_in}
use Rattle.line_lists.proofs.pieces.bound_of.Given as goal

abbrev pub invariant-loop-stop : goal.invariant-loop-stop
invariant-loop-stop l =
    All (λ number. number < l.bound) (numbers_in (copied_lines (copies_of (take l.stop-index l.stops))))
