use Rattle.line_lists.proofs.Common.{◌≤◌, ◌<◌, take, All, numbers_of}
use Rattle.line_lists.proofs.pieces.bound_with.Given as goal

abbrev pub invariant-loop-index : goal.invariant-loop-index
invariant-loop-index l =
    (l.initial.bound ≤ l.bound) × All (λ number. number < l.bound) (take l.index (numbers_of l.line))
