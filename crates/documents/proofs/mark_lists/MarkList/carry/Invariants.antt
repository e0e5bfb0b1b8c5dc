use Rattle.documents.proofs.Common.{◌≡◌, ◌++◌, ◌-◌, map, take, drop, ◌^◌, carried_within, mark_taken}
use Rattle.documents.proofs.mark_lists.MarkList.carry.Given as goal

abbrev pub invariant-loop-mark : goal.invariant-loop-mark
invariant-loop-mark l =
    l.mark-items ≡ map (mark_taken (carried_within (2 ^ 64 - 1) l.change)) (take l.mark-index l.fn.self)
    ++ drop l.mark-index l.fn.self
