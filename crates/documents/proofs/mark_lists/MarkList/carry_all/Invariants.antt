use Rattle.documents.proofs.Common.{◌≡◌, ◌-◌, map, drop, ◌^◌, all_carried_within, mark_taken}
use Rattle.documents.proofs.mark_lists.MarkList.carry_all.Given as goal

abbrev pub invariant-loop-change : goal.invariant-loop-change
invariant-loop-change l =
    map (mark_taken (all_carried_within (2 ^ 64 - 1) (drop l.change-index l.changes))) l.self
    ≡ map (mark_taken (all_carried_within (2 ^ 64 - 1) l.changes)) l.fn.self
