use Rattle.mark_table.proofs.Common.{SharedMarks, numbers_of, Contains, subst, Some, ◌≡◌, slice_get, MatchOption}
use Rattle.mark_table.proofs.MarkLaws.{mark_only, mark_with, no_mark_with, taken_off, not_taken_off}
use Rattle.mark_table.proofs.marks.MarkTable.place.Goals as goal

pub returns-in_err-number-clause-value : goal.returns-in_err-number-clause-value
returns-in_err-number-clause-value c =
    let below = not_taken_off c.args.number.0 c.checked_sub.result c.checked_sub.ensures (c.in_err-number.was {u = tt})
    in
    rw c.from_residual.ensures (subst (λ (ms : SharedMarks). ¬ Contains (numbers_of ms.marks) c.args.number.0)
    c.self.view_is (no_mark_with c.self.inside.gravities.items c.self.inside.names.entries c.args.number.0 below))

pub returns-clause-value : goal.returns-clause-value
returns-clause-value c =
    let same = taken_off c.args.number.0 c.checked_sub.result c.checked_sub.ensures c.in_ok-number.number
    (c.in_ok-number.was {u = tt}) in
    subst (λ (ms : SharedMarks). MatchOption c.place_with.result (¬ Contains (numbers_of ms.marks) c.args.number.0)
    (λ place. slice_get (numbers_of ms.marks) place ≡ Some c.args.number.0)) c.self.view_is
    (mark_with c.self.inside.gravities.items c.self.inside.names.entries c.args.number.0 c.in_ok-number.number
    c.place_with.result same c.place_with.ensures.value)

pub returns-clause-only : goal.returns-clause-only
returns-clause-only c =
    let same = taken_off c.args.number.0 c.checked_sub.result c.checked_sub.ensures c.in_ok-number.number
    (c.in_ok-number.was {u = tt}) in
    rw (← c.self.view_is) (mark_only c.self.inside.gravities.items c.self.inside.names.entries c.args.number.0
    c.in_ok-number.number c.place_with.result same c.place_with.ensures.only)
