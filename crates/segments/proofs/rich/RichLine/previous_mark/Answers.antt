use Rattle.segments.proofs.Common.{◌<◌, ◌≤◌, length, sym, ap, subst, ◌∙◌, IfSome, previous_mark, previous_mark-below}
use Rattle.segments.proofs.Common.{marks_of}
use Rattle.segments.proofs.MarkOrderLaws.{previous_mark-stands}
use Rattle.segments.proofs.RichLaws.{marks_within}
use Rattle.segments.proofs.rich.RichLine.previous_mark.Goals as goal

pub returns-clause-below : goal.returns-clause-below
returns-clause-below c =
    subst (λ previous. IfSome previous (λ offset. offset < c.args.column)) (sym c.previous_mark.ensures)
    (previous_mark-below c.args.column (marks_of c.deref.result.now))

pub returns-clause-bound : goal.returns-clause-bound
returns-clause-bound c =
    let kept = c.self.invariant.1 in
    let marks = c.self.inside.marks.items in
    let len = length c.args.self.now.columns in
    let found = c.previous_mark.ensures
    ∙ ap (λ marks. previous_mark c.args.column (marks_of marks)) c.deref.ensures.value in
    subst (λ previous. IfSome previous (λ offset. offset ≤ len)) (sym found)
    (previous_mark-stands marks c.args.column len kept.rise (marks_within c.self.inside c.self.view_is kept))
