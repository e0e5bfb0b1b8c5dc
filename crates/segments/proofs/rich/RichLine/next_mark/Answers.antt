use Rattle.segments.proofs.Common.{◌≤◌, length, sym, ap, subst, ◌∙◌, IfSome, next_mark, next_mark-above, marks_of}
use Rattle.segments.proofs.MarkOrderLaws.{next_mark-stands}
use Rattle.segments.proofs.RichLaws.{marks_within}
use Rattle.segments.proofs.rich.RichLine.next_mark.Goals as goal

pub returns-clause-above : goal.returns-clause-above
returns-clause-above c =
    subst (λ next. IfSome next (λ offset. c.args.column ≤ offset)) (sym c.next_mark.ensures)
    (next_mark-above c.args.column (marks_of c.deref.result.now))

pub returns-clause-bound : goal.returns-clause-bound
returns-clause-bound c =
    let kept = c.self.invariant.1 in
    let marks = c.self.inside.marks.items in
    let len = length c.args.self.now.columns in
    let found = c.next_mark.ensures ∙ ap (λ marks. next_mark c.args.column (marks_of marks)) c.deref.ensures.value in
    subst (λ next. IfSome next (λ offset. offset ≤ len)) (sym found)
    (next_mark-stands marks c.args.column len kept.rise (marks_within c.self.inside c.self.view_is kept))
