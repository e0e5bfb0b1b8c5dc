use Rattle.segments.proofs.Common.{length, sym, ap, ◌∙◌, stands_if_some, marks_of}
use Rattle.segments.proofs.MarkOrderLaws.{mark_stands}
use Rattle.segments.proofs.RichLaws.{marks_within}
use Rattle.std.specs.FinMap as finite
use Rattle.segments.proofs.rich.RichLine.mark_place.Goals as goal

pub returns-clause-bound : goal.returns-clause-bound
returns-clause-bound c =
    let kept = c.self.invariant.1 in
    let marks = c.self.inside.marks.items in
    let stand = marks_within c.self.inside c.self.view_is kept in
    let number = c.args.number.0 in
    let found = c.find_mark.ensures ∙ ap (λ marks. finite.get (marks_of marks) number) c.deref.ensures.value in
    stands_if_some c.find_mark.result _ (λ place is.
    mark_stands marks (length c.args.self.now.columns) number place kept.rise stand (sym found ∙ is))
