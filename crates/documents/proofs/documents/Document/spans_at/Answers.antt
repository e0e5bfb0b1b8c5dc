use Rattle.documents.proofs.Common.{◌≤◌, subst, arith, All}
use Rattle.documents.proofs.SpanLaws.{spans-found}
use Rattle.documents.proofs.documents.Document.spans_at.Goals as goal

-- both places lie in the view
pub span_between-requires-clause-from : goal.span_between-requires-clause-from
span_between-requires-clause-from g c =
    let view = c.view_at-view.ensures in
    let inside = c.requires.within 0 0 (omega (arith, c.in-len2.len_at_least)) in
    omega (arith, inside, view.count, view.ordered, view.within, view.short)

pub span_between-requires-clause-to : goal.span_between-requires-clause-to
span_between-requires-clause-to g c =
    let view = c.view_at-view.ensures in
    let inside = c.requires.within 1 0 (omega (arith, c.in-len2.len_at_least)) in
    omega (arith, inside, view.count, view.ordered, view.within, view.short)

pub spans_of-requires-clause-within : goal.spans_of-requires-clause-within
spans_of-requires-clause-within g c =
    subst (λ n. All (λ at. at ≤ n) c.args.places.now) c.view_at-view.ensures.count c.requires.within

pub returns : goal.returns
returns g c =
    let view = c.view_at-view.ensures in
    spans-found c.args.self.now c.args.seat c.args.places.now view.start view.count view.ordered view.within
    c.requires.within c.in_ok-spans.ensures
