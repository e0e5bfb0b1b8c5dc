use Rattle.documents.proofs.Common.{sym, ap, ◌∙◌, arith, rank_of, widget_at, mark_place, is_some}
use Rattle.documents.proofs.MarkQueryLaws.{mark-before, mark-behind, mark-unknown}
use Rattle.documents.proofs.PartsLaws.{stand}
use Rattle.documents.proofs.documents.Document.shows_mark.Goals as goal

pub returns-in-None : goal.returns-in-None
returns-in-None g c =
    absurd (mark-unknown (stand c.self.invariant c.self.view_is) c.args.seat c.in-Shared.place c.number.result.0
    c.number.ensures (sym c.mark_place.ensures.value ∙ c.in-None.is))

pub returns-then-view-found : goal.returns-then-view-found
returns-then-view-found g c =
    let document = c.args.self.now in
    let seen = c.view_at-view in
    mark-behind (stand c.self.invariant c.self.view_is) c.args.seat c.in-Shared.place c.number.result.0 seen.result.start
    seen.result.end c.in-Some.found seen.ensures.start seen.ensures.end c.number.ensures
    (sym c.mark_place.ensures.value ∙ c.in-Some.is) c.if-view-found.true
    ∙ ap (λ mark. is_some (mark_place document (widget_at document c.args.seat) (rank_of mark))) (sym c.in-Shared.is)

pub returns-else-view-found : goal.returns-else-view-found
returns-else-view-found g c =
    let document = c.args.self.now in
    let seen = c.view_at-view in
    mark-before (stand c.self.invariant c.self.view_is) c.args.seat c.in-Shared.place c.number.result.0 seen.result.start
    c.in-Some.found seen.ensures.start c.number.ensures (sym c.mark_place.ensures.value ∙ c.in-Some.is)
    (omega (arith, c.if-view-found.false))
    ∙ ap (λ mark. is_some (mark_place document (widget_at document c.args.seat) (rank_of mark))) (sym c.in-Shared.is)
