use Rattle.documents.proofs.Common.{length, ◌∙◌, chars, widget_at, parts_of, place_of, shown}
use Rattle.documents.proofs.MeaningLaws.{found-within, gives-place, place-found}
use Rattle.documents.proofs.PartsLaws.{stand}
use Rattle.documents.proofs.ViewLaws.{IsSeen, length-found, see-part, view-there}
use Rattle.documents.proofs.documents.Document.place_at.Given.{Over}
use Rattle.documents.proofs.documents.Document.place_at.Goals.{After-view_of-view}
use Rattle.documents.proofs.documents.Document.place_at.Goals as goal

pub view_of-view-requires : goal.view_of-view-requires
view_of-view-requires g c =
    view-there c.args.seat (stand c.self.invariant c.self.view_is) c.number-slot.ensures.value c.deref.ensures.value

-- the view of the widget
seen : (g : Over) (c : After-view_of-view g)
    → IsSeen (parts_of g.S.TextStore.content c.self.inside) c.args.self.now c.args.seat c.number-slot.result
    (g.S.TextStore.content c.view_of-view.result.store.now) c.view_of-view.result.start c.view_of-view.result.end
seen g c =
    see-part (stand c.self.invariant c.self.view_is) c.number-slot.ensures.value c.deref.ensures.value
    c.view_of-view.ensures

pub returns-clause-value : goal.returns-clause-value
returns-clause-value g c =
    let word = chars c.args.word.now in
    let defined = place-found word (seen g (goal.at.returns-clause-value g c).After-view_of-view) in
    let gives = gives-place c.args.position c.locate.result
    (place_of c.args.self.now (widget_at c.args.self.now c.args.seat) word) (λ other. c.locate.ensures.value other
    ∙ defined) in
    λ other. c.at_position.ensures.value ∙ gives (λ memory. other (c.at_position.ensures.value ∙ memory))

pub returns-clause-within : goal.returns-clause-within
returns-clause-within g c =
    let found = c.view_of-view.result in
    let long = length-found (seen g (goal.at.returns-clause-within g c).After-view_of-view) in
    let most = length (shown c.args.self.now (widget_at c.args.self.now c.args.seat)) in
    c.at_position.ensures.within most (found-within c.locate.result found.start found.end most long c.locate.ensures.within)
