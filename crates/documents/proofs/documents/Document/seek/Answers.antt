use Rattle.documents.proofs.Common.{length, ◌∙◌, chars, widget_at, parts_of, place_of, shown}
use Rattle.documents.proofs.MeaningLaws.{found-within, gives-place, place-found}
use Rattle.documents.proofs.PartsLaws.{stand}
use Rattle.documents.proofs.ViewLaws.{IsSeen, length-found, see-ends, view-found, view-there}
use Rattle.documents.proofs.documents.Document.seek.Given.{Over}
use Rattle.documents.proofs.documents.Document.seek.Goals.{After-end_of-end}
use Rattle.documents.proofs.documents.Document.seek.Goals as goal

pub start_of-start-requires : goal.start_of-start-requires
start_of-start-requires g c =
    (view-there c.args.seat (stand c.self.invariant c.self.view_is) c.number-slot.ensures.value c.deref.ensures.value).slot

pub end_of-end-requires : goal.end_of-end-requires
end_of-end-requires g c =
    (view-there c.args.seat (stand c.self.invariant c.self.view_is) c.number-slot.ensures.value
    c.deref-2.ensures.value).slot

-- the view of the widget
seen : (g : Over) (c : After-end_of-end g)
    → IsSeen (parts_of g.S.TextStore.content c.self.inside) c.args.self.now c.args.seat c.number-slot.result
    (g.S.TextStore.content c.self.inside.text.store) c.start_of-start.result c.end_of-end.result
seen g c =
    see-ends (stand c.self.invariant c.self.view_is) c.number-slot.ensures.value c.deref.ensures.value
    c.start_of-start.ensures c.deref-2.ensures.value c.len.ensures c.end_of-end.ensures

pub seek-found-requires-clause-view : goal.seek-found-requires-clause-view
seek-found-requires-clause-view g c =
    view-found (seen g (goal.at.seek-found-requires-clause-view g c).After-end_of-end)

pub returns-clause-value : goal.returns-clause-value
returns-clause-value g c =
    let word = chars c.args.word.now in
    let defined = place-found word (seen g (goal.at.returns-clause-value g c).After-end_of-end) in
    let gives = gives-place c.args.position c.seek-found.result
    (place_of c.args.self.now (widget_at c.args.self.now c.args.seat) word) (λ other. c.seek-found.ensures.value other
    ∙ defined) in
    λ other. c.at_position.ensures.value ∙ gives (λ memory. other (c.at_position.ensures.value ∙ memory))

pub returns-clause-within : goal.returns-clause-within
returns-clause-within g c =
    let start = c.start_of-start.result in
    let end = c.end_of-end.result in
    let long = length-found (seen g (goal.at.returns-clause-within g c).After-end_of-end) in
    let most = length (shown c.args.self.now (widget_at c.args.self.now c.args.seat)) in
    c.at_position.ensures.within most (found-within c.seek-found.result start end most long c.seek-found.ensures.within)
