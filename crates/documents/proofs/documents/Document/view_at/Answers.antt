use Rattle.documents.proofs.Common.{parts_of}
use Rattle.documents.proofs.PartsLaws.{stand}
use Rattle.documents.proofs.ViewLaws.{IsSeen, end-found-is, length-found, see-part, shown-found, start-found-is}
use Rattle.documents.proofs.ViewLaws.{view-there}
use Rattle.documents.proofs.documents.Document.view_at.Given.{Over}
use Rattle.documents.proofs.documents.Document.view_at.Goals.{After-view_of}
use Rattle.documents.proofs.documents.Document.view_at.Goals as goal

pub view_of-requires : goal.view_of-requires
view_of-requires g c =
    view-there c.args.seat (stand c.self.invariant c.self.view_is) c.number.ensures.value c.deref.ensures.value

-- the view of the widget
seen : (g : Over) (c : After-view_of g)
    → IsSeen (parts_of g.S.TextStore.content c.self.inside) c.args.self.now c.args.seat c.number.result
    (g.S.TextStore.content c.view_of.result.store.now) c.view_of.result.start c.view_of.result.end
seen g c =
    see-part (stand c.self.invariant c.self.view_is) c.number.ensures.value c.deref.ensures.value
    c.view_of.ensures

pub returns-clause-text : goal.returns-clause-text
returns-clause-text g c = shown-found (seen g (goal.at.returns-clause-text g c).After-view_of)

pub returns-clause-start : goal.returns-clause-start
returns-clause-start g c = start-found-is (seen g (goal.at.returns-clause-start g c).After-view_of)

pub returns-clause-end : goal.returns-clause-end
returns-clause-end g c = end-found-is (seen g (goal.at.returns-clause-end g c).After-view_of)

pub returns-clause-count : goal.returns-clause-count
returns-clause-count g c = length-found (seen g (goal.at.returns-clause-count g c).After-view_of)
