use Rattle.documents.proofs.Common.{sym, arith, chars, parts_of}
use Rattle.documents.proofs.PartsLaws.{stand}
use Rattle.documents.proofs.TaggedLaws.{flags-known, flags-unknown}
use Rattle.documents.proofs.ViewLaws.{IsSeen, length-found, ordered-found, see-part, shown-found, view-there}
use Rattle.documents.proofs.documents.Document.tag_view.Given.{Over}
use Rattle.documents.proofs.documents.Document.tag_view.Goals.{After-view_of}
use Rattle.documents.proofs.documents.Document.tag_view.Goals as goal

pub view_of-requires : goal.view_of-requires
view_of-requires g c =
    view-there c.args.seat (stand c.self.invariant c.self.view_is) c.number-number.ensures.value c.deref.ensures.value

-- the view of the widget
seen : (g : Over) (c : After-view_of g)
    → IsSeen (parts_of g.S.TextStore.content c.self.inside) c.args.self.now c.args.seat c.number-number.result
    (g.S.TextStore.content c.view_of.result.store.now) c.view_of.result.start c.view_of.result.end
seen g c =
    see-part (stand c.self.invariant c.self.view_is) c.number-number.ensures.value c.deref.ensures.value
    c.view_of.ensures

pub returns-in_err-slot-clause-none : goal.returns-in_err-slot-clause-none
returns-in_err-slot-clause-none g c = λ _.
    sym (flags-unknown c.args.seat c.number-number.result (stand c.self.invariant c.self.view_is)
    (chars c.args.name.now) c.in_err-slot.ensures.value)

pub returns-clause-text : goal.returns-clause-text
returns-clause-text g c = shown-found (seen g (goal.at.returns-clause-text g c).After-view_of)

pub returns-clause-flags : goal.returns-clause-flags
returns-clause-flags g c =
    flags-known (seen g (goal.at.returns-clause-flags g c).After-view_of) (chars c.args.name.now) c.in_ok-slot.slot.0
    c.in_ok-slot.ensures.value

pub returns-clause-end : goal.returns-clause-end
returns-clause-end g c =
    let sight = seen g (goal.at.returns-clause-end g c).After-view_of in
    omega (arith, length-found sight, ordered-found sight)
