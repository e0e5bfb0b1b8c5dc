use Rattle.tag_table.proofs.Common.{sym, ◌∙◌, length, ◌<◌, subst, chars, length-map, err_from_is_err_and, None, AreKept}
use Rattle.tag_table.proofs.Common.{IsUnknown, Tags, raised}
use Rattle.tag_table.proofs.TagLaws.{place_of_tag, placed, ordered-move, AreTags-kept, AreTags-seen, AreKept-move}
use Rattle.tag_table.proofs.tags.TagTable.raise.Goals as goal

pub returns-in_default-clause-fault : goal.returns-in_default-clause-fault
returns-in_default-clause-fault c =
    placed (chars c.args.name.now) c.args.self.now.tags None
    (place_of_tag _ c.self.inside.names c.args.self.now _ c.self.view_is c.place.ensures.value ∙ c.in_default.is)

pub returns-in_err-to-clause-fault : goal.returns-in_err-to-clause-fault
returns-in_err-to-clause-fault c =
    let p = err_from_is_err_and c.from_residual.result c.from_residual.ensures.1 in
    let name = chars c.args.name.now in
    let at = place_of_tag name c.self.inside.names c.args.self.now c.place.result c.self.view_is c.place.ensures.value
    ∙ c.in-Some.is in
    let fault = c.in_err-to.ensures.fault in
    rw (p.1, p.2) (subst (IsUnknown name _ c.args.self.now.tags) (sym fault.0)
    (placed name c.args.self.now.tags _ at, fault.1))

pub invariant_of-self : goal.invariant_of-self
invariant_of-self c =
    let room = c.in_ok-to.ensures.goes.within in
    subst AreKept (sym c.move_to.ensures.value) (AreKept-move c.self.inside.names c.in-Some.from c.in_ok-to.to
    c.in-Some.ensures.within (rw length-map at
    (subst (λ (ts : Tags). c.in_ok-to.to < length ts.tags) (sym c.self.view_is) room)) c.self.invariant)

pub returns-clause-sound : goal.returns-clause-sound
returns-clause-sound c = AreTags-kept c.move_to.new.self c.move_to.ensures.sound (invariant_of-self c)

pub returns-clause-ok : goal.returns-clause-ok
returns-clause-ok c =
    let at = place_of_tag (chars c.args.name.now) c.self.inside.names c.args.self.now c.place.result c.self.view_is
    c.place.ensures.value ∙ c.in-Some.is in
    ordered-move raised (chars c.args.name.now) _ c.self.inside.names c.move_to.new.self c.args.self.now c.in-Some.from
    c.in_ok-to.to c.self.view_is (AreTags-seen c.self.view_is c.place.ensures.sound c.self.invariant)
    (returns-clause-sound c) c.move_to.ensures.value at c.in_ok-to.ensures.goes
