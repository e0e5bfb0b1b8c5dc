use Rattle.mark_table.proofs.Common.{refl, ap, sym, ◌∙◌, ◌<◌, ◌≡◌, Some, length, slice_get, arith, chars}
use Rattle.mark_table.proofs.Common.{slice_get_read, SharedMarks, gravity_of}
use Rattle.mark_table.proofs.MarkLaws.{place_of_mark, no_gravity, gravity_there}
use Rattle.mark_table.proofs.marks.MarkTable.gravity.Goals as goal

pub returns-in_default : goal.returns-in_default
returns-in_default c = no_gravity (chars c.args.name.now) c.args.self.now.marks
    (place_of_mark (chars c.args.name.now) c.self.inside.names c.self.inside.gravities.items c.args.self.now _
    c.self.view_is c.place.ensures.value ∙ c.in_default.is)

pub returns : goal.returns
returns c =
    let gravities = c.self.inside.gravities.items in
    let within : c.number.result < length gravities = omega (arith, c.self.invariant.each) in
    let read : slice_get gravities c.number.result
    ≡ Some c.index.result.now = slice_get_read gravities (length gravities) c.number.result c.index.result.now refl
    within c.index.ensures in
    ap (λ (ms : SharedMarks). gravity_of (chars c.args.name.now) ms.marks) (sym c.self.view_is)
    ∙ gravity_there gravities (chars c.args.name.now) c.self.inside.names.entries c.in-Some.place c.number.result
    c.index.result.now (sym c.place.ensures.value ∙ c.in-Some.is) c.number.ensures.value read
