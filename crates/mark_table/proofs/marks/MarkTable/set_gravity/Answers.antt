use Rattle.mark_table.proofs.Common.{ap, sym, slice_set, length-set, ◌∙◌, ◌<◌, length, arith, chars, is_some}
use Rattle.mark_table.proofs.Common.{SharedMarks, turned}
use Rattle.mark_table.proofs.MarkLaws.{AreMarks-kept, place_of_mark, no_gravity, gravity_known, marks-turned}
use Rattle.mark_table.proofs.marks.MarkTable.set_gravity.Goals as goal

pub returns-in_default-clause-known : goal.returns-in_default-clause-known
returns-in_default-clause-known c = no_gravity (chars c.args.name.now) c.args.self.now.marks
    (place_of_mark (chars c.args.name.now) c.self.inside.names c.self.inside.gravities.items c.args.self.now _
    c.self.view_is c.place.ensures.value ∙ c.in_default.is)

pub returns-clause-known : goal.returns-clause-known
returns-clause-known c = ap is_some (gravity_known (chars c.args.name.now) c.args.self.now.marks c.in-Some.place
    (place_of_mark (chars c.args.name.now) c.self.inside.names c.self.inside.gravities.items c.args.self.now _
    c.self.view_is c.place.ensures.value ∙ c.in-Some.is)).1

pub returns-clause-ok : goal.returns-clause-ok
returns-clause-ok c =
    let gravities = c.self.inside.gravities.items in
    let names = c.self.inside.names in
    let within : c.number-number.result < length gravities = omega (
      arith,
      c.self.invariant.each,
      c.number-number.ensures.below,
    ) in
    ap (λ marks. record { marks = marks; limit = names.limit })
    (marks-turned names gravities (chars c.args.name.now) c.in-Some.place c.number-number.result c.args.gravity
    c.place.ensures.sound (sym c.place.ensures.value ∙ c.in-Some.is) c.number-number.ensures.value within)
    ∙ ap (λ (ms : SharedMarks). record ms { marks = turned (chars c.args.name.now) c.args.gravity ms.marks })
    c.self.view_is

pub returns-clause-sound : goal.returns-clause-sound
returns-clause-sound c = AreMarks-kept c.self.inside.names
    (slice_set c.self.inside.gravities.items c.number-number.result c.args.gravity) c.place.ensures.sound
    (record {
      few = c.self.invariant.few;
      each = λ place number is. let below = c.self.invariant.each place number is in rw length-set below;
    })
