use Rattle.mark_table.proofs.Common.{ap, sym, ◌∙◌, chars, without, marks_kept, SharedMarks, is_named, subst, AreMarks}
use Rattle.mark_table.proofs.MarkLaws.{place_of_mark, marks-remove, marks-keep, AreKept-remove, AreMarks-kept}
use Rattle.mark_table.proofs.marks.MarkTable.unset.Goals as goal

pub invariant_of-self : goal.invariant_of-self
invariant_of-self c = AreKept-remove c.self.inside.names c.remove.new.self c.self.inside.gravities.items c.in-Some.place
    c.in-Some.ensures.within c.self.invariant c.remove.ensures.value

pub returns-in-Some-clause-value : goal.returns-in-Some-clause-value
returns-in-Some-clause-value c =
    c.give_back_room.ensures
    ∙ ap (λ names. marks_kept names c.self.inside.gravities.items) c.remove.ensures.value
    ∙ ap (λ marks. record { marks = marks; limit = c.self.inside.names.limit })
    (marks-remove c.self.inside.gravities.items c.self.inside.names.entries (chars c.args.name.now) c.in-Some.place
    (sym c.place.ensures.value ∙ c.in-Some.is))
    ∙ ap (λ (ms : SharedMarks). record ms { marks = without (is_named (chars c.args.name.now)) ms.marks })
    c.self.view_is

pub returns-in_default-clause-value : goal.returns-in_default-clause-value
returns-in_default-clause-value c =
    ap (λ marks. record c.args.self.now { marks = marks })
    (marks-keep c.args.self.now.marks (chars c.args.name.now)
    (place_of_mark (chars c.args.name.now) c.self.inside.names c.self.inside.gravities.items c.args.self.now _
    c.self.view_is c.place.ensures.value ∙ c.in_default.is))

pub returns-in-Some-clause-sound : goal.returns-in-Some-clause-sound
returns-in-Some-clause-sound c = (
  subst AreMarks c.self.view_is (AreMarks-kept c.self.inside.names c.self.inside.gravities.items c.place.ensures.sound
      c.self.invariant),
  subst AreMarks (sym c.give_back_room.ensures) (AreMarks-kept c.remove.new.self c.self.inside.gravities.items
      c.remove.ensures.sound (AreKept-remove c.self.inside.names c.remove.new.self c.self.inside.gravities.items
      c.in-Some.place c.in-Some.ensures.within c.self.invariant c.remove.ensures.value)),
)

pub returns-in_default-clause-sound : goal.returns-in_default-clause-sound
returns-in_default-clause-sound c =
    let sound = subst AreMarks c.self.view_is (AreMarks-kept c.self.inside.names c.self.inside.gravities.items
    c.place.ensures.sound c.self.invariant) in (sound, sound)
