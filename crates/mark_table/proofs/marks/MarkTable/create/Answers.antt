use Rattle.mark_table.proofs.Common.{◌≡◌, ℕ, List, refl, ap, sym, ◌∙◌, ◌++◌, ◌∷◌, [], ◌+◌, subst, slice_set, chars}
use Rattle.mark_table.proofs.Common.{string_bytes, without, Names, Gravity, Right, AreKept, marks_kept}
use Rattle.mark_table.proofs.Common.{with_gravity_for, Mark, SharedMarks, is_named, number_of, numbers_of, first_number}
use Rattle.mark_table.proofs.Common.{IsLeastFree, IsNone}
use Rattle.mark_table.proofs.MarkLaws.{AreMarks-kept, no_place, place_of_mark, marks-back, marks-push, marks-placed}
use Rattle.mark_table.proofs.MarkLaws.{placed, least_within, AreKept-push, IsLeastFree-number}
use Rattle.name_list.specs.Names as list
use Rattle.mark_table.proofs.marks.MarkTable.create.Goals as goal

pub create-requires : goal.create-requires
create-requires c = no_place c.self.inside.gravities.items (chars (string_bytes c.args.name))
    c.self.inside.names.entries (ap (λ (ms : SharedMarks). number_of (chars (string_bytes c.args.name)) ms.marks)
    c.self.view_is ∙ c.requires)

pub put_right-requires-clause-before : goal.put_right-requires-clause-before
put_right-requires-clause-before c = rw c.reserve.ensures.items (least_within c.self.inside.names
    c.self.inside.gravities.items c.in-Some.number c.self.invariant (rw c.in-Some.is at c.in_ok-number.ensures.least))

pub invariant_of-self-2 : goal.invariant_of-self-2
invariant_of-self-2 c =
    let new = c.in_ok-number.ensures in
    rw (c.put_right.ensures, c.reserve.ensures.items) (AreKept-push c.self.inside.names c.create.new.self
    c.self.inside.gravities.items (chars (string_bytes c.args.name)) c.in-Some.number c.self.invariant
    (rw c.in-Some.is at new.least) (rw c.in-Some.is at new.last))

pub returns-clause-least : goal.returns-clause-least
returns-clause-least c =
    let least = rw c.in-Some.is at c.in_ok-number.ensures.least in
    subst (λ (ms : SharedMarks). IsLeastFree (numbers_of ms.marks) c.mark_number.result.0) c.self.view_is
    (rw c.mark_number.ensures (IsLeastFree-number c.self.inside.gravities.items c.self.inside.names.entries
    c.in-Some.number least))

made : (names new : Names) (gravities room right : List Gravity) (marks : SharedMarks) (name : List ℕ) (number : ℕ) →
    marks_kept names gravities ≡ marks → AreKept names gravities →
    list.IsLeastFree (list.numbers_of names.entries) number
    → new ≡ record names { entries = names.entries ++ record { name = name; number = number } ∷ [] } → room ≡ gravities
    → right ≡ slice_set (with_gravity_for number room) number Right
    → marks_kept new right ≡ record marks {
      marks = marks.marks ++ record { name = name; number = first_number + number; gravity = Right }
          ∷ [];
    }
made names new gravities room right marks name number seen kept least last same is =
    let more = with_gravity_for number gravities in
    let made : Mark = record { name = name; number = first_number + number; gravity = Right } in
    let within = placed gravities number (least_within names gravities number kept least) in
    ap (marks_kept new) (is ∙ ap (λ gs. slice_set (with_gravity_for number gs) number Right) same)
    ∙ ap (λ names. marks_kept names (slice_set more number Right)) last
    ∙ ap (λ marks. record { marks = marks; limit = names.limit })
    (marks-push more names.entries name number within.0 least
    ∙ ap (λ marks. marks ++ made ∷ []) (marks-placed gravities names.entries number))
    ∙ ap (λ (ms : SharedMarks). record ms { marks = ms.marks ++ made ∷ [] }) seen

pub returns-clause-last : goal.returns-clause-last
returns-clause-last c =
    let name = chars (string_bytes c.args.name) in
    let new = c.in_ok-number.ensures in
    made c.self.inside.names c.create.new.self c.self.inside.gravities.items c.reserve.new.self.items
    c.put_right.new.gravities.items c.args.self.now name c.in-Some.number c.self.view_is c.self.invariant
    (rw c.in-Some.is at new.least) (rw c.in-Some.is at new.last) c.reserve.ensures.items c.put_right.ensures
    ∙ ap (λ number. record c.args.self.now {
      marks = c.args.self.now.marks
          ++ record { name = name; number = number; gravity = Right } ∷ [];
    }) (sym c.mark_number.ensures)

pub returns-clause-back : goal.returns-clause-back
returns-clause-back c =
    let name = chars (string_bytes c.args.name) in
    let new = c.in_ok-number.ensures in
    let none = no_place c.self.inside.gravities.items name c.self.inside.names.entries
    (ap (λ (ms : SharedMarks). number_of name ms.marks) c.self.view_is ∙ c.requires) in
    ap (λ (ms : SharedMarks). without (is_named name) ms.marks)
    (made c.self.inside.names c.create.new.self c.self.inside.gravities.items c.reserve.new.self.items
    c.put_right.new.gravities.items c.args.self.now name c.in-Some.number c.self.view_is c.self.invariant
    (rw c.in-Some.is at new.least) (rw c.in-Some.is at new.last) c.reserve.ensures.items c.put_right.ensures)
    ∙ marks-back c.args.self.now.marks name (first_number + c.in-Some.number) Right
    (place_of_mark name c.self.inside.names c.self.inside.gravities.items c.args.self.now _ c.self.view_is refl
    ∙ none)

pub returns-in_default-clause-sound : goal.returns-in_default-clause-sound
returns-in_default-clause-sound c =
    let same = c.in_ok-number.ensures.refused (subst IsNone (sym c.in_default.is) refl) in
    AreMarks-kept c.create.new.self c.reserve.new.self.items c.in_ok-number.ensures.sound
    (rw (same, c.reserve.ensures.items) c.self.invariant)

pub returns-clause-sound : goal.returns-clause-sound
returns-clause-sound c = AreMarks-kept c.create.new.self c.put_right.new.gravities.items c.in_ok-number.ensures.sound
    (invariant_of-self-2 c)
