use Rattle.documents.proofs.Common.{◌≡◌, ◌-◌, ◌∙◌, List, ap, map, refl, subst, Document, ◌^◌, lit≤, rules, TextChange}
use Rattle.documents.proofs.Common.{IsSettled, all_carried_within, mark_taken}
use Rattle.documents.proofs.SettledMarksLaws.{settled-none, settled-told}
use Rattle.documents.proofs.documents.Document.settle_marks.Given.{Over}
use Rattle.documents.proofs.documents.Document.settle_marks.Goals.{After-retain_mut}
use Rattle.documents.proofs.documents.Document.settle_marks.Goals as goal

taken : (g : Over) (c : After-retain_mut g) → c.marks.inside.marks.items
    ≡ map (mark_taken (all_carried_within (2 ^ 64 - 1) c.args.changes.now)) c.args.marks.now
taken g c =
    c.marks.view_is ∙ c.carry_all.ensures
    ∙ ap (λ (changes : List TextChange). map (mark_taken (all_carried_within (2 ^ 64 - 1) changes)) c.args.marks.now)
    c.as_slice.ensures

pub returns-clause-told : goal.returns-clause-told
returns-clause-told g c = λ old listed carry stay.
    settled-told _ (λ s. s.0.now ≡ c.args.self.now) (2 ^ 64 - 1) (lit≤ tt) c.args.changes.now old c.args.self.now _ refl
    c.args.marks.now c.marks.inside.marks.items c.retain_mut.new.self.items
    (λ s mark elsewhere t after stays ran.
    let settled : IsSettled s.0.now mark elsewhere after = search rules in
    let same : t.0.now ≡ s.0.now = search rules in
    (subst (λ (d : Document). IsSettled d mark elsewhere after) stays settled, same ∙ stays))
    c.retain_mut.ensures.filtered (taken g c) listed carry stay

pub returns-clause-none : goal.returns-clause-none
returns-clause-none g c =
    settled-none _ (all_carried_within (2 ^ 64 - 1) c.args.changes.now) _ c.args.marks.now c.marks.inside.marks.items
    c.retain_mut.new.self.items c.retain_mut.ensures.filtered (taken g c)
