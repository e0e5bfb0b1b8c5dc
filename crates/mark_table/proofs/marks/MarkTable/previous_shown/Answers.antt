use Rattle.mark_table.proofs.Common.{ap, sym, ◌∙◌, previous_shown, usable, numbers_of}
use Rattle.mark_table.proofs.OrderLaws.{previous_from_place, previous_from_mark}
use Rattle.mark_table.proofs.marks.MarkTable.previous_shown.Goals as goal

pub returns-in-Place : goal.returns-in-Place
returns-in-Place g c =
    let marks = usable c.args.view (g.S.TextStore.content c.args.store.now).marks (numbers_of c.args.self.now.marks) in
    sym (ap (λ o. previous_shown o marks) c.in-Place.is
    ∙ previous_from_place marks c.in-Place.place c.last_before.result c.last_before.ensures)

pub returns-in_ok-from-in-Mark : goal.returns-in_ok-from-in-Mark
returns-in_ok-from-in-Mark g c =
    let marks = usable c.args.view (g.S.TextStore.content c.args.store.now).marks (numbers_of c.args.self.now.marks) in
    sym (ap (λ o. previous_shown o marks) c.in-Mark.is
    ∙ previous_from_mark marks c.in-Mark.mark c.in_ok-from-in-Mark.from c.last_before-in-Mark.result
    (sym c.shown.ensures.mark ∙ c.in_ok-from-in-Mark.was {u = tt}) c.last_before-in-Mark.ensures)
