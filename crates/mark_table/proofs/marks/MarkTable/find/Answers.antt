use Rattle.mark_table.proofs.Common.{ap, sym, ◌∙◌, chars, option_map}
use Rattle.mark_table.proofs.MarkLaws.{place_of_mark, number_there, no_number}
use Rattle.mark_table.proofs.marks.MarkTable.find.Goals as goal

pub returns-in_err-place : goal.returns-in_err-place
returns-in_err-place c =
    ap (option_map (λ number. number.0)) c.from_residual.ensures
    ∙ sym (no_number (chars c.args.name.now) c.args.self.now.marks
    (place_of_mark (chars c.args.name.now) c.self.inside.names c.self.inside.gravities.items c.args.self.now _
    c.self.view_is c.place.ensures.value ∙ c.in_err-place.was {u = tt}))

pub returns : goal.returns
returns c =
    sym c.number.ensures
    ∙ sym (number_there (chars c.args.name.now) c.args.self.now.marks c.in_ok-place.field-0
    (place_of_mark (chars c.args.name.now) c.self.inside.names c.self.inside.gravities.items c.args.self.now _
    c.self.view_is c.place.ensures.value ∙ c.in_ok-place.was {u = tt}))
