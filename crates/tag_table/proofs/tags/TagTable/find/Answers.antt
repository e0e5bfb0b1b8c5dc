use Rattle.tag_table.proofs.Common.{ap, sym, ◌∙◌, chars, option_map}
use Rattle.tag_table.proofs.TagLaws.{place_of_tag, slot_at, no_slot}
use Rattle.tag_table.proofs.tags.TagTable.find.Goals as goal

pub returns-in_err-place-clause-value : goal.returns-in_err-place-clause-value
returns-in_err-place-clause-value c =
    ap (option_map (λ slot. slot.0)) c.from_residual.ensures
    ∙ sym (no_slot (chars c.args.name.now) c.args.self.now.tags
    (place_of_tag (chars c.args.name.now) c.self.inside.names c.args.self.now _ c.self.view_is c.place.ensures.value
    ∙ c.in_err-place.was {u = tt}))

pub returns-clause-value : goal.returns-clause-value
returns-clause-value c =
    sym c.slot.ensures.value
    ∙ sym (slot_at (chars c.args.name.now) c.args.self.now.tags c.in_ok-place.field-0
    (place_of_tag (chars c.args.name.now) c.self.inside.names c.args.self.now _ c.self.view_is c.place.ensures.value
    ∙ c.in_ok-place.was {u = tt}))
