use Rattle.tag_table.proofs.Common.{ap, ◌∙◌, Some, sym, option_map, slice_get-map, slot_of_number}
use Rattle.tag_table.proofs.TagLaws.{slots_seen}
use Rattle.tag_table.proofs.tags.TagTable.slot.Goals as goal

pub returns-clause-value : goal.returns-clause-value
returns-clause-value c = rw (← c.self.view_is)
    (rw (slots_seen c.self.inside.names.entries) (slice_get-map slot_of_number _ c.args.place
    ∙ ap (option_map slot_of_number) c.number.ensures.value ∙ ap (λ s. Some s) (sym c.slot_of_number.ensures.value)))
