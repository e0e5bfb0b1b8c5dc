use Rattle.mark_table.proofs.Common.{ap, ◌∙◌, ◌+◌, Some, sym, option_map, slice_get-map, first_number}
use Rattle.mark_table.proofs.MarkLaws.{numbers_seen}
use Rattle.mark_table.proofs.marks.MarkTable.number.Goals as goal

pub returns : goal.returns
returns c = rw (← c.self.view_is) (rw (numbers_seen c.self.inside.gravities.items c.self.inside.names.entries)
    (slice_get-map (λ n. first_number + n) _ c.args.place
    ∙ ap (option_map (λ n. first_number + n)) c.number.ensures.value ∙ ap (λ s. Some s) (sym c.mark_number.ensures)))
