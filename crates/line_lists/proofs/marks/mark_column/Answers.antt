use Rattle.line_lists.proofs.Common.{◌-◌, min, sym, ap, ◌∙◌}
use Rattle.line_lists.proofs.StandLaws.{stands-one}
use Rattle.line_lists.proofs.marks.mark_column.Goals as goal

pub returns-clause-some : goal.returns-clause-some
returns-clause-some c =
    let place = c.in_ok-place.place in
    stands-one c.args.number.0 c.min.result c.args.line.now place (sym c.mark_place.ensures.value
    ∙ c.in_ok-place.was) (c.min.ensures ∙ ap (λ n. min place.offset (n - 1)) c.len.ensures)
