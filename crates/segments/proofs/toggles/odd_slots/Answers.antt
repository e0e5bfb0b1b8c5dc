use Rattle.segments.proofs.Common.{◌∙◌, ap, empty-differing, differing, odd_of}
use Rattle.segments.proofs.toggles.odd_slots.Goals as goal

pub returns : goal.returns
returns c =
    let odd = odd_of c.args.toggles.now in
    c.turn_odd.ensures ∙ ap (λ s. differing s odd) c.empty-slots.ensures ∙ empty-differing odd
