use Rattle.search_dump.proofs.Common.{part_of, shown, on_ok_weaker}
use Rattle.search_dump.proofs.listing.push_place.Goals as goal

pub returns : goal.returns
returns g c =
    let line = c.line_at-line.ensures in
    on_ok_weaker c.push_spot.result
    (λ goes. goes (shown (part_of c.args.view.now)) (record { line = line.line; before = line.before }))
    c.push_spot.ensures
