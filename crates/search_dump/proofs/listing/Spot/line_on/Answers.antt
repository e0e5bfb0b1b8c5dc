use Rattle.search_dump.proofs.listing.Spot.line_on.Goals as goal

pub returns : goal.returns
returns g c = record { line = c.line_on.ensures.line; before = c.line_on.ensures.before }
