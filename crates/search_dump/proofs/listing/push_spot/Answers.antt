use Rattle.search_dump.proofs.Common.{◌++◌, ◌∷◌, [], ◌+◌, ◌-◌, ap, subst, ◌∙◌, arith, string_bytes, Goes, decimal}
use Rattle.search_dump.proofs.Common.{goes-place}
use Rattle.text_index.proofs.PositionLaws.{numbers-place}
use Rattle.search_dump.proofs.listing.push_spot.Goals as goal

pub returns : goal.returns
returns c = λ text is.
    let spot = c.args.spot in
    let line = spot.line in
    let old = string_bytes c.args.list.now in
    let new = string_bytes c.push_index_on.new.text in
    let numbers = decimal (1 + line.number) ++ 46 ∷ decimal (spot.place - line.start) in
    subst (λ place. Goes old new (place ∷ [])) (numbers-place text spot.place line is.line)
    (goes-place old new (1 + line.number) (spot.place - line.start) (omega arith) (omega arith)
    (c.in_ok-push_index_on.ensures.digits ∙ ap (λ bytes. bytes ++ numbers) c.in_ok-push_space.ensures.ok))
