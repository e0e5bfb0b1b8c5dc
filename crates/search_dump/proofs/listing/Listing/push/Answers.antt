use Rattle.search_dump.proofs.Common.{[], ◌∷◌, on_ok_weaker, goes_on, position_text, chars, string_bytes}
use Rattle.search_dump.proofs.listing.Listing.push.Goals as goal

pub returns : goal.returns
returns c =
    let value = chars c.args.value.now in
    let first = string_bytes c.args.self.now.list in
    let second = string_bytes c.push_plain.new.list in
    let third = string_bytes c.push_element.new.list in
    let last = string_bytes c.push_spot.new.list in
    on_ok_weaker c.push_spot.result
    (λ end text spot.
    let place = position_text text c.args.spot.place in
    goes_on first second last (chars c.args.key.now ∷ []) (value ∷ place ∷ []) c.in_ok-push_plain.ensures
    (goes_on second third last (value ∷ []) (place ∷ []) c.in_ok-push_element.ensures.list (end text spot)))
    c.push_spot.ensures
