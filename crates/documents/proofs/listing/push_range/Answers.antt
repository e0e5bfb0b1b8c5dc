use Rattle.documents.proofs.Common.{part_of, [], ◌∷◌, string_bytes, goes_on, position_text, on_ok_weaker}
use Rattle.text_index.specs.Views.{shown}
use Rattle.documents.proofs.listing.push_range.Goals as goal

pub returns : goal.returns
returns g c =
    let view = c.args.view.now in
    let text = shown (part_of view) in
    on_ok_weaker c.push_place-2.result
    (λ end.
    goes_on (string_bytes c.args.list.now) (string_bytes c.push_place.new.list) (string_bytes c.push_place-2.new.list)
    (position_text text c.args.range.start ∷ []) (position_text text c.args.range.end ∷ [])
    (c.in_ok-push_place.ensures text c.line_at-first.ensures.line) (end text c.line_on-last.ensures.line))
    c.push_place-2.ensures
