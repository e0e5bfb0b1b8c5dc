use Rattle.documents.proofs.Common.{◌++◌, ◌∷◌, [], ◌+◌, ◌-◌, ap, subst, ◌∙◌, arith, string_bytes, Goes, decimal}
use Rattle.tcl_words.proofs.PlainElements.{goes-place}
use Rattle.text_index.proofs.PositionLaws.{numbers-place}
use Rattle.documents.proofs.listing.push_place.Goals as goal

pub returns : goal.returns
returns c = λ text is.
    let line = c.args.line in
    let old = string_bytes c.args.list.now in
    let new = string_bytes c.push_index_on.new.text in
    let numbers = decimal (1 + line.number) ++ 46 ∷ decimal (c.args.place - line.start) in
    subst (λ place. Goes old new (place ∷ [])) (numbers-place text c.args.place line is)
    (goes-place old new (1 + line.number) (c.args.place - line.start) (omega arith) (omega arith)
    (c.in_ok-push_index_on.ensures.digits ∙ ap (λ bytes. bytes ++ numbers) c.in_ok-push_space.ensures.ok))
