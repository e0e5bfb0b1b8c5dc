use Rattle.documents.proofs.Common.{sym, subst, eqb-true, length, ◌∷◌, [], string_bytes, if◌then◌else◌, Goes}
use Rattle.documents.proofs.Common.{goes_nowhere}
use Rattle.documents.proofs.ListingLaws.{unfilled}
use Rattle.documents.proofs.listing.push_filled.Goals as goal

pub returns-then-is_empty : goal.returns-then-is_empty
returns-then-is_empty c =
    subst (λ b. Goes (string_bytes c.args.list.now) (string_bytes c.args.list.now) (if b then c.args.text ∷ [] else []))
    (sym (unfilled c.as_str.result.now c.args.text c.as_str.ensures.characters
    (eqb-true (length c.as_str.result.now) 0 (sym c.if-is_empty.ensures))))
    (goes_nowhere (string_bytes c.args.list.now))
