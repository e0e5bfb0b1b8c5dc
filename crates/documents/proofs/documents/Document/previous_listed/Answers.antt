use Rattle.documents.proofs.Common.{◌∙◌, sym, arith, goes_nowhere, refl, string_bytes, begun, nat_le, previous_range}
use Rattle.documents.proofs.ListedLaws.{ranges-listed}
use Rattle.documents.proofs.documents.Document.previous_listed.Goals as goal

pub returns-in_default : goal.returns-in_default
returns-in_default g c =
    c.new.ensures
    ∙ ranges-listed c.new-list.result (λ flags. begun (λ start. nat_le c.args.to start) (previous_range flags c.args.from))
    c.new-list.ensures.bytes (goes_nowhere (string_bytes c.new-list.result)) refl (sym (c.in_default.ensures.none refl))

pub push_previous-requires-clause-within : goal.push_previous-requires-clause-within
push_previous-requires-clause-within g c = omega (arith, c.in-Some.ensures.end, c.requires.within)

pub returns : goal.returns
returns g c =
    c.new-2.ensures
    ∙ ranges-listed c.push_previous.new.list (λ flags. begun (λ start. nat_le c.args.to start) (previous_range flags c.args.from))
    c.new-list.ensures.bytes c.in_ok-push_previous.ensures c.in-Some.ensures.text c.in-Some.ensures.flags
