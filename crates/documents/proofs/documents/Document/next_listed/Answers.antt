use Rattle.documents.proofs.Common.{◌∙◌, sym, arith, goes_nowhere, refl, string_bytes, begun, nat_lt, next_range}
use Rattle.documents.proofs.ListedLaws.{ranges-listed}
use Rattle.documents.proofs.documents.Document.next_listed.Goals as goal

pub returns-in_default : goal.returns-in_default
returns-in_default g c =
    c.new.ensures
    ∙ ranges-listed c.new-list.result (λ flags. begun (λ start. nat_lt start c.args.to) (next_range flags c.args.from))
    c.new-list.ensures.bytes (goes_nowhere (string_bytes c.new-list.result)) refl (sym (c.in_default.ensures.none refl))

pub push_next-requires-clause-within : goal.push_next-requires-clause-within
push_next-requires-clause-within g c = omega (arith, c.in-Some.ensures.end, c.requires.within)

pub returns : goal.returns
returns g c =
    c.new-2.ensures
    ∙ ranges-listed c.push_next.new.list (λ flags. begun (λ start. nat_lt start c.args.to) (next_range flags c.args.from))
    c.new-list.ensures.bytes c.in_ok-push_next.ensures c.in-Some.ensures.text c.in-Some.ensures.flags
