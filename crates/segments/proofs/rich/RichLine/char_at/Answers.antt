use Rattle.segments.proofs.Common.{ap, ◌∙◌, arith, slice_get}
use Rattle.segments.proofs.RichLaws.{as_long, same_text}
use Rattle.segments.proofs.rich.RichLine.char_at.Goals as goal

pub at-requires : goal.at-requires
at-requires c = omega (arith, c.requires, as_long c.self.inside c.self.view_is)

pub returns : goal.returns
returns c =
    ap (λ text. slice_get text c.args.column) (same_text c.self.inside c.self.view_is) ∙ c.at.ensures
